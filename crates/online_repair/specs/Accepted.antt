-- To be believed: which rows are accepted, and which of them are held.
use Rattle.std.specs.Prelude.{ℕ, suc, ◌&&◌, nat_le, Bool, false, ℤ, pos, ◌-ℤ◌, int_le, int_lt, List, [], ◌∷◌, ◌++◌, length, reverse, Option, Some, None, option_map, if◌then◌else◌}
use Rattle.std.specs.Int.{int_max}
use Rattle.std.specs.List.{find, list_any}
use Rattle.rule_file.specs.declared.rules.Rules.{Rules}
use Rattle.rule_file.specs.declared.rules.SpeedRule.{SpeedRule}
use Rattle.series_rows.specs.Header.{HeaderView}
use Rattle.series_rows.specs.Row.{RowView}
use Rattle.series_rows.specs.declared.cell.RowReading.{RowReading}
use Rattle.order_window.specs.declared.key.Key.{Key}
use Rattle.online_values.specs.Results.{Speed, greatest_step, least_step}
use Rattle.online_values.specs.Sensor.{speed_of}
use Rattle.online_repair.specs.Rows.{keys_in, rule_in}
use Rattle.online_repair.specs.declared.fault.OnlineFault.{OnlineFault}
use Rattle.online_repair.specs.declared.fault.OnlineFault.TheVariants.{WindowFull, NoWholeStep}

-- the greatest window of speed rules; 0 where there is none
abbrev pub greatest_window : List SpeedRule → ℤ
greatest_window [] = pos 0
greatest_window (rule ∷ rules) = int_max rule.window (greatest_window rules)

-- A row is ready: one of these later rows lies more than the greatest window past it.
abbrev pub is_ready : ℤ → RowView → List RowView → Bool
is_ready most row later = list_any (λ (other : RowView). int_lt most (other.ticks -ℤ row.ticks)) later

-- the rows that are held: those that are not ready
abbrev pub held : ℤ → List RowView → List RowView
held most [] = []
held most (row ∷ later) = if is_ready most row later then held most later else row ∷ held most later

-- As many rows are held as may be, and the row lies no more than the greatest window past the oldest of them.
abbrev pub is_full : ℕ → ℤ → List RowView → RowView → Bool
is_full hold most [] row = false
is_full hold most (oldest ∷ others) row = nat_le hold (length (oldest ∷ others)) && int_le (row.ticks -ℤ oldest.ticks) most

-- no whole step leads from the last of these readings, which stand latest first, to a time within the window
abbrev pub lacks_step : Speed → List Key → ℤ → Bool
lacks_step speed [] now = false
lacks_step speed (last ∷ earlier) now =
    int_le (now -ℤ last.ticks) speed.span && int_lt (greatest_step speed (now -ℤ last.ticks)) (least_step speed (now -ℤ last.ticks))

abbrev pub lacks_step_by : Option SpeedRule → ℕ → ℕ → List RowView → ℤ → Bool
lacks_step_by None d col before now = false
lacks_step_by (Some rule) d col before now = lacks_step (speed_of rule d) (keys_in col (reverse before)) now

-- the first reading of a row, from the left, to which no whole step leads from the rows before, which stand in order
abbrev pub without_step : Rules → HeaderView → List RowView → RowView → Option RowReading
without_step rules header before row =
    find (λ (reading : RowReading). lacks_step_by (rule_in rules header reading.col) rules.format.decimals reading.col before row.ticks) row.readings

-- why a row is refused after these rows, if it is
abbrev pub refusal : Rules → HeaderView → List RowView → RowView → Option OnlineFault
refusal rules header before row =
    let number = suc (length before) in
    if is_full rules.format.hold (greatest_window rules.speeds) (held (greatest_window rules.speeds) before) row
    then Some (WindowFull number)
    else option_map (λ (reading : RowReading). NoWholeStep number reading.col) (without_step rules header before row)

-- the rows that are accepted, and why no more are
pub record Accepted : Type 0 where
  pub rows : List RowView
  pub fault : Option OnlineFault

abbrev pub unless_refused : List RowView → Option OnlineFault → Accepted → Accepted
unless_refused before None others = others
unless_refused before (Some fault) others = record { rows = before; fault = Some fault }

-- Of these rows, after those that are accepted before, all up to the first that is refused. `last` is the fault that comes
-- after all rows, if there is one.
abbrev pub accept : Rules → HeaderView → List RowView → List RowView → Option OnlineFault → Accepted
accept rules header before [] last = record { rows = before; fault = last }
accept rules header before (row ∷ rows) last =
    unless_refused before (refusal rules header before row) (accept rules header (before ++ row ∷ []) rows last)
