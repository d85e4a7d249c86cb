-- To be believed: what the readings of rows are repaired to.
use Rattle.std.specs.Prelude.{ℕ, ◌==◌, Bool, false, ℤ, List, [], ◌∷◌, map, Option, Some, None, if◌then◌else◌}
use Rattle.std.specs.List.{find}
use Rattle.rule_file.specs.declared.rules.Rules.{Rules}
use Rattle.rule_file.specs.declared.rules.SpeedRule.{SpeedRule}
use Rattle.series_rows.specs.Header.{HeaderView, column_of}
use Rattle.series_rows.specs.Row.{RowView}
use Rattle.series_rows.specs.declared.cell.RowReading.{RowReading}
use Rattle.order_window.specs.declared.key.Key.{Key}
use Rattle.online_values.specs.Results.{result}
use Rattle.online_values.specs.Sensor.{speed_of}

abbrev pub is_column : ℕ → Option ℕ → Bool
is_column col None = false
is_column col (Some other) = other == col

-- the speed rule that names the sensor in a column, if there is one
abbrev pub rule_in : Rules → HeaderView → ℕ → Option SpeedRule
rule_in rules header col = find (λ (rule : SpeedRule). is_column col (column_of header rule.sensor)) rules.speeds

-- the reading in a column, if there is one
abbrev pub reading_in : ℕ → List RowReading → Option ℤ
reading_in col [] = None
reading_in col (reading ∷ readings) = if reading.col == col then Some reading.value else reading_in col readings

abbrev pub with_key : ℤ → Option ℤ → List Key → List Key
with_key ticks None keys = keys
with_key ticks (Some value) keys = record { value = value; ticks = ticks } ∷ keys

-- the readings in a column of rows, with their times, in the order of the rows
abbrev pub keys_in : ℕ → List RowView → List Key
keys_in col [] = []
keys_in col (row ∷ rows) = with_key row.ticks (reading_in col row.readings) (keys_in col rows)

-- A reading of a row as the online method repairs it, by the rule of its column: where there is none it keeps its value.
-- The rows before stand latest first, the later ones in order.
abbrev pub repaired : Option SpeedRule → ℕ → List RowView → RowView → List RowView → RowReading → ℤ
repaired None d before row later reading = reading.value
repaired (Some rule) d before row later reading =
    result (speed_of rule d) (keys_in reading.col before) (record { value = reading.value; ticks = row.ticks }) (keys_in reading.col later)

-- the readings of a row, from the left
abbrev pub repaired_row : Rules → HeaderView → List RowView → RowView → List RowView → List ℤ
repaired_row rules header before row later =
    map (λ (reading : RowReading). repaired (rule_in rules header reading.col) rules.format.decimals before row later reading) row.readings
