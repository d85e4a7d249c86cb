-- To be believed: the text that the online method writes for the bytes of a readings file, what it holds, and its refusal.
use Rattle.std.specs.Prelude.{◌≡◌, ℕ, suc, ◌&&◌, ◌||◌, not, nat_le, Bool, true, false, ℤ, unsigned_abs, List, [], ◌∷◌, ◌++◌, Option, Some, None, is_none, option_map, if◌then◌else◌}
use Rattle.std.specs.List.{find, list_all}
use Rattle.std.specs.Option.{option_or}
use Rattle.fix_point.specs.declared.scale.TheConstants.{MOST_UNITS}
use Rattle.rule_file.specs.declared.rules.Rules.{Rules}
use Rattle.series_rows.specs.Header.{HeaderView}
use Rattle.series_rows.specs.Row.{RowView}
use Rattle.series_rows.specs.Texts.{header_text, row_text_with}
use Rattle.series_rows.specs.declared.cell.RowReading.{RowReading}
use Rattle.series_rows.specs.declared.limits.Limits.TheVariants.{Endless}
use Rattle.series_csv.specs.Read.{Read}
use Rattle.series_csv.specs.File.{ReadsSoFar, ReadsEnded}
use Rattle.online_repair.specs.Rows.{repaired, repaired_row, rule_in}
use Rattle.online_repair.specs.Accepted.{Accepted, accept, greatest_window, held, is_ready}
use Rattle.online_repair.specs.declared.fault.OnlineFault.{OnlineFault}
use Rattle.online_repair.specs.declared.fault.OnlineFault.TheVariants.{Table, LeavesRange}

-- at most 10^15 units in size
abbrev pub is_small : ℤ → Bool
is_small value = nat_le (unsigned_abs value) (unsigned_abs MOST_UNITS)

-- the first reading of a row, from the left, whose value is too large
abbrev pub too_large : Rules → HeaderView → List RowView → RowView → List RowView → Option RowReading
too_large rules header before row later =
    find (λ (reading : RowReading). not (is_small (repaired (rule_in rules header reading.col) rules.format.decimals before row later reading))) row.readings

module _ (rules : Rules) (header : HeaderView) (all : Bool) where
  -- a row is written: all are, or it is ready
  abbrev pub is_due : RowView → List RowView → Bool
  is_due row later = all || is_ready (greatest_window rules.speeds) row later

  -- The texts of the rows that are due, up to the first of which a value is too large. The rows before stand latest first.
  abbrev pub texts : List RowView → List RowView → List ℕ
  texts before [] = []
  texts before (row ∷ later) =
      let values = repaired_row rules header before row later in
      if is_due row later
      then (if list_all is_small values then row_text_with rules row values ++ texts (row ∷ before) later else [])
      else texts (row ∷ before) later

  -- the fault of the first value that is too large, in the rows that are due; the first of them has the number given
  abbrev pub leaving : ℕ → List RowView → List RowView → Option OnlineFault
  leaving number before [] = None
  leaving number before (row ∷ later) =
      let others = leaving (suc number) (row ∷ before) later in
      if is_due row later
      then option_or (option_map (λ (reading : RowReading). LeavesRange number reading.col) (too_large rules header before row later)) others
      else others

-- What is written, which rows are held, and the refusal, if there is one.
pub record Output : Type 0 where
  pub text : List ℕ
  pub held : List RowView
  pub fault : Option OnlineFault

-- where the input has ended and no row was refused, all rows are written
abbrev pub output_of : Rules → HeaderView → Bool → Accepted → Output
output_of rules header ended accepted =
    let all = ended && is_none accepted.fault in
    record {
      text = header_text rules header ++ texts rules header all [] accepted.rows;
      held = if all then [] else held (greatest_window rules.speeds) accepted.rows;
      fault = option_or (leaving rules header all 1 [] accepted.rows) accepted.fault;
    }

-- the output for a file of which this was read, and which has ended or may go on
abbrev pub output_with : Rules → Bool → Option HeaderView → List RowView → Option OnlineFault → Output
output_with rules ended None rows fault = record { text = []; held = []; fault = fault }
output_with rules ended (Some header) rows fault = output_of rules header ended (accept rules header [] rows fault)

abbrev pub output : Rules → Bool → Read → Output
output rules ended read = output_with rules ended read.header read.rows (option_map Table read.fault)

-- what was read of the bytes of a file that has ended, or may go on
abbrev pub Reads : Rules → Bool → List ℕ → Read → Type 0
Reads rules true bytes read = ReadsEnded rules Endless bytes read
Reads rules false bytes read = ReadsSoFar rules Endless bytes read

-- this is the output for the bytes of a file
pub record IsOutput (rules : Rules) (ended : Bool) (bytes : List ℕ) (out : Output) : Type 0 where
  pub read : Read
  pub reads : Reads rules ended bytes read
  pub is : out ≡ output rules ended read
