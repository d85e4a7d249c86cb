-- To be believed: what the repaired readings of the rows that are accepted are good for; and that a file has an output, and
-- one only, and a refusal stays.
use Rattle.std.specs.Prelude.{◌≡◌, ℕ, Bool, false, ℤ, ◌-ℤ◌, ◌≤ℤ◌, List, [], ◌∷◌, ◌++◌, reverse, Some, option_map}
use Rattle.rule_file.specs.declared.rules.Rules.{Rules}
use Rattle.rule_file.specs.declared.rules.SpeedRule.{SpeedRule}
use Rattle.series_rows.specs.Header.{HeaderView}
use Rattle.series_rows.specs.Row.{RowView}
use Rattle.series_rows.specs.declared.cell.RowReading.{RowReading}
use Rattle.series_csv.specs.Read.{Read}
use Rattle.online_values.specs.Laws.{CostsLeast}
use Rattle.online_values.specs.Results.{greatest_step, least_step}
use Rattle.online_values.specs.Sensor.{speed_of}
use Rattle.online_repair.specs.Accepted.{accept}
use Rattle.online_repair.specs.Output.{IsOutput, Output, Reads}
use Rattle.online_repair.specs.Rows.{keys_in, reading_in, repaired, rule_in}
use Rattle.online_repair.specs.declared.fault.OnlineFault.{OnlineFault}
use Rattle.online_repair.specs.declared.fault.OnlineFault.TheVariants.{Table}

abbrev pub reading_of : ℕ → ℤ → RowReading
reading_of col value = record { col = col; value = value }

-- A row has this reading in a column, of which this rule speaks. Before it stand the rows before, the latest first, and the
-- later ones after it, in order.
pub record IsReading (rules : Rules) (header : HeaderView) (rows before : List RowView) (row : RowView) (later : List RowView) (col : ℕ) (value : ℤ) (rule : SpeedRule) : Type 0 where
  pub rows_are : rows ≡ reverse before ++ (row ∷ later)
  pub reads : reading_in col row.readings ≡ Some value
  pub rule_is : rule_in rules header col ≡ Some rule

-- each reading is repaired to a value of the least local cost, of those that are allowed after the reading before
abbrev pub CostLeast : Rules → HeaderView → List RowView → Type 0
CostLeast rules header rows =
    (before : List RowView) (row : RowView) (later : List RowView) (col : ℕ) (value : ℤ) (rule : SpeedRule) → IsReading rules header rows before row later col value rule
    → CostsLeast (speed_of rule rules.format.decimals) (keys_in col before) (record { value = value; ticks = row.ticks }) (keys_in col later)

-- The repaired values of two readings of a sensor, no further apart than the window, are apart by no less than the least
-- step in the time between them and by no more than the greatest.
abbrev pub KeepRates : Rules → HeaderView → List RowView → Type 0
KeepRates rules header rows =
    (before : List RowView) (first : RowView) (between : List RowView) (second : RowView) (later : List RowView) (col : ℕ) (x y : ℤ) (rule : SpeedRule)
    → IsReading rules header rows before first (between ++ (second ∷ later)) col x rule → IsReading rules header rows (reverse between ++ (first ∷ before)) second later col y rule
    → (second.ticks -ℤ first.ticks) ≤ℤ rule.window
    → let d = rules.format.decimals in
    let dt = second.ticks -ℤ first.ticks in
    let change = repaired (Some rule) d (reverse between ++ (first ∷ before)) second later (reading_of col y) -ℤ repaired (Some rule) d before first (between ++ (second ∷ later)) (reading_of col x) in
    (least_step (speed_of rule d) dt ≤ℤ change) × (change ≤ℤ greatest_step (speed_of rule d) dt)

-- it is so of the rows of every file that are accepted, whether it has ended or goes on
abbrev pub OfAccepted : (Rules → HeaderView → List RowView → Type 0) → Type 0
OfAccepted Holds =
    (rules : Rules) (ended : Bool) (bytes : List ℕ) (read : Read) (header : HeaderView) → Reads rules ended bytes read → read.header ≡ Some header
    → Holds rules header (accept rules header [] read.rows (option_map Table read.fault)).rows

abbrev pub RepairsCostLeast : Type 0
RepairsCostLeast = OfAccepted CostLeast

abbrev pub RepairsKeepRates : Type 0
RepairsKeepRates = OfAccepted KeepRates

-- the bytes of a file have one output only
abbrev pub OutputsAreOne : Type 0
OutputsAreOne = (rules : Rules) (ended : Bool) (bytes : List ℕ) (one other : Output) → IsOutput rules ended bytes one → IsOutput rules ended bytes other → one ≡ other

-- and they have one, whatever they are
abbrev pub OutputsExist : Type 0
OutputsExist = (rules : Rules) (ended : Bool) (bytes : List ℕ) → (out : Output) × IsOutput rules ended bytes out

-- What is refused at a front of a file is refused whatever follows, and whether it has ended: for the same reason, and with
-- the same text.
abbrev pub RefusalsStay : Type 0
RefusalsStay =
    (rules : Rules) (ended : Bool) (front rest : List ℕ) (out now : Output) (fault : OnlineFault) → IsOutput rules false front out → out.fault ≡ Some fault → IsOutput rules ended (front ++ rest) now
    → (now.fault ≡ Some fault) × (now.text ≡ out.text)
