-- The laws of the repaired rows.
use Rattle.std.proofs.Common.{◌≡◌, ℕ, ℤ, ◌-ℤ◌, ◌≤ℤ◌, List, [], ◌∷◌, ◌++◌, reverse, sym, ap, ◌∙◌, subst}
use Rattle.std.specs.Prelude.{Option, Some, option_map}
use Rattle.std.proofs.lemmas.List.{reverse-reverse}
use Rattle.series_rows.specs.Row.{RowView}
use Rattle.order_window.specs.declared.key.Key.{Key}
use Rattle.online_values.specs.Laws.{AreReadings, CostsLeast, KeepsRates}
use Rattle.online_values.specs.Results.{Speed, greatest_step, least_step, result}
use Rattle.online_values.specs.Sensor.{speed_of}
use Rattle.online_values.proofs.Steps.{le_true}
use Rattle.online_repair.specs.Accepted.{accept}
use Rattle.online_repair.specs.Laws.{RepairsCostLeast, RepairsKeepRates}
use Rattle.online_repair.specs.Rows.{keys_in, with_key}
use Rattle.online_repair.specs.declared.fault.OnlineFault.TheVariants.{Table}
use Rattle.online_repair.proofs.Beyond.{keys_append}
use Rattle.online_repair.proofs.FromFile.{read_placed}
use Rattle.online_repair.proofs.Following.{are_readings, keys_reverse, rows_series}

-- what is proved of the readings of one sensor
abbrev ResultsCostLeast : Type 0
ResultsCostLeast = (speed : Speed) (earlier : List Key) (own : Key) (later : List Key) → AreReadings speed earlier own later → CostsLeast speed earlier own later

abbrev ResultsKeepRates : Type 0
ResultsKeepRates = (speed : Speed) (before : List Key) (first : Key) (between : List Key) (own : Key) (later : List Key) → AreReadings speed (between ++ first ∷ before) own later → KeepsRates speed before first between own later

pub cost_least : ResultsCostLeast → RepairsCostLeast
cost_least law = λ rules ended bytes read header reads is. λ before row later col value rule reading.
    law (speed_of rule rules.format.decimals) (keys_in col before) (record { value = value; ticks = row.ticks }) (keys_in col later)
    (are_readings rules header (accept rules header [] read.rows (option_map Table read.fault)).rows before row later col value rule reading
    (rows_series rules header read.rows (option_map Table read.fault) col rule (read_placed rules ended bytes read reads) reading.rule_is))

-- ---- two readings

keys_between : (col : ℕ) (rows : List RowView) (row : RowView) (more : List RowView) (value : ℤ) (o : Option ℤ) → o ≡ Some value → keys_in col rows ++ with_key row.ticks o (keys_in col more) ≡ keys_in col rows ++ (record { value = value; ticks = row.ticks } ∷ keys_in col more)
keys_between col rows row more value o e = ap (λ (x : Option ℤ). keys_in col rows ++ with_key row.ticks x (keys_in col more)) e

-- the change between two repaired values
abbrev change : Speed → List Key → Key → List Key → List Key → Key → List Key → ℤ
change speed before first later earlier own after = result speed earlier own after -ℤ result speed before first later

pub keep_rates : ResultsKeepRates → RepairsKeepRates
keep_rates law = λ rules ended bytes read header reads is. λ before first between second later col x y rule one other near.
    let speed = speed_of rule rules.format.decimals in
    let rows = (accept rules header [] read.rows (option_map Table read.fault)).rows in
    let series = rows_series rules header read.rows (option_map Table read.fault) col rule (read_placed rules ended bytes read reads) other.rule_is in
    let own : Key = record { value = y; ticks = second.ticks } in
    let start : Key = record { value = x; ticks = first.ticks } in
    let earlier_is = keys_append col (reverse between) (first ∷ before) ∙ keys_between col (reverse between) first before x _ one.reads in
    let later_is = keys_append col between (second ∷ later) ∙ keys_between col between second later y _ other.reads in
    let between_is : reverse (keys_in col (reverse between)) ≡ keys_in col between = ap reverse (keys_reverse col between) ∙ reverse-reverse (keys_in col between) in
    let A : List Key → Type 0 = λ keys. AreReadings speed keys own (keys_in col later) in
    let about = subst A earlier_is (are_readings rules header rows (reverse between ++ (first ∷ before)) second later col y rule other series) in
    let kept = law speed (keys_in col before) start (keys_in col (reverse between)) own (keys_in col later) about (le_true (second.ticks -ℤ first.ticks) rule.window near) in
    let C : ℤ → Type 0 = λ c. (least_step speed (second.ticks -ℤ first.ticks) ≤ℤ c) × (c ≤ℤ greatest_step speed (second.ticks -ℤ first.ticks)) in
    let same = ap (λ (keys : List Key). change speed (keys_in col before) start (reverse (keys_in col (reverse between)) ++ (own ∷ keys_in col later)) keys own (keys_in col later)) (sym earlier_is)
    ∙ ap (λ (keys : List Key). change speed (keys_in col before) start (keys ++ (own ∷ keys_in col later)) (keys_in col (reverse between ++ (first ∷ before))) own (keys_in col later)) between_is
    ∙ ap (λ (keys : List Key). change speed (keys_in col before) start keys (keys_in col (reverse between ++ (first ∷ before))) own (keys_in col later)) (sym later_is) in
    subst C same kept
