-- The bounds that are made are a part of all.
use Rattle.std.proofs.Common.{◌≡◌, ℕ, suc, ◌+◌, Bool, true, false, cond, not, List, [], ◌∷◌, ◌++◌, length, map, drop, Some, refl, sym, ap, ◌∙◌, arith}
use Rattle.std.specs.Prelude.{slice_get, ◌==◌}
use Rattle.std.specs.List.{AllByRecursion, flat_map}
use Rattle.std.proofs.lemmas.Bool.{eq-eqb, eqb-true}
use Rattle.std.proofs.lemmas.List.{map-append}
use Rattle.std.proofs.lemmas.List.Elements.{filter-append}
use Rattle.words.specs.Lists.{IsPart, none, kept, left_out}
use Rattle.words.proofs.Lists.{all_weaker}
use Rattle.words.proofs.Parts.{part_of_itself, part_none, part_append, part_map}
use Rattle.screen_model.specs.declared.bound.Bound.{Bound}
use Rattle.screen_model.specs.Obeys.{Priced}
use Rattle.screen_model.specs.Parts.{bounds_with_price}
use Rattle.rule_file.specs.Numbers.{Rule, speed, swing, drift, range, trust, weight, between, rule_of, rules_in_order, sensor_names, price_of}
use Rattle.rule_file.specs.declared.rules.Rules.{Rules}
use Rattle.rule_file.specs.declared.rules.SpeedRule.{SpeedRule}
use Rattle.series_rows.specs.Row.{RowView}
use Rattle.series_csv.specs.File.{TableView}
use Rattle.series_csv.specs.Readings.{places}
use Rattle.bound_maker.specs.declared.reading.Reading.{Reading}
use Rattle.bound_maker.specs.Bounds.{Ruled, all_bounds, both_sides, bounds_of_kind, bounds_of_pairs, bounds_of_rule, col_of, made_bounds, made_pairs, price_if, price_of_number, priced, second_col_of, size_bounds, speed_bound, with_columns}
use Rattle.bound_maker.specs.Laws.{AreAPart}
use Rattle.bound_maker.specs.Named.{each_pair}
use Rattle.bound_maker.specs.Readings.{all_pairs, neighbours, readings_of}
use Rattle.bound_maker.proofs.Named.{HasNumber, speed_named}
use Rattle.bound_maker.proofs.Payments.{with_price}

-- ---- a part

pub part_flat : {A B : Type 0} (f : A → List B) {part whole : List A} → IsPart part whole → IsPart (flat_map f part) (flat_map f whole)
part_flat f none = none
part_flat f (kept {x = x} rest) = part_append (part_of_itself (f x)) (part_flat f rest)
part_flat f (left_out {x = x} rest) = part_append (part_none (f x)) (part_flat f rest)

pub neighbours_part : {A : Type 0} (xs : List A) → IsPart (neighbours xs) (all_pairs xs)
neighbours_part [] = none
neighbours_part (x ∷ []) = none
neighbours_part (x ∷ y ∷ xs) = kept (part_append (part_none (map (λ z. (x, z)) xs)) (neighbours_part (y ∷ xs)))

choice_part : {A : Type 0} (b : Bool) (xs ys : List A) → IsPart xs ys → IsPart (cond b xs ys) ys
choice_part true xs ys h = h
choice_part false xs ys h = part_of_itself ys

pub kind_part : (d : ℕ) (rows : List RowView) (number col second : ℕ) (rule : Rule) → IsPart (bounds_of_kind made_pairs d rows number col second rule) (bounds_of_kind each_pair d rows number col second rule)
kind_part d rows number col second (speed rule) =
    let readings = readings_of col rows in
    part_flat (λ pair. both_sides (speed_bound number rule d col pair.0.stamp pair.1.stamp))
    (choice_part (rule.price == 0) (neighbours readings) (all_pairs readings) (neighbours_part readings))
kind_part d rows number col second (swing rule) = part_of_itself _
kind_part d rows number col second (drift rule) = part_of_itself _
kind_part d rows number col second (range rule) = part_of_itself _
kind_part d rows number col second (trust rule) = part_of_itself _
kind_part d rows number col second (weight rule) = part_of_itself _
kind_part d rows number col second (between rule) = part_of_itself _

pub rules_part : (d : ℕ) (rows : List RowView) (ruled : List Ruled) → IsPart (flat_map (bounds_of_rule made_pairs d rows) ruled) (flat_map (bounds_of_rule each_pair d rows) ruled)
rules_part d rows [] = none
rules_part d rows (r ∷ ruled) = part_append (kind_part d rows r.number (col_of r) (second_col_of r) r.rule) (rules_part d rows ruled)

pub made_part : (rules : Rules) (table : TableView) → IsPart (made_bounds rules table) (all_bounds rules table)
made_part rules table =
    part_append (part_of_itself (size_bounds (places table)))
    (rules_part rules.format.decimals table.rows (with_columns 1 (rules_in_order rules) table.header.sensor_cols))

-- ---- the rules by their numbers

-- the rule is that of its number
abbrev pub IsOfNumber : Rules → Ruled → Type 0
IsOfNumber rules ruled = rule_of rules ruled.number ≡ Some ruled.rule

pub with_columns_ruled : (rules : Rules) (k : ℕ) (rest : List Rule) (cols : List ℕ) → ((j : ℕ) → slice_get (rules_in_order rules) (k + j) ≡ slice_get rest j) → AllByRecursion (IsOfNumber rules) (with_columns (suc k) rest cols)
with_columns_ruled rules k [] cols stand = tt
with_columns_ruled rules k (rule ∷ rest) cols stand =
    let at : k ≡ k + 0 = omega arith in (
      ap (slice_get (rules_in_order rules)) at ∙ stand 0,
      with_columns_ruled rules (suc k) rest (drop (length (sensor_names rule)) cols)
          (λ j. let next : suc k + j ≡ k + suc j = omega arith in ap (slice_get (rules_in_order rules)) next ∙ stand (suc j)),
    )

pub all_ruled : (rules : Rules) (cols : List ℕ) → AllByRecursion (IsOfNumber rules) (with_columns 1 (rules_in_order rules) cols)
all_ruled rules cols = with_columns_ruled rules 0 (rules_in_order rules) cols (λ j. let same : 0 + j ≡ j = omega arith in ap (slice_get (rules_in_order rules)) same)

-- what the number of a rule tells of its price
pub price_is : (rules : Rules) (number : ℕ) (rule : Rule) → rule_of rules number ≡ Some rule → price_of_number rules number ≡ price_of rule
price_is rules number rule is = ap price_if is

-- ---- the bounds with a price

-- those with a price, of bounds without prices beside them
abbrev pub dear : Rules → List Bound → List Priced
dear rules bounds = bounds_with_price (priced rules bounds)

pub dear-append : (rules : Rules) (xs ys : List Bound) → dear rules (xs ++ ys) ≡ dear rules xs ++ dear rules ys
dear-append rules xs ys =
    ap bounds_with_price (map-append (with_price rules) xs ys)
    ∙ filter-append (λ (priced : Priced). not (priced.price == 0)) (priced rules xs) (priced rules ys)

-- the number has no price
abbrev pub IsFree : Rules → Bound → Type 0
IsFree rules bound = price_of_number rules bound.name.rule ≡ 0

free_step : (x : Priced) (rest : List Priced) (b : Bool) → b ≡ true → cond (not b) (x ∷ rest) rest ≡ rest
free_step x rest b h = ap (λ b. cond (not b) (x ∷ rest) rest) h

pub none_dear : (rules : Rules) (bounds : List Bound) → AllByRecursion (IsFree rules) bounds → dear rules bounds ≡ []
none_dear rules [] free = refl
none_dear rules (bound ∷ bounds) free =
    free_step (with_price rules bound) (dear rules bounds) (price_of_number rules bound.name.rule == 0) (eq-eqb (price_of_number rules bound.name.rule) 0 free.0)
    ∙ none_dear rules bounds free.1

-- a speed rule: with a price it has all pairs, and without one its bounds have none
speed_dear : (rules : Rules) (number : ℕ) (rule : SpeedRule) (d col : ℕ) (readings : List Reading) (b : Bool) → (rule.price == 0) ≡ b → price_of_number rules number ≡ rule.price
    → dear rules (bounds_of_pairs (speed_bound number rule d col) (cond b (neighbours readings) (all_pairs readings))) ≡ dear rules (bounds_of_pairs (speed_bound number rule d col) (all_pairs readings))
speed_dear rules number rule d col readings false test price = refl
speed_dear rules number rule d col readings true test price =
    let zero_price : price_of_number rules number ≡ 0 = price ∙ eqb-true rule.price 0 test in
    let free = λ (pairs : List (Reading × Reading)). none_dear rules (bounds_of_pairs (speed_bound number rule d col) pairs)
    (all_weaker (HasNumber number) (IsFree rules) (λ bound is. ap (price_of_number rules) is ∙ zero_price) (bounds_of_pairs (speed_bound number rule d col) pairs) (speed_named number rule d col pairs)) in
    free (neighbours readings) ∙ sym (free (all_pairs readings))

pub kind_dear : (rules : Rules) (d : ℕ) (rows : List RowView) (number col second : ℕ) (rule : Rule) → rule_of rules number ≡ Some rule
    → dear rules (bounds_of_kind made_pairs d rows number col second rule) ≡ dear rules (bounds_of_kind each_pair d rows number col second rule)
kind_dear rules d rows number col second (speed rule) is = speed_dear rules number rule d col (readings_of col rows) (rule.price == 0) refl (price_is rules number (speed rule) is)
kind_dear rules d rows number col second (swing rule) is = refl
kind_dear rules d rows number col second (drift rule) is = refl
kind_dear rules d rows number col second (range rule) is = refl
kind_dear rules d rows number col second (trust rule) is = refl
kind_dear rules d rows number col second (weight rule) is = refl
kind_dear rules d rows number col second (between rule) is = refl

pub rules_dear : (rules : Rules) (d : ℕ) (rows : List RowView) (ruled : List Ruled) → AllByRecursion (IsOfNumber rules) ruled
    → dear rules (flat_map (bounds_of_rule made_pairs d rows) ruled) ≡ dear rules (flat_map (bounds_of_rule each_pair d rows) ruled)
rules_dear rules d rows [] all = refl
rules_dear rules d rows (r ∷ ruled) all =
    dear-append rules (bounds_of_rule made_pairs d rows r) (flat_map (bounds_of_rule made_pairs d rows) ruled)
    ∙ (ap (λ ps. ps ++ dear rules (flat_map (bounds_of_rule made_pairs d rows) ruled)) (kind_dear rules d rows r.number (col_of r) (second_col_of r) r.rule all.0)
    ∙ (ap (λ ps. dear rules (bounds_of_rule each_pair d rows r) ++ ps) (rules_dear rules d rows ruled all.1)
    ∙ sym (dear-append rules (bounds_of_rule each_pair d rows r) (flat_map (bounds_of_rule each_pair d rows) ruled))))

pub made_dear : (rules : Rules) (table : TableView) → dear rules (made_bounds rules table) ≡ dear rules (all_bounds rules table)
made_dear rules table =
    let ruled = with_columns 1 (rules_in_order rules) table.header.sensor_cols in
    let sizes = size_bounds (places table) in
    let d = rules.format.decimals in
    dear-append rules sizes (flat_map (bounds_of_rule made_pairs d table.rows) ruled)
    ∙ (ap (λ ps. dear rules sizes ++ ps) (rules_dear rules d table.rows ruled (all_ruled rules table.header.sensor_cols))
    ∙ sym (dear-append rules sizes (flat_map (bounds_of_rule each_pair d table.rows) ruled)))

pub are_a_part : (rules : Rules) (table : TableView) → AreAPart rules table
are_a_part rules table = record {
  part = part_map (with_price rules) (made_part rules table);
  prices = made_dear rules table;
}
