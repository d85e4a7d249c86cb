-- The rules one after the other, each with the columns of its sensors, as a loop goes over them.
use Rattle.std.proofs.Common.{◌≡◌, ℕ, zero, suc, ◌+◌, ◌≤◌, List, [], ◌∷◌, ◌++◌, length, map, take, drop, get_or, Option, Some, None, refl, sym, ap, ◌∙◌, arith}
use Rattle.std.specs.Prelude.{slice_get}
use Rattle.std.specs.List.{AllByRecursion, flat_map}
use Rattle.std.proofs.lemmas.List.{drop-drop}
use Rattle.std.proofs.lemmas.List.Elements.{recursion_from_All}
use Rattle.words.proofs.Lists.{all_append, all_at, all_map, all_weaker}
use Rattle.rule_file.specs.Limits.{AreInReach}
use Rattle.rule_file.specs.Numbers.{Rule, speed, swing, drift, range, trust, weight, between, rules_in_order, sensor_names}
use Rattle.rule_file.specs.declared.rules.Rules.{Rules}
use Rattle.rule_file.specs.declared.rules.SpeedRule.{SpeedRule}
use Rattle.rule_file.specs.declared.rules.DriftRule.{DriftRule}
use Rattle.series_rows.specs.Row.{RowView}
use Rattle.bound_maker.specs.declared.reading.Reading.{Reading}
use Rattle.bound_maker.specs.Bounds.{bounds_of_kind, bounds_of_rule, with_columns}
use Rattle.bound_maker.specs.Pairs.{IsBounded}
use Rattle.bound_maker.proofs.Found.{contains_at}
use Rattle.bound_maker.proofs.Weights.{first_col}

none_is_some : {A : Type 0} (x : A) → ◌≡◌ {A = Option A} None (Some x) → ⊥
none_is_some x e = cc

-- ---- columns

first_of_two : (place : ℕ) (cols : List ℕ) → get_or (take 2 (drop place cols)) 0 0 ≡ get_or cols place 0
first_of_two zero [] = refl
first_of_two zero (c ∷ cols) = refl
first_of_two (suc place) [] = refl
first_of_two (suc place) (c ∷ cols) = first_of_two place cols

second_of_two : (place : ℕ) (cols : List ℕ) → get_or (take 2 (drop place cols)) 1 0 ≡ get_or cols (suc place) 0
second_of_two zero [] = refl
second_of_two zero (c ∷ []) = refl
second_of_two zero (c ∷ d ∷ cols) = refl
second_of_two (suc place) [] = refl
second_of_two (suc place) (c ∷ cols) = second_of_two place cols

-- the columns of a rule
abbrev pub cols_from : ℕ → List ℕ → Rule → List ℕ
cols_from place cols rule = take (length (sensor_names rule)) (drop place cols)

module _ (pairs : SpeedRule → List Reading → List (Reading × Reading)) (d : ℕ) (rows : List RowView) (number : ℕ) where
  -- the bounds of a rule with the columns of its sensors, told one by one
  pub kind_same : (place : ℕ) (cols : List ℕ) (rule : Rule) (second : ℕ) → second ≡ get_or cols (suc place) 0
      → bounds_of_kind pairs d rows number (get_or (cols_from place cols rule) 0 0) (get_or (cols_from place cols rule) 1 0) rule ≡ bounds_of_kind pairs d rows number (get_or cols place 0) second rule
  kind_same place cols (speed rule) second is = ap (λ c. bounds_of_kind pairs d rows number c second (speed rule)) (first_col place cols)
  kind_same place cols (swing rule) second is = ap (λ c. bounds_of_kind pairs d rows number c second (swing rule)) (first_col place cols)
  kind_same place cols (drift rule) second is = ap (λ c. bounds_of_kind pairs d rows number c second (drift rule)) (first_col place cols)
  kind_same place cols (range rule) second is = ap (λ c. bounds_of_kind pairs d rows number c second (range rule)) (first_col place cols)
  kind_same place cols (trust rule) second is = ap (λ c. bounds_of_kind pairs d rows number c second (trust rule)) (first_col place cols)
  kind_same place cols (weight rule) second is = refl
  kind_same place cols (between rule) second is =
      ap (λ c. bounds_of_kind pairs d rows number c (get_or (take 2 (drop place cols)) 1 0) (between rule)) (first_of_two place cols)
      ∙ ap (λ c. bounds_of_kind pairs d rows number (get_or cols place 0) c (between rule)) (second_of_two place cols ∙ sym is)

-- ---- one rule more

rule_first : (rules : List Rule) (k : ℕ) (rule : Rule) → slice_get rules k ≡ Some rule → drop k rules ≡ rule ∷ drop (suc k) rules
rule_first [] k rule found = absurd (none_is_some rule found)
rule_first (r ∷ rules) zero rule found = let same : r ≡ rule = cc in ap (λ x. x ∷ rules) same
rule_first (r ∷ rules) (suc k) rule found = rule_first rules k rule found

pub rules_more : (rules : List Rule) (cols : List ℕ) (k place : ℕ) (rule : Rule) → slice_get rules k ≡ Some rule
    → with_columns (suc k) (drop k rules) (drop place cols)
    ≡ record { number = suc k; rule = rule; cols = cols_from place cols rule } ∷ with_columns (suc (suc k)) (drop (suc k) rules) (drop (place + length (sensor_names rule)) cols)
rules_more rules cols k place rule found =
    ap (λ rs. with_columns (suc k) rs (drop place cols)) (rule_first rules k rule found)
    ∙ ap (λ cs. record { number = suc k; rule = rule; cols = cols_from place cols rule } ∷ with_columns (suc (suc k)) (drop (suc k) rules) cs) (drop-drop (length (sensor_names rule)) place cols)

pub bounds_more : (pairs : SpeedRule → List Reading → List (Reading × Reading)) (d : ℕ) (rows : List RowView) (rules : List Rule) (cols : List ℕ) (k place : ℕ) (rule : Rule) (second : ℕ) → slice_get rules k ≡ Some rule → second ≡ get_or cols (suc place) 0
    → flat_map (bounds_of_rule pairs d rows) (with_columns (suc k) (drop k rules) (drop place cols))
    ≡ bounds_of_kind pairs d rows (suc k) (get_or cols place 0) second rule ++ flat_map (bounds_of_rule pairs d rows) (with_columns (suc (suc k)) (drop (suc k) rules) (drop (place + length (sensor_names rule)) cols))
bounds_more pairs d rows rules cols k place rule second found is =
    let later = flat_map (bounds_of_rule pairs d rows) (with_columns (suc (suc k)) (drop (suc k) rules) (drop (place + length (sensor_names rule)) cols)) in
    ap (flat_map (bounds_of_rule pairs d rows)) (rules_more rules cols k place rule found)
    ∙ ap (λ bs. bs ++ later) (kind_same pairs d rows (suc k) place cols rule second is)

-- ---- what the rules keep

free_map : {A : Type 0} (d : ℕ) (f : A → Rule) → ((x : A) → IsBounded d (f x)) → (xs : List A) → AllByRecursion (IsBounded d) (map f xs)
free_map d f free [] = tt
free_map d f free (x ∷ xs) = (free x, free_map d f free xs)

pub all_bounded : (rules : Rules) → AllByRecursion (IsBounded rules.format.decimals) (rules_in_order rules)
all_bounded rules =
    let d = rules.format.decimals in
    let few : d ≤ 6 = omega (arith, rules.format.limits.decimals) in
    let a = map speed rules.speeds in
    let b = map swing rules.swings in
    let c = map drift rules.drifts in
    let e = map range rules.ranges in
    let f = map trust rules.trusts in
    let g = map weight rules.weights in
    let h = map between rules.betweens in
    let speeds = recursion_from_All (λ (rule : SpeedRule). AreInReach d rule.min rule.max rule.window) rules.speeds rules.speed_reach in
    let drifts = recursion_from_All (λ (rule : DriftRule). AreInReach d rule.min rule.max rule.window) rules.drifts rules.drift_reach in
    all_append (IsBounded d) (a ++ b ++ c ++ e ++ f ++ g) h
    (all_append (IsBounded d) (a ++ b ++ c ++ e ++ f) g
    (all_append (IsBounded d) (a ++ b ++ c ++ e) f
    (all_append (IsBounded d) (a ++ b ++ c) e
    (all_append (IsBounded d) (a ++ b) c
    (all_append (IsBounded d) a b
    (all_map (IsBounded d) speed rules.speeds (all_weaker (λ (rule : SpeedRule). AreInReach d rule.min rule.max rule.window) (λ (rule : SpeedRule). IsBounded d (speed rule)) (λ rule reach. (few, reach)) rules.speeds speeds))
    (free_map d swing (λ rule. tt) rules.swings))
    (all_map (IsBounded d) drift rules.drifts (all_weaker (λ (rule : DriftRule). AreInReach d rule.min rule.max rule.window) (λ (rule : DriftRule). IsBounded d (drift rule)) (λ rule reach. (few, reach)) rules.drifts drifts)))
    (free_map d range (λ rule. tt) rules.ranges))
    (free_map d trust (λ rule. tt) rules.trusts))
    (free_map d weight (λ rule. tt) rules.weights))
    (free_map d between (λ rule. tt) rules.betweens)

pub bounded_rule : (rules : Rules) (k : ℕ) (rule : Rule) → slice_get (rules_in_order rules) k ≡ Some rule → IsBounded rules.format.decimals rule
bounded_rule rules k rule found =
    all_at (IsBounded rules.format.decimals) (rules_in_order rules) rule (all_bounded rules) (contains_at (rules_in_order rules) k rule found)
