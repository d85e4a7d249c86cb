-- The bounds of the rules that are left, as a loop over the rules makes them.
use Rattle.std.proofs.Common.{◌≡◌, ℕ, zero, suc, ◌+◌, ◌<◌, ◌≤◌, min, List, [], ◌∷◌, ◌++◌, length, drop, get_or, Option, Some, None, refl, sym, ap, ◌∙◌, append_assoc, arith}
use Rattle.std.specs.Prelude.{slice_get}
use Rattle.std.specs.List.{flat_map}
use Rattle.std.proofs.lemmas.List.{append-nil, drop_all, length-append, length-map}
use Rattle.std.proofs.lemmas.Option.{slice_get_within}
use Rattle.screen_model.specs.declared.bound.Bound.{Bound}
use Rattle.rule_file.specs.Count.{count_of}
use Rattle.rule_file.specs.Numbers.{Rule, speed, swing, drift, range, trust, weight, between, rule_of, rules_in_order, sensor_names}
use Rattle.rule_file.specs.declared.rules.Rules.{Rules}
use Rattle.series_csv.specs.File.{TableView}
use Rattle.series_csv.specs.Readings.{places}
use Rattle.bound_maker.specs.Bounds.{bounds_of_kind, bounds_of_rule, made_bounds, made_pairs, size_bounds, with_columns}
use Rattle.bound_maker.specs.Pairs.{IsBounded}
use Rattle.bound_maker.specs.Ruled.{IsRuled}
use Rattle.bound_maker.proofs.Rules.{bounded_rule, bounds_more}

-- the bounds of the rules after so many, of which the first sensor stands at this place
abbrev pub rest_bounds : Rules → TableView → ℕ → ℕ → List Bound
rest_bounds rules table k place =
    flat_map (bounds_of_rule made_pairs rules.format.decimals table.rows) (with_columns (suc k) (drop k (rules_in_order rules)) (drop place table.header.sensor_cols))

none_is_some : {A : Type 0} (x : A) → ◌≡◌ {A = Option A} None (Some x) → ⊥
none_is_some x e = cc

-- ---- the rules

rules_long : (rules : Rules) → length (rules_in_order rules) ≡ count_of rules.speeds rules.swings rules.drifts rules.ranges rules.trusts rules.weights rules.betweens
rules_long rules = simp (length-append, length-map) refl

pub rules_few : (rules : Rules) → length (rules_in_order rules) ≤ 1000
rules_few rules = let long = rules_long rules in let few = rules.few in omega (arith, long, few)

-- the rule that follows so many
pub rule_at : (rules : Rules) (k number : ℕ) (found : Option Rule) → number ≡ k + 1 → rule_of rules number ≡ found → slice_get (rules_in_order rules) k ≡ found
rule_at rules k zero found is at = absurd (omega (arith, is))
rule_at rules k (suc n) found is at = let same : k ≡ n = omega (arith, is) in ap (slice_get (rules_in_order rules)) same ∙ at

pub one_left : (rules : Rules) (k : ℕ) (rule : Rule) → rule_of rules (k + 1) ≡ Some rule → k < length (rules_in_order rules)
one_left rules k rule at = slice_get_within (rules_in_order rules) k rule (rule_at rules k (k + 1) (Some rule) refl at)

pub past_end : {A : Type 0} (xs : List A) (k : ℕ) → slice_get xs k ≡ None → length xs ≤ k
past_end [] k none = omega arith
past_end (x ∷ xs) zero none = absurd (none_is_some x (sym none))
past_end (x ∷ xs) (suc k) none = omega (arith, past_end xs k none)

pub few_sensors : (rule : Rule) → length (sensor_names rule) ≤ 2
few_sensors (speed rule) = omega arith
few_sensors (swing rule) = omega arith
few_sensors (drift rule) = omega arith
few_sensors (range rule) = omega arith
few_sensors (trust rule) = omega arith
few_sensors (weight rule) = omega arith
few_sensors (between rule) = omega arith

pub bounded_at : (rules : Rules) (k : ℕ) (rule : Rule) → rule_of rules (k + 1) ≡ Some rule → IsBounded rules.format.decimals rule
bounded_at rules k rule at = bounded_rule rules k rule (rule_at rules k (k + 1) (Some rule) refl at)

pub bounded_number : (rules : Rules) (number : ℕ) (rule : Rule) → rule_of rules number ≡ Some rule → IsBounded rules.format.decimals rule
bounded_number rules zero rule at = absurd (none_is_some rule at)
bounded_number rules (suc k) rule at = bounded_rule rules k rule at

-- ---- one rule more

pub rest_more : (rules : Rules) (table : TableView) (k place : ℕ) (rule : Rule) (given col second more : ℕ) → IsRuled rules table.header.sensor_cols (k + 1) place rule given col second → more ≡ length (sensor_names rule)
    → rest_bounds rules table k place ≡ bounds_of_kind made_pairs rules.format.decimals table.rows given col second rule ++ rest_bounds rules table (k + 1) (place + more)
rest_more rules table k place rule given col second more is sensors =
    let d = rules.format.decimals in
    let rows = table.rows in
    let cols = table.header.sensor_cols in
    let rs = rules_in_order rules in
    let next : suc k ≡ k + 1 = omega arith in
    let after : place + 1 ≡ suc place = omega arith in
    let found = rule_at rules k (k + 1) (Some rule) refl is.rule_is in
    let numbered : suc k ≡ given = next ∙ sym is.number_is in
    bounds_more made_pairs d rows rs cols k place rule second found (is.second_is ∙ ap (λ (p : ℕ). get_or cols p 0) after)
    ∙ (ap (λ (n : ℕ). bounds_of_kind made_pairs d rows n (get_or cols place 0) second rule ++ rest_bounds rules table (suc k) (place + length (sensor_names rule))) numbered
    ∙ (ap (λ (c : ℕ). bounds_of_kind made_pairs d rows given c second rule ++ rest_bounds rules table (suc k) (place + length (sensor_names rule))) (sym is.col_is)
    ∙ (ap (λ (n : ℕ). bounds_of_kind made_pairs d rows given col second rule ++ rest_bounds rules table n (place + length (sensor_names rule))) next
    ∙ ap (λ (n : ℕ). bounds_of_kind made_pairs d rows given col second rule ++ rest_bounds rules table (k + 1) (place + n)) (sym sensors))))

pub rest_none : (rules : Rules) (table : TableView) (k place : ℕ) → rule_of rules (k + 1) ≡ None → rest_bounds rules table k place ≡ []
rest_none rules table k place none =
    ap (λ (rs : List Rule). flat_map (bounds_of_rule made_pairs rules.format.decimals table.rows) (with_columns (suc k) rs (drop place table.header.sensor_cols)))
    (drop_all k (rules_in_order rules) (past_end (rules_in_order rules) k (rule_at rules k (k + 1) None refl none)))

-- ---- lists

pub pushed_more : (rules : Rules) (table : TableView) (k place : ℕ) (rule : Rule) (given col second more : ℕ) (all old new : List Bound) → IsRuled rules table.header.sensor_cols (k + 1) place rule given col second → more ≡ length (sensor_names rule)
    → all ≡ old ++ rest_bounds rules table k place → new ≡ old ++ bounds_of_kind made_pairs rules.format.decimals table.rows given col second rule → all ≡ new ++ rest_bounds rules table (k + 1) (place + more)
pushed_more rules table k place rule given col second more all old new is sensors so_far push =
    let here = bounds_of_kind made_pairs rules.format.decimals table.rows given col second rule in
    let rest = rest_bounds rules table (k + 1) (place + more) in
    so_far ∙ (ap (λ (bs : List Bound). old ++ bs) (rest_more rules table k place rule given col second more is sensors)
    ∙ (sym (append_assoc old here rest) ∙ ap (λ (bs : List Bound). bs ++ rest) (sym push)))

pub pushed_all : (rules : Rules) (table : TableView) (k place : ℕ) (all old : List Bound) → rule_of rules (k + 1) ≡ None → all ≡ old ++ rest_bounds rules table k place → old ≡ all
pushed_all rules table k place all old none so_far = sym (so_far ∙ (ap (λ (bs : List Bound). old ++ bs) (rest_none rules table k place none) ∙ append-nil old))

-- ---- counts

capped_step : (long here rest old one new most n : ℕ) → long ≡ here + rest → one ≡ min here most → new ≡ min (old + one) most → min (old + long) most ≡ n → min (new + rest) most ≡ n
capped_step long here rest old one new most n is counted sum so_far = omega (arith, is, counted, sum, so_far)

pub counted_more : (rules : Rules) (table : TableView) (k place : ℕ) (rule : Rule) (given col second more old one new most n : ℕ) → IsRuled rules table.header.sensor_cols (k + 1) place rule given col second → more ≡ length (sensor_names rule)
    → one ≡ min (length (bounds_of_kind made_pairs rules.format.decimals table.rows given col second rule)) most → new ≡ min (old + one) most
    → min (old + length (rest_bounds rules table k place)) most ≡ n → min (new + length (rest_bounds rules table (k + 1) (place + more))) most ≡ n
counted_more rules table k place rule given col second more old one new most n is sensors counted sum so_far =
    let here = bounds_of_kind made_pairs rules.format.decimals table.rows given col second rule in
    let rest = rest_bounds rules table (k + 1) (place + more) in
    let long : length (rest_bounds rules table k place) ≡ length here + length rest = ap (λ (bs : List Bound). length bs) (rest_more rules table k place rule given col second more is sensors) ∙ length-append here rest in
    capped_step (length (rest_bounds rules table k place)) (length here) (length rest) old one new most n long counted sum so_far

pub counted_all : (rules : Rules) (table : TableView) (k place old most n : ℕ) → rule_of rules (k + 1) ≡ None → old ≤ most → min (old + length (rest_bounds rules table k place)) most ≡ n → old ≡ n
counted_all rules table k place old most n none few so_far =
    let long : ◌≡◌ {A = ℕ} (length (rest_bounds rules table k place)) 0 = ap (λ (bs : List Bound). length bs) (rest_none rules table k place none) in
    omega (arith, long, few, so_far)

pub counted_first : (rules : Rules) (table : TableView) (count most : ℕ) → count ≡ min (length (size_bounds (places table))) most → min (count + length (rest_bounds rules table 0 0)) most ≡ min (length (made_bounds rules table)) most
counted_first rules table count most is =
    let long = length-append (size_bounds (places table)) (rest_bounds rules table 0 0) in
    omega (arith, is, long)
