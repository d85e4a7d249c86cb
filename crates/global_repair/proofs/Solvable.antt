-- The problem of the bounds that are made can be solved.
use Rattle.std.proofs.Common.{◌≡◌, ℕ, suc, ◌≤◌, ℤ, neg_ℤ, List, [], ◌∷◌, ◌++◌, length, map, refl, sym, ap, ◌∙◌, subst, arith}
use Rattle.std.specs.List.{AllByRecursion, Any}
use Rattle.words.specs.Lists.{Distinct, IsPart}
use Rattle.words.proofs.Lists.{all_weaker}
use Rattle.words.proofs.Parts.{part_map, part_distinct}
use Rattle.screen_model.specs.declared.place.Place.{Place}
use Rattle.screen_model.specs.declared.bound.Bound.{Bound}
use Rattle.screen_model.specs.declared.bound.BoundName.{BoundName}
use Rattle.screen_model.specs.declared.bound.Side.TheVariants.{Up, Down}
use Rattle.screen_model.specs.declared.limits.TheConstants.{MOST_READINGS}
use Rattle.screen_model.specs.Obeys.{Priced, with_prices}
use Rattle.screen_model.specs.Names.{names_of}
use Rattle.screen_model.proofs.Prices.{by_bound}
use Rattle.fix_point.specs.declared.scale.TheConstants.{MOST_UNITS}
use Rattle.flow_core.specs.Layout.{IsRanged}
use Rattle.rule_file.specs.declared.rules.Rules.{Rules}
use Rattle.series_csv.specs.File.{TableView}
use Rattle.series_csv.specs.Readings.{places, values, IsSmall}
use Rattle.bound_maker.specs.Bounds.{value_bound, value_bounds, size_bounds, made_bounds, all_bounds, priced, price_of_number}
use Rattle.bound_maker.specs.Costs.{made_problem, weights}
use Rattle.bound_maker.specs.Laws.{NamesAreDistinct, AreAPart}
use Rattle.bound_maker.specs.declared.maker.TheConstants.{MOST_BOUNDS}
use Rattle.least_cost.specs.Problems.{AreSolvable, problem_of}
use Rattle.global_repair.specs.Lists.{prices_of}
use Rattle.bound_maker.specs.Sound.{IsSound}

-- ---- two bounds without a price keep each reading in its range

any_later : {A : Type 0} (P : A → Type 0) (x : A) (xs : List A) → Any P xs → Any P (x ∷ xs)
any_later P x xs has = (suc has.0, has.1, omega (arith, has.2), has.3, has.4)

any_first : {A : Type 0} (P : A → Type 0) (x : A) (xs : List A) → P x → Any P (x ∷ xs)
any_first P x xs here = (0, x, omega arith, refl, here)

ranged_later : (place : Place) (first second : Priced) (bounds : List Priced) → IsRanged bounds place → IsRanged (first ∷ second ∷ bounds) place
ranged_later place first second bounds is = (
  any_later _ first (second ∷ bounds) (any_later _ second bounds is.0),
  any_later _ first (second ∷ bounds) (any_later _ second bounds is.1),
)

ranged_here : (rules : Rules) (place : Place) (bounds : List Bound) → IsRanged (priced rules (value_bounds 0 place (neg_ℤ MOST_UNITS) MOST_UNITS ++ bounds)) place
ranged_here rules place bounds =
    let up = value_bound 0 place MOST_UNITS Up in
    let down = value_bound 0 place MOST_UNITS Down in
    let first : Priced = record { bound = up; price = 0 } in
    let second : Priced = record { bound = down; price = 0 } in
    let rest = priced rules bounds in (
      any_first _ first (second ∷ rest) (refl, refl, refl, refl),
      any_later _ first (second ∷ rest) (any_first _ second rest (refl, refl, refl, refl)),
    )

all_ranged_later : (first second : Priced) (bounds : List Priced) (ps : List Place) → AllByRecursion (IsRanged bounds) ps → AllByRecursion (IsRanged (first ∷ second ∷ bounds)) ps
all_ranged_later first second bounds ps all = all_weaker (IsRanged bounds) (IsRanged (first ∷ second ∷ bounds)) (λ place is. ranged_later place first second bounds is) ps all

ranged : (rules : Rules) (ps : List Place) (more : List Bound) → AllByRecursion (IsRanged (priced rules (size_bounds ps ++ more))) ps
ranged rules [] more = tt
ranged rules (place ∷ ps) more =
    let first : Priced = record { bound = value_bound 0 place MOST_UNITS Up; price = 0 } in
    let second : Priced = record { bound = value_bound 0 place MOST_UNITS Down; price = 0 } in (
      ranged_here rules place (size_bounds ps ++ more),
      all_ranged_later first second (priced rules (size_bounds ps ++ more)) ps (ranged rules ps more),
    )

-- ---- the problem

pub with_prices_of : (rules : Rules) (bounds : List Bound) → with_prices bounds (prices_of rules bounds) ≡ priced rules bounds
with_prices_of rules bounds = by_bound (λ bound. price_of_number rules bound.name.rule) bounds

pub problem_is : (rules : Rules) (table : TableView) → problem_of (places table) (values table) (weights rules table) (made_bounds rules table) (prices_of rules (made_bounds rules table)) ≡ made_problem rules table
problem_is rules table = λ i. record { places = places table; values = values table; weights = weights rules table; bounds = with_prices_of rules (made_bounds rules table) i }

names_are : (rules : Rules) (bounds : List Bound) → names_of (priced rules bounds) ≡ map (λ bound. bound.name) bounds
names_are rules [] = refl
names_are rules (bound ∷ bounds) = ap (λ (names : List BoundName). bound.name ∷ names) (names_are rules bounds)

made_named : (rules : Rules) (table : TableView) → NamesAreDistinct rules table → AreAPart rules table → Distinct (map (λ bound. bound.name) (made_bounds rules table))
made_named rules table distinct part =
    let names : IsPart (names_of (priced rules (made_bounds rules table))) (names_of (priced rules (all_bounds rules table))) = part_map (λ (p : Priced). p.bound.name) part.part in
    let all : Distinct (names_of (priced rules (all_bounds rules table))) = subst (λ (ns : List BoundName). Distinct ns) (sym (names_are rules (all_bounds rules table))) distinct in
    subst (λ (ns : List BoundName). Distinct ns) (names_are rules (made_bounds rules table)) (part_distinct names all)

prices_small : (rules : Rules) (bounds : List Bound) → ((number : ℕ) → price_of_number rules number ≤ 1000) → AllByRecursion (λ price. price ≤ 1000) (prices_of rules bounds)
prices_small rules [] small = tt
prices_small rules (bound ∷ bounds) small = (small bound.name.rule, prices_small rules bounds small)

length_prices : (rules : Rules) (bounds : List Bound) → length (prices_of rules bounds) ≡ length bounds
length_prices rules [] = refl
length_prices rules (bound ∷ bounds) = ap suc (length_prices rules bounds)

pub solvable : (rules : Rules) (table : TableView) → IsSound rules table → NamesAreDistinct rules table → AreAPart rules table → Distinct (places table) → length (places table) ≡ length (values table) → length (values table) ≤ MOST_READINGS
    → AllByRecursion IsSmall (values table) → length (made_bounds rules table) ≤ MOST_BOUNDS
    → AreSolvable (places table) (values table) (weights rules table) (made_bounds rules table) (prices_of rules (made_bounds rules table))
solvable rules table sound named part distinct placed few small few_bounds = record {
  distinct = distinct;
  named = made_named rules table named part;
  valued = sym placed;
  weighted = sound.weighted;
  priced = length_prices rules (made_bounds rules table);
  few_readings = omega (arith, placed, few);
  few_bounds = few_bounds;
  ends = sound.ends;
  ranged = subst (λ (bounds : List Priced). AllByRecursion (IsRanged bounds) (places table)) (sym (with_prices_of rules (made_bounds rules table))) (ranged rules (places table) _);
  small_values = small;
  small_weights = sound.weights;
  small_prices = prices_small rules (made_bounds rules table) sound.prices;
  small_limits = sound.limits;
}

-- ---- the lists that are handed on

-- the lists are those of the problem
pub record AreLists (rules : Rules) (table : TableView) (ps : List Place) (vs : List ℤ) (ws : List ℕ) (bs : List Bound) (prices : List ℕ) : Type 0 where
  pub places_are : ps ≡ places table
  pub values_are : vs ≡ values table
  pub weights_are : ws ≡ weights rules table
  pub bounds_are : bs ≡ made_bounds rules table
  pub prices_are : prices ≡ prices_of rules (made_bounds rules table)

pub lists_solvable : (rules : Rules) (table : TableView) (ps : List Place) (vs : List ℤ) (ws : List ℕ) (bs : List Bound) (prices : List ℕ) → AreLists rules table ps vs ws bs prices
    → AreSolvable (places table) (values table) (weights rules table) (made_bounds rules table) (prices_of rules (made_bounds rules table)) → AreSolvable ps vs ws bs prices
lists_solvable rules table ps vs ws bs prices are is =
    subst (λ (T : Type 0). T) (λ i. AreSolvable (sym are.places_are i) (sym are.values_are i) (sym are.weights_are i) (sym are.bounds_are i) (sym are.prices_are i)) is

pub lists_problem : (rules : Rules) (table : TableView) (ps : List Place) (vs : List ℤ) (ws : List ℕ) (bs : List Bound) (prices : List ℕ) → AreLists rules table ps vs ws bs prices → problem_of ps vs ws bs prices ≡ made_problem rules table
lists_problem rules table ps vs ws bs prices are =
    (λ i. problem_of (are.places_are i) (are.values_are i) (are.weights_are i) (are.bounds_are i) (are.prices_are i)) ∙ problem_is rules table
