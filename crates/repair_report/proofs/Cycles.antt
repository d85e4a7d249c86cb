-- The bounds of a cycle that forbids every series: their names, and the sum of their limits.
use Rattle.std.proofs.Common.{◌≡◌, ℕ, zero, suc, ◌+◌, ◌*◌, ◌^◌, ◌<◌, ◌≤◌, ℤ, ◌+ℤ◌, List, [], ◌∷◌, length, map, drop, get_or, Option, Some, None, IsSome, refl, ap, ◌∙◌, subst, arith}
use Rattle.std.specs.Prelude.{Contains, MatchOption, unsigned_abs}
use Rattle.std.specs.List.{AllByRecursion}
use Rattle.std.proofs.lemmas.Int.{ints}
use Rattle.std.proofs.lemmas.List.{drop_more, length-map}
use Rattle.words.specs.Lists.{total}
use Rattle.words.proofs.Lists.{all_at, all_map, all_weaker, contains_first, contains_later, contains_map}
use Rattle.screen_model.specs.declared.bound.Bound.{Bound}
use Rattle.screen_model.specs.declared.bound.BoundName.{BoundName}
use Rattle.screen_model.specs.declared.place.End.{End}
use Rattle.screen_model.specs.declared.place.End.TheVariants.{At, Zero}
use Rattle.screen_model.specs.declared.place.Place.{Place}
use Rattle.screen_model.specs.Best.{IsBlocked}
use Rattle.screen_model.specs.Names.{bounds_named, names_of}
use Rattle.screen_model.specs.Obeys.{HasEnds, Priced}
use Rattle.screen_model.specs.Series.{IsEnd}
use Rattle.rule_file.specs.declared.rules.Rules.{Rules}
use Rattle.series_csv.specs.File.{TableView}
use Rattle.series_csv.specs.Readings.{places}
use Rattle.bound_maker.specs.Bounds.{all_bounds, price_of_number, priced}
use Rattle.bound_maker.specs.Costs.{whole_problem}
use Rattle.bound_maker.specs.Laws.{NamesAreDistinct}
use Rattle.bound_maker.specs.Sound.{IsSound}
use Rattle.cert_check.specs.Cycle.{cycle_of}
use Rattle.cert_check.specs.Laws.{IsTrueCycle}
use Rattle.cert_check.proofs.Steps.{IsNamedBy, named_next}
use Rattle.repair_report.proofs.Pigeonhole.{few_distinct}

-- ---- the bound of a name

names_are : (rules : Rules) (bounds : List Bound) → names_of (priced rules bounds) ≡ map (λ (bound : Bound). bound.name) bounds
names_are rules [] = refl
names_are rules (bound ∷ bounds) = ap (λ (names : List BoundName). bound.name ∷ names) (names_are rules bounds)

pub is_found : (rules : Rules) (table : TableView) (name : BoundName) (found : Option Bound)
    → MatchOption found (Contains (map (λ (bound : Bound). bound.name) (all_bounds rules table)) name → ⊥) (λ bound. Contains (all_bounds rules table) bound × (bound.name ≡ name))
    → Contains (names_of (whole_problem rules table).bounds) name → IsSome found
is_found rules table name None none has = absurd (none (subst (λ (names : List BoundName). Contains names name) (names_are rules (all_bounds rules table)) has))
is_found rules table name (Some bound) is has = refl

pub cycle_next : (rules : Rules) (table : TableView) (cycle : List BoundName) (i : ℕ) (d : BoundName) (bound : Bound) → i < length cycle → NamesAreDistinct rules table
    → Contains (all_bounds rules table) bound → bound.name ≡ get_or cycle i d → cycle_of rules table (drop i cycle) ≡ bound ∷ cycle_of rules table (drop (i + 1) cycle)
cycle_next rules table cycle i d bound h distinct member is =
    let named : IsNamedBy rules table (get_or cycle i d) bound = record { member = member; name_is = is } in
    ap (cycle_of rules table) (drop_more cycle i d h) ∙ ap (map (λ (p : Priced). p.bound)) (named_next rules table (get_or cycle i d) bound (drop (i + 1) cycle) distinct named)

pub sum_next : (sum new all : ℤ) (bound : Bound) (here rest : List Bound) → here ≡ bound ∷ rest → new ≡ sum +ℤ bound.limit
    → (sum +ℤ total (map (λ (b : Bound). b.limit) here)) ≡ all → (new +ℤ total (map (λ (b : Bound). b.limit) rest)) ≡ all
sum_next sum new all bound here rest is new_is before =
    let first = ap (λ (bs : List Bound). total (map (λ (b : Bound). b.limit) bs)) is in
    omega (arith, ints, first, new_is, before)

pub all_got : {A : Type 0} (P : A → Type 0) (xs : List A) (i : ℕ) (d : A) → AllByRecursion P xs → i < length xs → P (get_or xs i d)
all_got P [] i d all h = absurd (omega (arith, h))
all_got P (x ∷ xs) zero d all h = all.0
all_got P (x ∷ xs) (suc i) d all h = all_got P xs i d all.1 (omega (arith, h))

-- ---- the sum of the limits

abbrev IsNearLimit : Priced → Type 0
IsNearLimit p = unsigned_abs p.bound.limit ≤ 4 * 10 ^ 15

total_small : (bounds : List Priced) → AllByRecursion IsNearLimit bounds → unsigned_abs (total (map (λ (b : Bound). b.limit) (map (λ (p : Priced). p.bound) bounds))) ≤ length bounds * (4 * 10 ^ 15)
total_small [] all = omega arith
total_small (p ∷ bounds) all = omega (arith, ints, all.0, total_small bounds all.1)

among_ends : (ps : List Place) (end : End) → IsEnd ps end → Contains (Zero ∷ map At ps) end
among_ends ps Zero is = contains_first Zero (map At ps)
among_ends ps (At p) is = contains_later Zero (map At ps) (At p) (contains_map At ps p is)

module _ (rules : Rules) (table : TableView) (members : List Priced) (sound : IsSound rules table) (blocked : IsBlocked (whole_problem rules table).bounds members) where
  of_members : (P : Priced → Type 0) → AllByRecursion P (whole_problem rules table).bounds → AllByRecursion P members
  of_members P all = all_weaker (Contains (whole_problem rules table).bounds) P (λ p has. all_at P (whole_problem rules table).bounds p all has) members blocked.members

  begin_there : AllByRecursion (λ p. Contains (Zero ∷ map At (places table)) p.bound.first) members
  begin_there =
      all_weaker (λ (p : Priced). HasEnds (places table) p.bound) (λ (p : Priced). Contains (Zero ∷ map At (places table)) p.bound.first) (λ p ends. among_ends (places table) p.bound.first ends.0) members
      (of_members (λ (p : Priced). HasEnds (places table) p.bound)
      (all_map (λ (p : Priced). HasEnds (places table) p.bound) (λ (bound : Bound). record { bound = bound; price = price_of_number rules bound.name.rule }) (all_bounds rules table) sound.all_ends))

  members_few : length members ≤ length (places table) + 1
  members_few =
      let firsts = map (λ (p : Priced). p.bound.first) members in
      let few = few_distinct firsts (Zero ∷ map At (places table)) blocked.simple (all_map (Contains (Zero ∷ map At (places table))) (λ (p : Priced). p.bound.first) members begin_there) in
      omega (arith, few, length-map members (λ (p : Priced). p.bound.first), length-map (places table) At)

  limits_near : AllByRecursion IsNearLimit members
  limits_near = of_members IsNearLimit (all_map IsNearLimit (λ (bound : Bound). record { bound = bound; price = price_of_number rules bound.name.rule }) (all_bounds rules table) sound.all_limits)

  pub limits_fit : length (places table) ≤ 400000 → unsigned_abs (total (map (λ (b : Bound). b.limit) (map (λ (p : Priced). p.bound) members))) ≤ 10 ^ 30
  limits_fit few = omega (arith, total_small members limits_near, members_few, few)

pub sum_fits : (rules : Rules) (table : TableView) (cycle : List BoundName) → IsSound rules table → IsTrueCycle rules table cycle → length (places table) ≤ 400000
    → unsigned_abs (total (map (λ (b : Bound). b.limit) (cycle_of rules table cycle))) ≤ 10 ^ 30
sum_fits rules table cycle sound is few = limits_fit rules table (bounds_named cycle (whole_problem rules table).bounds) sound is.blocked.blocked few
