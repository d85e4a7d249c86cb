use Rattle.std.proofs.Common.{◌≡◌, ℕ, pos, List, [], ◌∷◌, refl, ◌∙◌, arith}
use Rattle.std.specs.Prelude.{Contains}
use Rattle.std.specs.List.{AllByRecursion}
use Rattle.screen_model.specs.declared.place.Place.{Place}
use Rattle.screen_model.specs.declared.place.End.TheVariants.{At}
use Rattle.screen_model.specs.declared.bound.Bound.{Bound}
use Rattle.screen_model.specs.Obeys.{HasEnds, Priced, with_prices}
use Rattle.flow_core.specs.Layout.{IsRanged}
use Rattle.flow_core.proofs.Examples.{in_row, between, at_most, at_least, ranged_by}
use Rattle.tests_solver.proofs.flow_core_tests.four_readings.Goals as goal

abbrev the_places : List Place
the_places = in_row 1 ∷ in_row 2 ∷ in_row 3 ∷ in_row 4 ∷ []

abbrev the_bounds : List Bound
the_bounds =
    at_most 1 ∷ at_least 1 ∷ at_most 2 ∷ at_least 2 ∷ at_most 3 ∷ at_least 3 ∷ at_most 4 ∷ at_least 4
    ∷ between (At (in_row 2)) (At (in_row 3)) (pos 1) ∷ between (At (in_row 3)) (At (in_row 2)) (pos 1) ∷ []

first : Contains the_places (in_row 1)
first = (0, omega arith, refl)

second : Contains the_places (in_row 2)
second = (1, omega arith, refl)

third : Contains the_places (in_row 3)
third = (2, omega arith, refl)

fourth : Contains the_places (in_row 4)
fourth = (3, omega arith, refl)

ends : AllByRecursion (HasEnds the_places) the_bounds
ends = ((tt, first), ((first, tt), ((tt, second), ((second, tt), ((tt, third), ((third, tt), ((tt, fourth), ((fourth, tt), ((second, third), ((third, second), tt))))))))))

abbrev priced : ℕ → List Priced
priced price = with_prices the_bounds (0 ∷ 0 ∷ 0 ∷ 0 ∷ 0 ∷ 0 ∷ 0 ∷ 0 ∷ price ∷ price ∷ [])

ranged : (price : ℕ) → AllByRecursion (IsRanged (priced price)) the_places
ranged price = (
  ranged_by (priced price) 0 1 (omega arith) (omega arith) refl refl,
  (
    ranged_by (priced price) 2 2 (omega arith) (omega arith) refl refl,
    (ranged_by (priced price) 4 3 (omega arith) (omega arith) refl refl, (ranged_by (priced price) 6 4 (omega arith) (omega arith) refl refl, tt)),
  ),
)

pub new-requires-clause-ends : goal.new-requires-clause-ends
new-requires-clause-ends c =
    let bounds : c.in_ok-bounds.bounds ≡ the_bounds = c.in_ok-bounds.ensures ∙ (λ i.
    c.bound.ensures i ∷ c.bound-2.ensures i ∷ c.bound-3.ensures i ∷ c.bound-4.ensures i ∷ c.bound-5.ensures i
    ∷ c.bound-6.ensures i ∷ c.bound-7.ensures i ∷ c.bound-8.ensures i ∷ c.bound-9.ensures i ∷ c.bound-10.ensures i ∷ []) in
    rw (c.in_ok-places.ensures, bounds) ends

pub new-requires-clause-ranged : goal.new-requires-clause-ranged
new-requires-clause-ranged c =
    let bounds : c.in_ok-bounds.bounds ≡ the_bounds = c.in_ok-bounds.ensures ∙ (λ i.
    c.bound.ensures i ∷ c.bound-2.ensures i ∷ c.bound-3.ensures i ∷ c.bound-4.ensures i ∷ c.bound-5.ensures i
    ∷ c.bound-6.ensures i ∷ c.bound-7.ensures i ∷ c.bound-8.ensures i ∷ c.bound-9.ensures i ∷ c.bound-10.ensures i ∷ []) in
    rw (c.in_ok-places.ensures, bounds) (ranged c.args.price)
