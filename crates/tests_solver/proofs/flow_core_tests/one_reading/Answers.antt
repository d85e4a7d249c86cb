use Rattle.std.proofs.Common.{◌≡◌, ℕ, pos, List, [], ◌∷◌, refl, ◌∙◌, arith}
use Rattle.std.specs.List.{AllByRecursion}
use Rattle.screen_model.specs.declared.place.End.TheVariants.{Zero, At}
use Rattle.screen_model.specs.declared.bound.Bound.{Bound}
use Rattle.screen_model.specs.Obeys.{with_prices}
use Rattle.flow_core.specs.Layout.{IsRanged}
use Rattle.flow_core.proofs.Examples.{in_row, between, at_most, at_least, ranged_by}
use Rattle.tests_solver.proofs.flow_core_tests.one_reading.Goals as goal

abbrev the_bounds : List Bound
the_bounds = at_most 1 ∷ at_least 1 ∷ between Zero (At (in_row 1)) (pos 50) ∷ []

ranged : (price : ℕ) → AllByRecursion (IsRanged (with_prices the_bounds (0 ∷ 0 ∷ price ∷ []))) (in_row 1 ∷ [])
ranged price = (ranged_by (with_prices the_bounds (0 ∷ 0 ∷ price ∷ [])) 0 1 (omega arith) (omega arith) refl refl, tt)

pub new-requires-clause-ranged : goal.new-requires-clause-ranged
new-requires-clause-ranged c =
    let bounds : c.in_ok-bounds.bounds ≡ the_bounds = c.in_ok-bounds.ensures ∙ (λ i. c.bound.ensures i ∷ c.bound-2.ensures i ∷ c.bound-3.ensures i ∷ []) in
    rw (c.in_ok-places.ensures, bounds) (ranged c.args.price)
