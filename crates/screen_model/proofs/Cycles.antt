-- Around a cycle the rises of a series add up to 0.
use Rattle.std.proofs.Common.{◌≡◌, ℤ, ◌-ℤ◌, ◌≤ℤ◌, List, [], ◌∷◌, map, refl, ap, ◌∙◌, arith}
use Rattle.std.specs.Prelude.{Contains}
use Rattle.std.specs.List.{AllByRecursion}
use Rattle.std.proofs.lemmas.Int.{ints}
use Rattle.screen_model.specs.declared.place.Place.{Place}
use Rattle.screen_model.specs.declared.place.End.{End}
use Rattle.screen_model.specs.Series.{value_at}
use Rattle.words.specs.Lists.{rotated, total}
use Rattle.words.proofs.Lists.{map-rotated, all_at}
use Rattle.words.proofs.Sums.{total-rotated}
use Rattle.screen_model.specs.Obeys.{Priced, rise, Keeps, Obeys}
use Rattle.screen_model.specs.Best.{BlockedForbids}

-- the sum of the values at ends
abbrev summed : (End → ℤ) → List End → ℤ
summed value ends = total (map value ends)

turned : (value : End → ℤ) (ends : List End) → summed value (rotated ends) ≡ summed value ends
turned value ends = ap total (map-rotated value ends) ∙ total-rotated (map value ends)

abbrev risen : List Place → List ℤ → List Priced → ℤ
risen places series cycle = total (map (λ priced. rise places series priced.bound) cycle)

by_ends : (places : List Place) (series : List ℤ) (cycle : List Priced) → risen places series cycle ≡ summed (value_at places series) (map (λ priced. priced.bound.second) cycle) -ℤ summed (value_at places series) (map (λ priced. priced.bound.first) cycle)
by_ends places series [] = refl
by_ends places series (priced ∷ cycle) = omega (arith, ints, by_ends places series cycle)

below_limits : (places : List Place) (series : List ℤ) (bounds cycle : List Priced) → Obeys places series bounds → AllByRecursion (Contains bounds) cycle → AllByRecursion (λ priced. priced.price ≡ 0) cycle → risen places series cycle ≤ℤ total (map (λ priced. priced.bound.limit) cycle)
below_limits places series bounds [] obeys members unpriced = omega (arith, ints)
below_limits places series bounds (priced ∷ cycle) obeys members unpriced =
    let IsKept = λ (priced : Priced). priced.price ≡ 0 → Keeps places series priced.bound in
    let kept = all_at IsKept bounds priced obeys members.0 unpriced.0 in
    omega (arith, ints, kept, below_limits places series bounds cycle obeys members.1 unpriced.1)

pub forbids : BlockedForbids
forbids places bounds cycle series blocked obeys =
    let firsts = map (λ priced. priced.bound.first) cycle in
    let around : summed (value_at places series) (map (λ priced. priced.bound.second) cycle) ≡ summed (value_at places series) firsts = ap (summed (value_at places series)) blocked.closed ∙ turned (value_at places series) firsts in
    let rises = by_ends places series cycle in
    let limits = below_limits places series bounds cycle obeys blocked.members blocked.unpriced in
    omega (arith, ints, around, rises, limits, blocked.negative)
