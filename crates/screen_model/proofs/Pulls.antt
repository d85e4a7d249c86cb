-- The sum of value times pull over the readings, as a sum over the bounds.
use Rattle.std.proofs.Common.{◌≡◌, ◌≢◌, ℕ, ◌≤◌, Bool, true, false, if◌then◌else◌, ℤ, pos, ◌-ℤ◌, ◌*ℤ◌, ◌≤ℤ◌, List, [], ◌∷◌, length, map, refl, sym, ap, ◌∙◌, subst, arith}
use Rattle.std.specs.Prelude.{unsigned_abs}
use Rattle.std.specs.List.{AllByRecursion, AllZip}
use Rattle.std.proofs.lemmas.Bool.{false≢true, false_from_ne_true}
use Rattle.std.proofs.lemmas.Int.{ints}
use Rattle.std.proofs.Math.IntN.{*ℤ_comm, *ℤ-zero, *ℤ-one}
use Rattle.screen_model.specs.declared.place.Place.{Place}
use Rattle.screen_model.specs.declared.place.End.{End}
use Rattle.screen_model.specs.declared.place.End.TheVariants.{Zero, At}
use Rattle.screen_model.specs.declared.bound.Bound.{Bound}
use Rattle.words.specs.Lists.{Distinct, inner_product}
use Rattle.words.proofs.Products.{minus_mul, mul-le_sizes}
use Rattle.words.proofs.InnerProducts.{inner_product-map_zero, inner_product-map_minus, inner_product-map_same, inner_product-exchange}
use Rattle.screen_model.specs.Series.{is_same_place, reading_at, value_at}
use Rattle.screen_model.proofs.Places.{place_from_same, other_place, turned}
use Rattle.screen_model.specs.Obeys.{Priced, rise}
use Rattle.screen_model.specs.Cost.{weighted_change}
use Rattle.screen_model.specs.Flow.{one_at, unit_pull, pull}

-- ---- the value at an end, as a sum over the readings

abbrev ends_sum : List Place → List ℤ → End → ℤ
ends_sum places series end = inner_product series (map (λ p. one_at p end) places)

-- an end that is at no reading
at_none : (q : Place) (places : List Place) (series : List ℤ) → AllByRecursion (λ p. q ≢ p) places → ends_sum places series (At q) ≡ pos 0
at_none q (p ∷ places) (x ∷ series) h =
    let away : one_at p (At q) ≡ pos 0 = ap (λ same. if same then pos 1 else pos 0) (other_place p q (λ e. h.0 (sym e))) in
    omega (arith, ints, ap (λ u. x *ℤ u) away, *ℤ-zero x, at_none q places series h.1)
at_none q [] [] h = refl
at_none q [] (x ∷ series) h = refl
at_none q (p ∷ places) [] h = refl

at_first : (q p : Place) (places : List Place) (x : ℤ) (series : List ℤ) (same : Bool) → is_same_place q p ≡ same → AllByRecursion (λ y. p ≢ y) places
    → ends_sum places series (At q) ≡ reading_at places series q → ends_sum (p ∷ places) (x ∷ series) (At q) ≡ reading_at (p ∷ places) (x ∷ series) q
at_first q p places x series true e apart rest =
    let here : one_at p (At q) ≡ pos 1 = ap (λ same. if same then pos 1 else pos 0) (turned q p e) in
    let read : reading_at (p ∷ places) (x ∷ series) q ≡ x = ap (λ same. if same then x else reading_at places series q) e in
    let none = at_none q places series (subst (λ r. AllByRecursion (λ y. r ≢ y) places) (sym (place_from_same q p e)) apart) in
    omega (arith, ints, ap (λ u. x *ℤ u) here, *ℤ-one x, read, none)
at_first q p places x series false e apart rest =
    let away : one_at p (At q) ≡ pos 0 = ap (λ same. if same then pos 1 else pos 0) (false_from_ne_true (is_same_place p q) (λ h. false≢true (sym e ∙ turned p q h))) in
    let read : reading_at (p ∷ places) (x ∷ series) q ≡ reading_at places series q = ap (λ same. if same then x else reading_at places series q) e in
    omega (arith, ints, ap (λ u. x *ℤ u) away, *ℤ-zero x, read, rest)

at_place : (q : Place) (places : List Place) (series : List ℤ) → Distinct places → ends_sum places series (At q) ≡ reading_at places series q
at_place q (p ∷ places) (x ∷ series) h = at_first q p places x series (is_same_place q p) refl h.0 (at_place q places series h.1)
at_place q [] [] h = refl
at_place q [] (x ∷ series) h = refl
at_place q (p ∷ places) [] h = refl

at_end : (end : End) (places : List Place) (series : List ℤ) → Distinct places → ends_sum places series end ≡ value_at places series end
at_end Zero places series h = inner_product-map_zero series places
at_end (At q) places series h = at_place q places series h

-- ---- a bound, and all bounds

-- what an amount of 1 on a bound pulls, times value, over all readings
pub unit_pulled : (places : List Place) (series : List ℤ) → Distinct places → (bound : Bound) → inner_product series (map (λ p. unit_pull p bound) places) ≡ pos 0 -ℤ rise places series bound
unit_pulled places series h bound =
    omega (arith, ints, inner_product-map_minus (λ p. one_at p bound.first) (λ p. one_at p bound.second) series places, at_end bound.first places series h, at_end bound.second places series h)

-- the sum of amount times rise over all bounds
abbrev pub risen : List Place → List ℤ → List Priced → List ℤ → ℤ
risen places series bounds flow = inner_product flow (map (λ priced. rise places series priced.bound) bounds)

pub pulled_is : (places : List Place) (series : List ℤ) (bounds : List Priced) (flow : List ℤ) → Distinct places → inner_product series (map (pull bounds flow) places) ≡ pos 0 -ℤ risen places series bounds flow
pulled_is places series bounds flow h =
    inner_product-exchange (λ p priced. unit_pull p priced.bound) series places flow bounds
    ∙ inner_product-map_same (λ priced. inner_product series (map (λ p. unit_pull p priced.bound) places)) (λ priced. pos 0 -ℤ rise places series priced.bound) (λ priced. unit_pulled places series h priced.bound) flow bounds
    ∙ omega (arith, ints, inner_product-map_minus (λ priced. pos 0) (λ priced. rise places series priced.bound) flow bounds, inner_product-map_zero flow bounds)

-- ---- the change

-- what pulls within weights gain by a change is at most its weighted sum
pub gained_by_change : (pull_at : Place → ℤ) (places : List Place) (weights : List ℕ) (values series : List ℤ) → AllZip (λ p weight. unsigned_abs (pull_at p) ≤ weight) places weights
    → length values ≡ length places → length series ≡ length places → (inner_product series (map pull_at places) -ℤ inner_product values (map pull_at places)) ≤ℤ pos (weighted_change weights values series)
gained_by_change pull_at [] [] [] [] h vs xs = omega (arith, ints)
gained_by_change pull_at (p ∷ places) (weight ∷ weights) (value ∷ values) (x ∷ series) h vs xs =
    let rest = gained_by_change pull_at places weights values series h.1 (omega arith) (omega arith) in
    omega (arith, ints, minus_mul x value (pull_at p), *ℤ_comm (x -ℤ value) (pull_at p), mul-le_sizes (pull_at p) (x -ℤ value) weight h.0, rest)
gained_by_change pull_at [] weights (value ∷ values) series h vs xs = absurd (omega arith)
gained_by_change pull_at [] weights [] (x ∷ series) h vs xs = absurd (omega arith)
gained_by_change pull_at [] (weight ∷ weights) [] [] h vs xs = absurd h
gained_by_change pull_at (p ∷ places) [] values series h vs xs = absurd h
gained_by_change pull_at (p ∷ places) (weight ∷ weights) [] series h vs xs = absurd (omega arith)
gained_by_change pull_at (p ∷ places) (weight ∷ weights) (value ∷ values) [] h vs xs = absurd (omega arith)
