-- A window that slides from one reading to the next.
use Rattle.std.proofs.Common.{◌≡◌, ◌-◌, ◌≤◌, pos, ◌+ℤ◌, ◌≤ℤ◌, List, [], ◌∷◌, ◌++◌, map, refl, ap, ◌∙◌, arith}
use Rattle.std.specs.List.{flat_map}
use Rattle.std.proofs.lemmas.Int.{ints}
use Rattle.std.proofs.lemmas.List.Concat.{flat_map-append}
use Rattle.pair_bounds.specs.declared.stamp.Stamp.{Stamp}
use Rattle.screen_model.specs.declared.bound.Bound.{Bound}
use Rattle.screen_model.specs.declared.bound.Side.{Side}
use Rattle.std.specs.Prelude.{Option}
use Rattle.bound_maker.specs.declared.reading.Reading.{Reading}
use Rattle.bound_maker.specs.declared.window.Span.{Span}
use Rattle.bound_maker.specs.declared.window.Window.{Window}
use Rattle.bound_maker.specs.Bounds.{both_sides, bounds_of_pairs}
use Rattle.bound_maker.specs.Pairs.{with_next}
use Rattle.bound_maker.specs.Readings.{all_pairs, neighbours}
use Rattle.bound_maker.specs.Windows.{IsWindow, StampsRise, count_before}
use Rattle.bound_maker.proofs.Windows.{earlier_counts, first_is_before}

-- the search for both ends may begin at the span
abbrev pub IsReady : Window → List Reading → Span → Type 0
IsReady window [] span = Unit {0}
IsReady window (x ∷ xs) span =
    (span.start ≤ count_before x.stamp.ticks window.least (x ∷ xs)) × (span.end ≤ count_before x.stamp.ticks (window.most +ℤ pos 1) (x ∷ xs))

-- after one reading the span without it may serve for the next
pub still_ready : (window : Window) (x : Reading) (xs : List Reading) (old new : Span) → IsWindow window → StampsRise (x ∷ xs)
    → old.start ≡ count_before x.stamp.ticks window.least (x ∷ xs) → old.end ≡ count_before x.stamp.ticks (window.most +ℤ pos 1) (x ∷ xs)
    → new.start ≡ old.start - 1 → new.end ≡ old.end - 1 → IsReady window xs new
still_ready window x [] old new is_window rise start end new_start new_end = tt
still_ready window x (y ∷ ys) old new is_window rise start end new_start new_end =
    let later : x.stamp.ticks ≤ℤ y.stamp.ticks = omega (arith, ints, rise.0.0) in
    let low = first_is_before window.least x (y ∷ ys) is_window.least in
    let high = first_is_before (window.most +ℤ pos 1) x (y ∷ ys) (omega (arith, ints, is_window.least, is_window.ordered)) in (
      omega (arith, low, start, new_start, earlier_counts x.stamp.ticks y.stamp.ticks window.least (y ∷ ys) later),
      omega (arith, high, end, new_end, earlier_counts x.stamp.ticks y.stamp.ticks (window.most +ℤ pos 1) (y ∷ ys) later),
    )

flat_mapped : {A B C : Type 0} (f : B → List C) (g : A → B) (xs : List A) → flat_map f (map g xs) ≡ flat_map (λ x. f (g x)) xs
flat_mapped f g [] = refl
flat_mapped f g (x ∷ xs) = ap (λ ys. f (g x) ++ ys) (flat_mapped f g xs)

-- the bounds of the first reading with all others, and then those of the others
pub pairs_first : (bound : Stamp → Stamp → Side → Option Bound) (x : Reading) (xs : List Reading)
    → bounds_of_pairs bound (all_pairs (x ∷ xs)) ≡ flat_map (λ (to : Reading). both_sides (bound x.stamp to.stamp)) xs ++ bounds_of_pairs bound (all_pairs xs)
pairs_first bound x xs =
    let f = λ (pair : Reading × Reading). both_sides (bound pair.0.stamp pair.1.stamp) in
    flat_map-append f (map (λ (y : Reading). (x, y)) xs) (all_pairs xs)
    ∙ ap (λ bs. bs ++ bounds_of_pairs bound (all_pairs xs)) (flat_mapped f (λ (y : Reading). (x, y)) xs)

-- the first reading with the next, and then the others
pub neighbours_first : (x : Reading) (xs : List Reading) → neighbours (x ∷ xs) ≡ with_next x xs ++ neighbours xs
neighbours_first x [] = refl
neighbours_first x (y ∷ ys) = refl
