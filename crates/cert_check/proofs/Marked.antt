-- Ends of bounds, and marks at them.
use Rattle.std.proofs.Common.{◌≡◌, ◌≢◌, ℕ, zero, suc, ◌+◌, ◌<◌, Bool, true, false, List, [], ◌∷◌, length, map, get_or, set, replicate, Option, Some, None, refl, sym, ap, ◌∙◌, subst, arith}
use Rattle.std.specs.Prelude.{slice_get, ◌||◌}
use Rattle.std.specs.List.{AllByRecursion}
use Rattle.words.specs.Lists.{Distinct}
use Rattle.words.proofs.Lists.{all_at}
use Rattle.screen_model.specs.declared.place.End.{End}
use Rattle.screen_model.specs.declared.place.End.TheVariants.{At, Zero}
use Rattle.screen_model.specs.declared.place.Place.{Place}
use Rattle.screen_model.proofs.Places.{other_place, place_from_same, same_place}
use Rattle.bound_maker.proofs.Found.{contains_at}
use Rattle.cert_check.specs.Cycle.{is_among, is_same_end}
use Rattle.cert_check.specs.Marks.{ends_of, marks_of}

none_is_some : {A : Type 0} (x : A) → ◌≡◌ {A = Option A} None (Some x) → ⊥
none_is_some x e = cc

some_one : {A : Type 0} {x y : A} → ◌≡◌ {A = Option A} (Some x) (Some y) → x ≡ y
some_one e = cc

-- ---- ends

pub same_end : (end : End) → is_same_end end end ≡ true
same_end Zero = refl
same_end (At p) = same_place p

pub end_from_same : (d e : End) → is_same_end d e ≡ true → d ≡ e
end_from_same Zero Zero h = refl
end_from_same (At p) (At q) h = ap At (place_from_same p q h)
end_from_same Zero (At q) h = cc
end_from_same (At p) Zero h = cc

pub other_end : (d e : End) → d ≢ e → is_same_end d e ≡ false
other_end Zero Zero other = absurd (other refl)
other_end (At p) (At q) other = other_place p q (λ same. other (ap At same))
other_end Zero (At q) other = refl
other_end (At p) Zero other = refl

zero_is_no_place : (p : Place) → Zero ≢ At p
zero_is_no_place p e = cc

one_place : (p q : Place) → p ≢ q → At p ≢ At q
one_place p q other e = other (cc)

no_zero : (places : List Place) → AllByRecursion (λ end. Zero ≢ end) (map At places)
no_zero [] = tt
no_zero (p ∷ places) = (zero_is_no_place p, no_zero places)

apart : (p : Place) (places : List Place) → AllByRecursion (λ q. p ≢ q) places → AllByRecursion (λ end. At p ≢ end) (map At places)
apart p [] all = tt
apart p (q ∷ places) all = (one_place p q all.0, apart p places all.1)

ats_distinct : (places : List Place) → Distinct places → Distinct (map At places)
ats_distinct [] distinct = tt
ats_distinct (p ∷ places) distinct = (apart p places distinct.0, ats_distinct places distinct.1)

pub ends_distinct : (places : List Place) → Distinct places → Distinct (ends_of places)
ends_distinct places distinct = (no_zero places, ats_distinct places distinct)

pub place_index : (places : List Place) (i : ℕ) (p : Place) → slice_get places i ≡ Some p → slice_get (map At places) i ≡ Some (At p)
place_index [] i p found = absurd (none_is_some p found)
place_index (q ∷ places) zero p found = ap (λ z. Some (At z)) (some_one found)
place_index (q ∷ places) (suc i) p found = place_index places i p found

pub end_index : (places : List Place) (i : ℕ) (p : Place) → slice_get places i ≡ Some p → slice_get (ends_of places) (i + 1) ≡ Some (At p)
end_index places i p found = let next : i + 1 ≡ suc i = omega arith in ap (slice_get (ends_of places)) next ∙ place_index places i p found

-- ---- marks

pub unmarked : (ends : List End) → replicate (length ends) false ≡ marks_of [] ends
unmarked [] = refl
unmarked (e ∷ ends) = ap (λ (marks : List Bool). false ∷ marks) (unmarked ends)

pub length-ends_of : (places : List Place) → length (ends_of places) ≡ length places + 1
length-ends_of [] = omega arith
length-ends_of (p ∷ places) = omega (arith, length-ends_of places)

pub mark_is : (others ends : List End) (i : ℕ) (e : End) → slice_get ends i ≡ Some e → get_or (marks_of others ends) i false ≡ is_among others e
mark_is others [] i e found = absurd (none_is_some e found)
mark_is others (d ∷ ends) zero e found = ap (is_among others) (some_one found)
mark_is others (d ∷ ends) (suc i) e found = mark_is others ends i e found

both_marks : (a b : Bool) (xs ys : List Bool) → a ≡ b → xs ≡ ys → a ∷ xs ≡ b ∷ ys
both_marks a b xs ys e f = cc

-- a mark more at an end that is none of these
mark_elsewhere : (others ends : List End) (e : End) → AllByRecursion (λ d. e ≢ d) ends → marks_of others ends ≡ marks_of (e ∷ others) ends
mark_elsewhere others [] e all = refl
mark_elsewhere others (d ∷ ends) e all =
    both_marks (is_among others d) (is_same_end e d || is_among others d) (marks_of others ends) (marks_of (e ∷ others) ends)
    (sym (ap (λ b. b || is_among others d) (other_end e d all.0)))
    (mark_elsewhere others ends e all.1)

pub mark_more : (others ends : List End) (i : ℕ) (e : End) → Distinct ends → slice_get ends i ≡ Some e → set (marks_of others ends) i true ≡ marks_of (e ∷ others) ends
mark_more others [] i e distinct found = absurd (none_is_some e found)
mark_more others (d ∷ ends) zero e distinct found =
    let same : d ≡ e = some_one found in
    let here : is_same_end e d ≡ true = ap (is_same_end e) same ∙ same_end e in
    both_marks true (is_same_end e d || is_among others d) (marks_of others ends) (marks_of (e ∷ others) ends)
    (sym (ap (λ b. b || is_among others d) here))
    (mark_elsewhere others ends e (subst (λ (z : End). AllByRecursion (λ y. z ≢ y) ends) same distinct.0))
mark_more others (d ∷ ends) (suc i) e distinct found =
    let away : e ≢ d = λ same. all_at (λ y. d ≢ y) ends e distinct.0 (contains_at ends i e found) (sym same) in
    both_marks (is_among others d) (is_same_end e d || is_among others d) (set (marks_of others ends) i true) (marks_of (e ∷ others) ends)
    (sym (ap (λ b. b || is_among others d) (other_end e d away)))
    (mark_more others ends i e distinct.1 found)

pub get_within : {A : Type 0} (xs : List A) (i : ℕ) (x : A) → slice_get xs i ≡ Some x → i < length xs
get_within [] i x found = absurd (none_is_some x found)
get_within (y ∷ xs) zero x found = omega arith
get_within (y ∷ xs) (suc i) x found = omega (arith, get_within xs i x found)

pub length-marks_of : (others ends : List End) → length (marks_of others ends) ≡ length ends
length-marks_of others [] = refl
length-marks_of others (e ∷ ends) = omega (arith, length-marks_of others ends)
