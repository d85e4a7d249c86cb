-- What is added to the pulls at places.
use Rattle.std.proofs.Common.{◌≡◌, ◌≢◌, ℕ, zero, suc, ◌+◌, ◌*◌, ◌^◌, ◌≤◌, true, false, if◌then◌else◌, ℤ, pos, neg_ℤ, ◌+ℤ◌, ◌-ℤ◌, ◌*ℤ◌, List, [], ◌∷◌, length, get_or, set, Option, Some, None, refl, sym, ap, ◌∙◌, subst, arith}
use Rattle.std.specs.Prelude.{Contains, slice_get, unsigned_abs}
use Rattle.std.proofs.lemmas.Int.{ints}
use Rattle.std.proofs.Math.IntN.{*ℤ-one, *ℤ-zero}
use Rattle.words.specs.Lists.{Distinct}
use Rattle.words.proofs.Lists.{all_at, contains_later}
use Rattle.words.proofs.Products.{mul_minus, neg_mul, size_of_product}
use Rattle.screen_model.specs.declared.bound.Bound.{Bound}
use Rattle.screen_model.specs.declared.place.End.{End}
use Rattle.screen_model.specs.declared.place.End.TheVariants.{At, Zero}
use Rattle.screen_model.specs.declared.place.Place.{Place}
use Rattle.screen_model.specs.Flow.{one_at, unit_pull}
use Rattle.screen_model.specs.Series.{is_same_place}
use Rattle.screen_model.proofs.Places.{other_place, same_place}
use Rattle.cert_check.specs.Tally.{AreWithin, added_at, added_by}
use Rattle.cert_check.proofs.Placed.{both, not_first, other_than}

none_is_some : {A : Type 0} (x : A) → ◌≡◌ {A = Option A} None (Some x) → ⊥
none_is_some x e = cc

some_one : {A : Type 0} {x y : A} → ◌≡◌ {A = Option A} (Some x) (Some y) → x ≡ y
some_one e = cc

-- nothing is added to a pull at another place
away : (p q : Place) (pull amount : ℤ) → q ≢ p → (pull +ℤ (amount *ℤ one_at q (At p))) ≡ pull
away p q pull amount other =
    let none : one_at q (At p) ≡ pos 0 = ap (λ same. if same then pos 1 else pos 0) (other_place q p other) in
    omega (arith, ints, ap (λ u. amount *ℤ u) none, *ℤ-zero amount)

pub added_nowhere : (places : List Place) (pulls : List ℤ) (amount : ℤ) → length pulls ≡ length places → pulls ≡ added_at places pulls Zero amount
added_nowhere [] [] amount long = refl
added_nowhere [] (x ∷ pulls) amount long = absurd (omega (arith, long))
added_nowhere (q ∷ places) [] amount long = absurd (omega (arith, long))
added_nowhere (q ∷ places) (x ∷ pulls) amount long =
    both x (x +ℤ (amount *ℤ pos 0)) pulls (added_at places pulls Zero amount) (omega (arith, ints, *ℤ-zero amount)) (added_nowhere places pulls amount (omega (arith, long)))

pub added_none : (places : List Place) (pulls : List ℤ) (p : Place) (amount : ℤ) → length pulls ≡ length places → (Contains places p → ⊥) → pulls ≡ added_at places pulls (At p) amount
added_none [] [] p amount long none = refl
added_none [] (x ∷ pulls) p amount long none = absurd (omega (arith, long))
added_none (q ∷ places) [] p amount long none = absurd (omega (arith, long))
added_none (q ∷ places) (x ∷ pulls) p amount long none =
    let other : q ≢ p = λ same. not_first q places p none (sym same) in
    both x (x +ℤ (amount *ℤ one_at q (At p))) pulls (added_at places pulls (At p) amount) (sym (away p q x amount other))
    (added_none places pulls p amount (omega (arith, long)) (λ has. none (contains_later q places p has)))

pub added_found : (places : List Place) (pulls : List ℤ) (i : ℕ) (p : Place) (amount : ℤ) → Distinct places → length pulls ≡ length places → slice_get places i ≡ Some p
    → set pulls i (get_or pulls i (pos 0) +ℤ amount) ≡ added_at places pulls (At p) amount
added_found [] pulls i p amount distinct long found = absurd (none_is_some p found)
added_found (q ∷ places) [] i p amount distinct long found = absurd (omega (arith, long))
added_found (q ∷ places) (x ∷ pulls) zero p amount distinct long found =
    let same : q ≡ p = some_one found in
    let one : one_at q (At p) ≡ pos 1 = ap (λ b. if b then pos 1 else pos 0) (ap (λ z. is_same_place q z) (sym same) ∙ same_place q) in
    let none : Contains places p → ⊥ = λ has. all_at (λ y. q ≢ y) places p distinct.0 has same in
    both (x +ℤ amount) (x +ℤ (amount *ℤ one_at q (At p))) pulls (added_at places pulls (At p) amount)
    (omega (arith, ints, ap (λ u. amount *ℤ u) one, *ℤ-one amount))
    (added_none places pulls p amount (omega (arith, long)) none)
added_found (q ∷ places) (x ∷ pulls) (suc i) p amount distinct long found =
    let other : q ≢ p = λ same. other_than q places i p distinct found (sym same) in
    both x (x +ℤ (amount *ℤ one_at q (At p))) (set pulls i (get_or pulls i (pos 0) +ℤ amount)) (added_at places pulls (At p) amount) (sym (away p q x amount other))
    (added_found places pulls i p amount distinct.1 (omega (arith, long)) found)

-- at both ends of a bound
pub added_both : (places : List Place) (pulls : List ℤ) (bound : Bound) (amount : ℤ)
    → added_at places (added_at places pulls bound.first amount) bound.second (neg_ℤ amount) ≡ added_by places pulls bound amount
added_both [] pulls bound amount = refl
added_both (q ∷ places) [] bound amount = refl
added_both (q ∷ places) (x ∷ pulls) bound amount =
    let one = one_at q bound.first in
    let other = one_at q bound.second in
    both ((x +ℤ (amount *ℤ one)) +ℤ (neg_ℤ amount *ℤ other)) (x +ℤ (amount *ℤ (one -ℤ other)))
    (added_at places (added_at places pulls bound.first amount) bound.second (neg_ℤ amount)) (added_by places pulls bound amount)
    (omega (arith, ints, neg_mul amount other, mul_minus amount one other))
    (added_both places pulls bound amount)

pub length-added_at : (places : List Place) (pulls : List ℤ) (end : End) (amount : ℤ) → length pulls ≡ length places → length (added_at places pulls end amount) ≡ length places
length-added_at [] pulls end amount long = refl
length-added_at (q ∷ places) [] end amount long = absurd (omega (arith, long))
length-added_at (q ∷ places) (x ∷ pulls) end amount long = omega (arith, length-added_at places pulls end amount (omega (arith, long)))

-- ---- sizes

pub more_within : (m n : ℕ) (numbers : List ℤ) → m ≤ n → AreWithin m numbers → AreWithin n numbers
more_within m n [] h all = tt
more_within m n (x ∷ numbers) h all = (omega (arith, all.0, h), more_within m n numbers h all.1)

one_small : (q : Place) (end : End) → unsigned_abs (one_at q end) ≤ 1
one_small q Zero = omega arith
one_small q (At p) = elim (is_same_place q p) as (λ b. unsigned_abs (if b then pos 1 else pos 0) ≤ 1) [ true ↦ omega arith | false ↦ omega arith ]

more_small : (x y : ℤ) (m n : ℕ) → unsigned_abs x ≤ m → unsigned_abs y ≤ n → unsigned_abs (x +ℤ y) ≤ m + n
more_small x y m n a b = omega (arith, ints, a, b)

pub at_small : (places : List Place) (pulls : List ℤ) (end : End) (amount : ℤ) (m n : ℕ) → AreWithin m pulls → unsigned_abs amount ≤ n → AreWithin (m + n) (added_at places pulls end amount)
at_small [] pulls end amount m n small few = tt
at_small (q ∷ places) [] end amount m n small few = tt
at_small (q ∷ places) (x ∷ pulls) end amount m n small few =
    let product : unsigned_abs (amount *ℤ one_at q end) ≤ n * 1 = size_of_product amount (one_at q end) n 1 few (one_small q end) in
    (more_small x (amount *ℤ one_at q end) m n small.0 (omega (arith, product)), at_small places pulls end amount m n small.1 few)

pub by_small : (places : List Place) (pulls : List ℤ) (bound : Bound) (amount : ℤ) (m n : ℕ) → AreWithin m pulls → unsigned_abs amount ≤ n → AreWithin (m + 2 * n) (added_by places pulls bound amount)
by_small [] pulls bound amount m n small few = tt
by_small (q ∷ places) [] bound amount m n small few = tt
by_small (q ∷ places) (x ∷ pulls) bound amount m n small few =
    let one : unsigned_abs (unit_pull q bound) ≤ 2 = omega (arith, ints, one_small q bound.first, one_small q bound.second) in
    let product : unsigned_abs (amount *ℤ unit_pull q bound) ≤ n * 2 = size_of_product amount (unit_pull q bound) n 2 few one in
    (more_small x (amount *ℤ unit_pull q bound) m (2 * n) small.0 (omega (arith, product)), by_small places pulls bound amount m n small.1 few)

-- one end after the other
pub added_after : (places : List Place) (pulls mid new : List ℤ) (bound : Bound) (one other amount : ℤ) → one ≡ amount → other ≡ neg_ℤ amount → mid ≡ added_at places pulls bound.first one
    → new ≡ added_at places mid bound.second other → new ≡ added_by places pulls bound amount
added_after places pulls mid new bound one other amount one_is other_is mid_is new_is =
    new_is
    ∙ (ap (λ (ps : List ℤ). added_at places ps bound.second other) mid_is
    ∙ (ap (λ z. added_at places (added_at places pulls bound.first z) bound.second other) one_is
    ∙ (ap (λ z. added_at places (added_at places pulls bound.first amount) bound.second z) other_is
    ∙ added_both places pulls bound amount)))

pub mid_long : (places : List Place) (pulls mid : List ℤ) (end : End) (amount : ℤ) → length pulls ≡ length places → mid ≡ added_at places pulls end amount → length mid ≡ length places
mid_long places pulls mid end amount long is = ap length is ∙ length-added_at places pulls end amount long

pub mid_small : (places : List Place) (pulls mid : List ℤ) (end : End) (amount : ℤ) → AreWithin (10 ^ 30) pulls → unsigned_abs amount ≤ 10 ^ 15 → mid ≡ added_at places pulls end amount
    → AreWithin (2 * 10 ^ 30) mid
mid_small places pulls mid end amount small few is =
    more_within (10 ^ 30 + 10 ^ 15) (2 * 10 ^ 30) mid (omega arith) (subst (λ (ps : List ℤ). AreWithin (10 ^ 30 + 10 ^ 15) ps) (sym is) (at_small places pulls end amount (10 ^ 30) (10 ^ 15) small few))

pub length-added_by : (places : List Place) (pulls : List ℤ) (bound : Bound) (amount : ℤ) → length pulls ≡ length places → length (added_by places pulls bound amount) ≡ length places
length-added_by [] pulls bound amount long = refl
length-added_by (q ∷ places) [] bound amount long = absurd (omega (arith, long))
length-added_by (q ∷ places) (x ∷ pulls) bound amount long = omega (arith, length-added_by places pulls bound amount (omega (arith, long)))
