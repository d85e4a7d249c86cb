-- The first element that passes a test, as a loop looks for it.
use Rattle.std.proofs.Common.{◌≡◌, ◌≢◌, ℕ, zero, suc, ◌+◌, ◌<◌, ◌≤◌, Bool, true, false, cond, List, [], ◌∷◌, length, drop, get_or, Option, Some, None, ℤ, pos, refl, sym, ap, ◌∙◌, subst, arith}
use Rattle.std.specs.Prelude.{Contains, slice_get, ◌==◌}
use Rattle.std.specs.Option.{unwrap_or}
use Rattle.std.specs.List.{find}
use Rattle.std.proofs.lemmas.Bool.{eq-eqb}
use Rattle.std.proofs.lemmas.Bool.Decides.{nat_tests}
use Rattle.std.proofs.lemmas.List.{drop_more, drop_all}
use Rattle.words.specs.Lists.{Distinct}
use Rattle.words.proofs.Lists.{all_at, contains_first, contains_later}
use Rattle.screen_model.specs.declared.place.Place.{Place}
use Rattle.screen_model.specs.Series.{is_same_place, reading_at}
use Rattle.screen_model.proofs.Places.{same_place, other_place}

pub found_here : {A : Type 0} (test : A → Bool) (xs : List A) (i : ℕ) (d : A) → i < length xs → test (get_or xs i d) ≡ true → find test (drop i xs) ≡ Some (get_or xs i d)
found_here test xs i d h passes = ap (find test) (drop_more xs i d h) ∙ ap (λ b. cond b (Some (get_or xs i d)) (find test (drop (i + 1) xs))) passes

pub found_later : {A : Type 0} (test : A → Bool) (xs : List A) (i : ℕ) (d : A) → i < length xs → test (get_or xs i d) ≡ false → find test (drop i xs) ≡ find test (drop (i + 1) xs)
found_later test xs i d h fails = ap (find test) (drop_more xs i d h) ∙ ap (λ b. cond b (Some (get_or xs i d)) (find test (drop (i + 1) xs))) fails

pub found_nowhere : {A : Type 0} (test : A → Bool) (xs : List A) (i : ℕ) → length xs ≤ i → find test (drop i xs) ≡ None
found_nowhere test xs i h = ap (find test) (drop_all i xs h)

-- ---- the value at a place

none_is_some : {A : Type 0} (x : A) → ◌≡◌ {A = Option A} None (Some x) → ⊥
none_is_some x e = cc

-- what stands at a place in a list is a member of it
pub contains_at : {A : Type 0} (xs : List A) (i : ℕ) (x : A) → slice_get xs i ≡ Some x → Contains xs x
contains_at [] i x found = absurd (none_is_some x found)
contains_at (y ∷ xs) zero x found = let same : y ≡ x = cc in subst (λ z. Contains (y ∷ xs) z) same (contains_first y xs)
contains_at (y ∷ xs) (suc i) x found = contains_later y xs x (contains_at xs i x found)

pub no_value : (places : List Place) (series : List ℤ) (p : Place) → (Contains places p → ⊥) → reading_at places series p ≡ pos 0
no_value [] series p none = refl
no_value (q ∷ places) [] p none = refl
no_value (q ∷ places) (x ∷ series) p none =
    let other : p ≢ q = λ same. none (subst (λ z. Contains (q ∷ places) z) (sym same) (contains_first q places)) in
    ap (λ b. cond b x (reading_at places series p)) (other_place p q other) ∙ no_value places series p (λ has. none (contains_later q places p has))

pub value_found : (places : List Place) (series : List ℤ) (i : ℕ) (p : Place) → Distinct places → slice_get places i ≡ Some p → reading_at places series p ≡ get_or series i (pos 0)
value_found [] series i p distinct found = absurd (none_is_some p found)
value_found (q ∷ places) [] i p distinct found = refl
value_found (q ∷ places) (x ∷ series) zero p distinct found =
    let same : q ≡ p = cc in
    ap (λ b. cond b x (reading_at places series p)) (ap (λ z. is_same_place p z) same ∙ same_place p)
value_found (q ∷ places) (x ∷ series) (suc i) p distinct found =
    let has = contains_at places i p found in
    let other : p ≢ q = λ same. all_at (λ y. q ≢ y) places p distinct.0 has (sym same) in
    ap (λ b. cond b x (reading_at places series p)) (other_place p q other) ∙ value_found places series i p distinct.1 found

-- a number that is the one looked for, and one that is not
pub eqb_yes : (a b : ℕ) → a ≡ b → (a == b) ≡ true
eqb_yes a b h = eq-eqb a b h

pub eqb_no : (a b : ℕ) → a ≢ b → (a == b) ≡ false
eqb_no a b h = grind (arith, nat_tests)

-- what stands at a place, or the one given past the end
pub got : {A : Type 0} (xs : List A) (i : ℕ) (d : A) → unwrap_or (slice_get xs i) d ≡ get_or xs i d
got [] i d = refl
got (x ∷ xs) zero d = refl
got (x ∷ xs) (suc i) d = got xs i d
