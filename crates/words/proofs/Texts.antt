-- Whether a text is among the texts of some things, as a test.
use Rattle.std.proofs.Common.{◌≡◌, ◌↔◌, ℕ, zero, suc, ◌<◌, Bool, true, false, ◌||◌, List, [], ◌∷◌, length, get_or, map, IsTrue, Contains, refl, arith}
use Rattle.std.specs.List.{list_any}
use Rattle.std.specs.Str.{bytes_eq}
use Rattle.std.proofs.lemmas.Bool.{false≢true}
use Rattle.std.proofs.lemmas.Slice.Eq.{bytes_eq-Decides}

pub or_right : (a b : Bool) → b ≡ true → (a || b) ≡ true
or_right true b h = refl
or_right false b h = h

pub or_left : (a b : Bool) → a ≡ true → (a || b) ≡ true
or_left true b h = refl
or_left false b h = absurd (false≢true h)

here_or_later : (first text : List ℕ) (texts : List (List ℕ)) (b : Bool) → (bytes_eq first text || b) ≡ true → (b ≡ true → Contains texts text) → Contains (first ∷ texts) text
here_or_later first text texts b found later =
    elim (bytes_eq first text) as (λ v. (v || b) ≡ true → (v ≡ true → first ≡ text) → Contains (first ∷ texts) text) [
      | true ↦ λ _ same. (0, omega arith, same refl)
      | false ↦ λ past _. let (k, within, at) = later past in (suc k, omega (arith, within), at)
    ] found (bytes_eq-Decides first text).0

abbrev pub is_among : {A : Type 0} → (A → List ℕ) → List A → List ℕ → Bool
is_among text_of xs text = list_any (λ x. bytes_eq (text_of x) text) xs

found_if_among : {A : Type 0} (text_of : A → List ℕ) (xs : List A) (text : List ℕ) → is_among text_of xs text ≡ true → Contains (map text_of xs) text
found_if_among text_of [] text found = absurd (false≢true found)
found_if_among text_of (x ∷ xs) text found = here_or_later (text_of x) text (map text_of xs) _ found (found_if_among text_of xs text)

among_if_at : {A : Type 0} (text_of : A → List ℕ) (xs : List A) (text : List ℕ) (k : ℕ) → k < length (map text_of xs) → get_or (map text_of xs) k text ≡ text → is_among text_of xs text ≡ true
among_if_at text_of [] text k within at = absurd (omega arith)
among_if_at text_of (x ∷ xs) text zero within at = or_left _ _ ((bytes_eq-Decides (text_of x) text).1 at)
among_if_at text_of (x ∷ xs) text (suc k) within at = or_right _ _ (among_if_at text_of xs text k (omega arith) at)

pub among_is : {A : Type 0} (text_of : A → List ℕ) (xs : List A) (text : List ℕ) → IsTrue (is_among text_of xs text) ↔ Contains (map text_of xs) text
among_is text_of xs text = (found_if_among text_of xs text, λ (k, within, at). among_if_at text_of xs text k within at)
