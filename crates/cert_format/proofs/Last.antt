-- What may come after the last member of a list.
use Rattle.std.proofs.Common.{◌≡◌, ℕ, ◌-◌, suc, Some, List, [], ◌∷◌, length, ap, ◌∙◌, arith}
use Rattle.std.specs.List.{slice_get}
use Rattle.screen_model.specs.Order.{is_before}
use Rattle.cert_format.specs.Draft.{follows}

behind_first : {A : Type 0} (x y : A) (xs : List A) (last : A) → Some last ≡ slice_get (x ∷ y ∷ xs) (length (x ∷ y ∷ xs) - 1) → Some last ≡ slice_get (y ∷ xs) (length (y ∷ xs) - 1)
behind_first x y xs last e =
    let place : length (x ∷ y ∷ xs) - 1 ≡ suc (length (y ∷ xs) - 1) = omega arith in
    e ∙ ap (slice_get (x ∷ y ∷ xs)) place

pub follows-last : {A : Type 0} (key : A → List ℕ) (xs : List A) (x last : A) → Some last ≡ slice_get xs (length xs - 1) → follows key xs x ≡ is_before (key last) (key x)
follows-last key [] x last e = absurd (cc)
follows-last key (y ∷ []) x last e = let same : y ≡ last = cc in ap (λ z. is_before (key z) (key x)) same
follows-last key (y ∷ z ∷ xs) x last e = follows-last key (z ∷ xs) x last (behind_first y z xs last e)
