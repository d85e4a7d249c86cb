-- For proofs: a list of byte fields as one list of bytes with the ends of the fields.
use Rattle.std.specs.Prelude.{◌≡◌, ℕ, zero, suc, ◌-◌, ◌≤◌, List, [], ◌∷◌, take, drop}

-- the fields that end at these places, of which the first begins at `from`
unfoldable pub pieces : List ℕ → ℕ → List ℕ → List (List ℕ)
pieces bytes from [] = []
pieces bytes from (end ∷ ends) = take (end - from) (drop from bytes) ∷ pieces bytes end ends

-- the ends go on from one place to the other and never back
unfoldable pub Rises : ℕ → List ℕ → ℕ → Type 0
Rises from [] to = from ≡ to
Rises from (end ∷ ends) to = (from ≤ end) × Rises end ends to

-- where the field of a place begins
unfoldable pub starts_at : ℕ → List ℕ → ℕ → ℕ
starts_at from ends zero = from
starts_at from [] (suc i) = from
starts_at from (end ∷ ends) (suc i) = starts_at end ends i
