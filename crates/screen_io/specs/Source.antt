-- To be believed: what a call takes from a source, by the bytes that the source has left, where it tells them.
use Rattle.std.specs.Prelude.{◌≡◌, ℕ, ◌<◌, List, [], ◌++◌, length, take, Option, Some, None}

-- The taken bytes were the front of what was left, and the rest is left now. A source that tells
-- nothing goes on telling nothing.
abbrev pub Takes : Option (List ℕ) → List ℕ → Option (List ℕ) → Type 0
Takes None taken now = now ≡ None
Takes (Some left) taken now = (rest : List ℕ) × (left ≡ taken ++ rest) × (now ≡ Some rest)

-- Nothing is left.
abbrev pub IsAtEnd : Option (List ℕ) → Type 0
IsAtEnd None = Unit {0}
IsAtEnd (Some left) = left ≡ []

-- A read took so many bytes into the buffer: they stand at its front, and none came into a buffer
-- with room only where the source was at its end.
pub record TakesInto (before now : Option (List ℕ)) (buffer : List ℕ) (count : ℕ) : Type 0 where
  pub taken : Takes before (take count buffer) now
  pub at_end : count ≡ 0 → 0 < length buffer → IsAtEnd before
