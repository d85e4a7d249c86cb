-- To be believed: what a call adds to a sink, by the bytes that the sink holds, where it tells them.
use Rattle.std.specs.Prelude.{◌≡◌, ℕ, ◌≤◌, List, ◌++◌, length, take, Option, Some, None}

-- The sink holds these bytes at its end, after all that it held. A sink that tells nothing goes on
-- telling nothing.
abbrev pub Gains : Option (List ℕ) → List ℕ → Option (List ℕ) → Type 0
Gains None bytes now = now ≡ None
Gains (Some held) bytes now = now ≡ Some (held ++ bytes)

-- The sink gained the bytes up to some place in them.
abbrev pub GainsPrefix : Option (List ℕ) → List ℕ → Option (List ℕ) → Type 0
GainsPrefix before bytes now = (count : ℕ) × (count ≤ length bytes) × Gains before (take count bytes) now
