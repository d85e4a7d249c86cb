-- To be believed: the form of what a command answers to the bytes of its sources.
use Rattle.std.specs.Prelude.{◌≡◌, ◌⊎◌, ℕ, ◌<◌, ◌≤◌, List, ◌++◌, length, Option, Result, MatchResult}
use Rattle.screen_words.specs.declared.ends.Inputs.{Inputs}
use Rattle.screen_words.specs.declared.status.Outcome.{Outcome}

-- how far a source is read: to its end, or so many bytes and no further, or not at all
pub data Extent : Type 0 where
  Whole : Extent
  Begun : ℕ → Extent
  Unread : Extent

-- What the command comes to, which is its status and its note; how far it reads each source; and the text that it
-- writes to each sink, if any.
pub record Answer : Type 0 where
  pub outcome : Outcome
  pub read : Inputs Extent
  pub cert : Option (List ℕ)
  pub out : Option (List ℕ)

-- A text is read as one thing only.
abbrev pub AreOne : {A F : Type 0} → (List ℕ → Result A F → Type 0) → Type 0
AreOne {A} {F} Reads = (bytes : List ℕ) (one other : Result A F) → Reads bytes one → Reads bytes other → one ≡ other

-- A file may be longer than allowed, and that is the answer; or it is refused, and that is the answer; or it is
-- accepted, and the answer is one of those that follow.
module _ {A F : Type 0} (longest : ℕ) (Reads : List ℕ → Result A F → Type 0) (too_long : Answer) (refused : F → Answer) where
  abbrev pub AfterFile : List ℕ → (A → Answer → Type 0) → Answer → Type 0
  AfterFile bytes Follows answer =
      ((longest < length bytes) × (answer ≡ too_long))
      ⊎ ((length bytes ≤ longest) × (found : Result A F) × Reads bytes found
      × MatchResult found (λ value. Follows value answer) (λ fault. answer ≡ refused fault))

-- The bytes that came of a source that was read so far tell this of all its bytes.
abbrev pub AreFront : Extent → List ℕ → List ℕ → Type 0
AreFront Whole came bytes = bytes ≡ came
AreFront (Begun count) came bytes = (rest : List ℕ) × (bytes ≡ came ++ rest)
AreFront Unread came bytes = Unit {0}

abbrev pub AreFronts : Inputs Extent → Inputs (List ℕ) → Inputs (List ℕ) → Type 0
AreFronts read came bytes =
    AreFront read.rules came.rules bytes.rules × AreFront read.readings came.readings bytes.readings × AreFront read.cert came.cert bytes.cert
