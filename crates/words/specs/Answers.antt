-- To be believed: what it means that a reader answers what its input is read as.
use Rattle.std.specs.Prelude.{◌≢◌, Result, Err}

-- `Reads` relates an input to its answer, a value or a refusal. The answer given is that one, unless memory
-- ran out, which is answered by `memory`.
abbrev pub UnlessMemory : {A E : Type 0} → E → (Result A E → Type 0) → Result A E → Type 0
UnlessMemory memory Reads answer = answer ≢ Err memory → Reads answer
