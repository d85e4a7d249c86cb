-- To be believed: which end that meets the world each of the program's roles calls for.
use Rattle.std.specs.Prelude.{◌≡◌, ℕ, List, Option, Some, None, slice_get}
use Rattle.screen_io.specs.Target.{Target, FileNamed, StandardInput, StandardOutput, StandardError, NoTarget, RealEnd, fresh}
use Rattle.screen_words.specs.declared.ends.EndUse.{EndUse}
use Rattle.screen_words.specs.declared.ends.EndUse.TheVariants.{Word, Input, Output}
use Rattle.screen_words.specs.declared.ends.Inputs.{Inputs}
use Rattle.screen_words.specs.declared.ends.Outputs.{Outputs}
use Rattle.screen_words.specs.declared.ends.Roles.{Roles}

-- The file of this name, where there is a name.
abbrev pub file_named : Option (List ℕ) → Target
file_named (Some name) = FileNamed name
file_named None = NoTarget

-- What a source reads. None reads standard output.
abbrev pub source_of : List (List ℕ) → EndUse → Target
source_of words (Word place) = file_named (slice_get words place)
source_of words Input = StandardInput
source_of words _ = NoTarget

-- What a sink writes to. None writes to standard input.
abbrev pub sink_of : List (List ℕ) → EndUse → Target
sink_of words (Word place) = file_named (slice_get words place)
sink_of words Output = StandardOutput
sink_of words _ = NoTarget

-- The sources are those of these roles, before their first call.
pub record ReadsFrom (words : List (List ℕ)) (roles : Roles) (ins : Inputs RealEnd) : Type 0 where
  pub rules : ins.rules ≡ fresh (source_of words roles.rules)
  pub readings : ins.readings ≡ fresh (source_of words roles.readings)
  pub cert : ins.cert ≡ fresh (source_of words roles.cert_read)

-- The sinks are those of these roles, before their first call. The note goes to standard error.
pub record WritesTo (words : List (List ℕ)) (roles : Roles) (outs : Outputs RealEnd) : Type 0 where
  pub out : outs.out ≡ fresh (sink_of words roles.out)
  pub cert : outs.cert ≡ fresh (sink_of words roles.cert_written)
  pub note : outs.note ≡ fresh StandardError
