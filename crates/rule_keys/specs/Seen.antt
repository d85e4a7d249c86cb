-- For proofs: an entry without where its name lies in memory.
use Rattle.std.specs.Prelude.{ℤ, List, map, Result, Ok, Err}
use Rattle.arrayvec.specs.ArrayVec.{ArrayVec}
use Rattle.rule_keys.specs.declared.cause.KeyCause.{KeyCause}
use Rattle.rule_keys.specs.declared.entries.Entry.{Entry}
use Rattle.rule_keys.specs.declared.entries.Entry.TheVariants as entry
use Rattle.rule_keys.specs.declared.entries.Found.{Found}
use Rattle.rule_keys.specs.declared.key.KeyName.{KeyName}
use Rattle.rule_keys.specs.Entries.{Meaning, number, name, chosen, nothing}

abbrev pub meaning : Entry → Meaning
meaning (entry.Number z) = number z
meaning (entry.Name s) = name s.now
meaning (entry.Chosen c) = chosen c
meaning entry.Nothing = nothing

abbrev pub seen : Found → KeyName × Meaning
seen found = (found.key, meaning found.entry)

-- the same of an answer
abbrev pub meant : Result Entry KeyCause → Result Meaning KeyCause
meant (Ok found) = Ok (meaning found)
meant (Err cause) = Err cause

abbrev pub meant_number : Result ℤ KeyCause → Result Meaning KeyCause
meant_number (Ok z) = Ok (number z)
meant_number (Err cause) = Err cause

-- the list of what was read, of the answer that has it
abbrev pub seen_all : Result (ArrayVec Found) KeyCause → Result (List (KeyName × Meaning)) KeyCause
seen_all (Ok found) = Ok (map seen found.items)
seen_all (Err cause) = Err cause
