-- To be believed: the words of commands, and what the ends of each are.
use Rattle.std.specs.Prelude.{ℕ, ◌&&◌, nat_le, List, [], ◌∷◌, length, Bool, Option, Some, None, map, codes, nat_eq, String, string_bytes, if◌then◌else◌}
use Rattle.std.specs.Str.{all_ascii_digits}
use Rattle.std.specs.Str.Parse.{digits_value}
use Rattle.std.specs.Cmp.Lexicographic.{pointwise}
use Rattle.std.specs.declared.alloc.Global.{Global as Heap}
use Rattle.sample_maker.specs.declared.make.TheConstants.{MOST_ROWS, MOST_SEED}
use Rattle.screen_words.specs.declared.command.Command.{Command}
use Rattle.screen_words.specs.declared.command.TheConstants.{MOST_DIGITS}
use Rattle.screen_words.specs.declared.command.Command.TheVariants.{Check, Global, Online, Report, Sample}
use Rattle.screen_words.specs.declared.ends.EndUse.TheVariants.{Word, Input, Output, Nothing}
use Rattle.screen_words.specs.declared.ends.Roles.{Roles}

-- the bytes of each word
abbrev pub texts : List (String Heap) → List (List ℕ)
texts words = map string_bytes words

abbrev pub is_word : List ℕ → List ℕ → Bool
is_word word text = pointwise nat_eq text word

-- the number that a word of one to nine digits writes
abbrev pub number_of : List ℕ → Option ℕ
number_of word = if all_ascii_digits word && (nat_le 1 (length word) && nat_le (length word) MOST_DIGITS) then Some (digits_value 10 word) else None

-- a sample of so many rows, at least one and at most 20,000, that is made from so great a number
abbrev pub sample_of : Option ℕ → Option ℕ → Option Command
sample_of (Some rows) (Some seed) = if nat_le 1 rows && (nat_le rows MOST_ROWS && nat_le seed MOST_SEED) then Some (Sample rows seed) else None
sample_of (Some rows) None = None
sample_of None seed = None

-- the command of this name that takes rules, readings and a certificate
abbrev pub file_command : List ℕ → Option Command
file_command name =
    if is_word (codes "global") name then Some Global
    else (if is_word (codes "check") name then Some Check else (if is_word (codes "report") name then Some Report else None))

-- the command of this name that takes rules alone
abbrev pub stream_command : List ℕ → Option Command
stream_command name = if is_word (codes "online") name then Some Online else None

-- the command of this name that takes a number of rows and a number that they are made from
abbrev pub sample_command : List ℕ → List ℕ → List ℕ → Option Command
sample_command name rows seed = if is_word (codes "sample") name then sample_of (number_of rows) (number_of seed) else None

-- `global RULES READINGS CERT`, `check RULES READINGS CERT`, `online RULES`, `report RULES READINGS CERT` and `sample ROWS SEED`
-- ask for those commands, and nothing else asks for one
abbrev pub command_of : List (List ℕ) → Option Command
command_of (command ∷ rules ∷ readings ∷ cert ∷ []) = file_command command
command_of (command ∷ rules ∷ []) = stream_command command
command_of (command ∷ rows ∷ seed ∷ []) = sample_command command rows seed
command_of _ = None

-- The words count from 0, so the first file is word 1.
abbrev pub roles_of : Option Command → Roles
roles_of (Some Global) = record { rules = Word 1; readings = Word 2; cert_read = Nothing; cert_written = Word 3; out = Output }
roles_of (Some Check) = record { rules = Word 1; readings = Word 2; cert_read = Word 3; cert_written = Nothing; out = Output }
roles_of (Some Report) = record { rules = Word 1; readings = Word 2; cert_read = Word 3; cert_written = Nothing; out = Output }
roles_of (Some Online) = record { rules = Word 1; readings = Input; cert_read = Nothing; cert_written = Nothing; out = Output }
roles_of (Some (Sample rows seed)) = record { rules = Nothing; readings = Nothing; cert_read = Nothing; cert_written = Nothing; out = Output }
roles_of None = record { rules = Nothing; readings = Nothing; cert_read = Nothing; cert_written = Nothing; out = Nothing }
