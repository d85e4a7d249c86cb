-- To be believed: what the bytes of a rule file are read as.
use Rattle.std.specs.Prelude.{◌≡◌, ◌⊎◌, ℕ, ◌<◌, ◌≤◌, List, length, Result, Ok, Err}
use Rattle.toml.specs.Data.{Members}
use Rattle.rule_file.specs.declared.fault.RuleCause.TheVariants.{FileTooLong, Syntax}
use Rattle.rule_file.specs.declared.fault.RuleFault.{RuleFault}
use Rattle.rule_file.specs.declared.read.TheConstants.{LONGEST}
use Rattle.rule_file.specs.declared.rules.Rules.{Rules}
use Rattle.rule_file.specs.Document.{ReadsDocument}
use Rattle.rule_file.specs.Fault.{of_the_file}
use Rattle.rule_file.specs.Toml.{IsToml}

-- too long a file; or no TOML; or what its table is read as
abbrev pub ReadsFile : List ℕ → Result Rules RuleFault → Type 0
ReadsFile bytes answer =
    ((LONGEST < length bytes) × (answer ≡ Err (of_the_file FileTooLong)))
    ⊎ ((length bytes ≤ LONGEST)
    × ((((found : Members) → ¬ IsToml bytes found) × (answer ≡ Err (of_the_file Syntax)))
    ⊎ ((found : Members) × IsToml bytes found × ReadsDocument found answer)))

-- the bytes are a rule file of these rules
abbrev pub Spells : List ℕ → Rules → Type 0
Spells bytes rules = ReadsFile bytes (Ok rules)

-- the bytes are refused, and this is the first fault
abbrev pub Refuses : List ℕ → RuleFault → Type 0
Refuses bytes fault = ReadsFile bytes (Err fault)
