-- To be believed: the faults of a rule file, of a numbered rule or of none.
use Rattle.std.specs.Prelude.{ℕ}
use Rattle.rule_keys.specs.declared.cause.KeyCause.{KeyCause}
use Rattle.rule_keys.specs.declared.cause.KeyCause.TheVariants as key
use Rattle.rule_file.specs.declared.fault.RuleCause.{RuleCause}
use Rattle.rule_file.specs.declared.fault.RuleCause.TheVariants as cause
use Rattle.rule_file.specs.declared.fault.RuleFault.{RuleFault}

-- why a file is refused that has a table which is refused
abbrev pub cause_of_key : KeyCause → RuleCause
cause_of_key key.UnknownKey = cause.UnknownKey
cause_of_key key.MissingKey = cause.MissingKey
cause_of_key key.WrongKind = cause.WrongKind
cause_of_key key.BadNumber = cause.BadNumber
cause_of_key key.OutOfLimit = cause.OutOfLimit
cause_of_key key.Order = cause.Order
cause_of_key key.ReachTooLarge = cause.ReachTooLarge
cause_of_key key.SameSensor = cause.SameSensor

-- a fault of no numbered rule
abbrev pub of_the_file : RuleCause → RuleFault
of_the_file cause = record { cause = cause; rule = 0 }

-- the fault of a file whose rule of this number is refused
abbrev pub of_rule : ℕ → KeyCause → RuleFault
of_rule number cause = record { cause = cause_of_key cause; rule = number }
