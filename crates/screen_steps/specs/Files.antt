-- To be believed: what every command answers where its rules or its readings are refused, or the bounds of both.
use Rattle.std.specs.Prelude.{◌≡◌, ◌⊎◌, ℕ, ◌+◌, ◌<◌, ◌≤◌, List, length, None}
use Rattle.bound_maker.specs.declared.maker.TheConstants.{MOST_BOUNDS}
use Rattle.bound_maker.specs.Bounds.{made_bounds}
use Rattle.cert_check.specs.Judges.{Judges}
use Rattle.rule_file.specs.Fault.{of_the_file as of_the_rules}
use Rattle.rule_file.specs.File.{ReadsFile}
use Rattle.rule_file.specs.declared.fault.RuleFault.{RuleFault}
use Rattle.rule_file.specs.declared.fault.RuleCause.TheVariants as rules
use Rattle.rule_file.specs.declared.read.TheConstants.{LONGEST as longest_rules}
use Rattle.rule_file.specs.declared.rules.Rules.{Rules}
use Rattle.series_csv.specs.File.{TableView, ReadsTable}
use Rattle.series_csv.specs.declared.table.TheConstants.{LONGEST as longest_readings}
use Rattle.series_rows.specs.Faults.{of_the_file as of_the_readings}
use Rattle.series_rows.specs.declared.fault.TableFault.{TableFault}
use Rattle.series_rows.specs.declared.fault.TableCause.TheVariants as readings
use Rattle.screen_words.specs.declared.ends.Inputs.{Inputs}
use Rattle.screen_words.specs.declared.status.Outcome.{Outcome}
use Rattle.screen_words.specs.declared.status.Outcome.TheVariants.{RulesRefused, ReadingsRefused, TooManyBounds}
use Rattle.screen_steps.specs.Answer.{Extent, Whole, Begun, Unread, Answer, AfterFile, AreOne}

-- The answer that writes nothing, where the rules and the readings are read so far, and no certificate is.
abbrev pub without_texts : Outcome → Extent → Extent → Answer
without_texts outcome rules readings = record {
  outcome = outcome;
  read = record { rules = rules; readings = readings; cert = Unread };
  cert = None;
  out = None;
}

abbrev pub rules_too_long : Answer
rules_too_long = without_texts (RulesRefused (of_the_rules rules.FileTooLong)) (Begun (longest_rules + 1)) Unread

abbrev pub rules_refused : RuleFault → Answer
rules_refused fault = without_texts (RulesRefused fault) Whole Unread

abbrev pub readings_too_long : Answer
readings_too_long = without_texts (ReadingsRefused (of_the_readings readings.FileTooLong)) Whole (Begun (longest_readings + 1))

abbrev pub readings_refused : TableFault → Answer
readings_refused fault = without_texts (ReadingsRefused fault) Whole Whole

abbrev pub too_many_bounds : Answer
too_many_bounds = without_texts TooManyBounds Whole Whole

-- The rules come first, and the readings are not begun unless they are accepted.
abbrev pub AfterRules : List ℕ → (Rules → Answer → Type 0) → Answer → Type 0
AfterRules = AfterFile longest_rules ReadsFile rules_too_long rules_refused

-- The readings are read by accepted rules.
abbrev pub AfterReadings : Rules → List ℕ → (TableView → Answer → Type 0) → Answer → Type 0
AfterReadings rules = AfterFile longest_readings (ReadsTable rules) readings_too_long readings_refused

-- What follows once both files are accepted, by the bytes of the certificate that is read after them, if one is.
abbrev pub AfterBoth : (Rules → TableView → List ℕ → Answer → Type 0) → Inputs (List ℕ) → Answer → Type 0
AfterBoth Follows bytes = AfterRules bytes.rules (λ rules. AfterReadings rules bytes.readings (λ table. Follows rules table bytes.cert))

-- the bounds that are made of the table are no more than there may be
abbrev pub HasFewBounds : Rules → TableView → Type 0
HasFewBounds rules table = length (made_bounds rules table) ≤ MOST_BOUNDS

-- The bounds come after both files: there may be too many of them, and that is the answer; or the answer is one that
-- follows.
abbrev pub AfterBounds : Rules → TableView → (Answer → Type 0) → Answer → Type 0
AfterBounds rules table Follows answer =
    ((MOST_BOUNDS < length (made_bounds rules table)) × (answer ≡ too_many_bounds)) ⊎ (HasFewBounds rules table × Follows answer)

-- The rules are read as one thing only, so are the readings by any rules, and a certificate is judged in one way only.
abbrev pub RulesAreOne : Type 0
RulesAreOne = AreOne ReadsFile

abbrev pub ReadingsAreOne : Type 0
ReadingsAreOne = (rules : Rules) → AreOne (ReadsTable rules)

abbrev pub CertsAreOne : Type 0
CertsAreOne = (rules : Rules) (table : TableView) → AreOne (Judges rules table)
