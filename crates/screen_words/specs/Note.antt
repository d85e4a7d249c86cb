-- To be believed: what the program says of each ending.
use Rattle.std.specs.Prelude.{ℕ, List, [], ◌∷◌, ◌++◌, codes, decimal}
use Rattle.std.specs.Fmt.{signed_decimal}
use Rattle.rule_file.specs.declared.fault.RuleCause.{RuleCause}
use Rattle.rule_file.specs.declared.fault.RuleCause.TheVariants as rules
use Rattle.fix_point.specs.declared.scale.NumFault.{NumFault}
use Rattle.fix_point.specs.declared.scale.NumFault.TheVariants as number
use Rattle.time_text.specs.declared.form.TimeFault.{TimeFault}
use Rattle.time_text.specs.declared.form.TimeFault.TheVariants as time
use Rattle.record_cut.specs.declared.fault.CutFault.{CutFault}
use Rattle.record_cut.specs.declared.fault.CutFault.TheVariants as cut
use Rattle.series_rows.specs.declared.fault.TableCause.{TableCause}
use Rattle.series_rows.specs.declared.fault.TableCause.TheVariants as readings
use Rattle.cert_format.specs.Line.{name_words}
use Rattle.cert_format.specs.Words.{line_of_words}
use Rattle.cert_check.specs.declared.fault.CertFault.{CertFault}
use Rattle.cert_check.specs.declared.fault.CertFault.TheVariants as cert
use Rattle.screen_words.specs.declared.status.Ending.{Ending}
use Rattle.screen_words.specs.declared.status.Ending.TheVariants.{Ended, ReadFault, WriteFault, Memory}
use Rattle.screen_words.specs.declared.status.Outcome.{Outcome}
use Rattle.screen_words.specs.declared.status.Outcome.TheVariants.{Done, NoSeries, Usage, RulesRefused, NotOnline, ReadingsRefused, TooManyBounds, WindowFull, NoWholeStep, LeavesRange, CertRefused}

abbrev pub rule_cause_name : RuleCause → List ℕ
rule_cause_name rules.Syntax = codes "Syntax"
rule_cause_name rules.UnknownKey = codes "UnknownKey"
rule_cause_name rules.MissingKey = codes "MissingKey"
rule_cause_name rules.WrongKind = codes "WrongKind"
rule_cause_name rules.BadNumber = codes "BadNumber"
rule_cause_name rules.Order = codes "Order"
rule_cause_name rules.ReachTooLarge = codes "ReachTooLarge"
rule_cause_name rules.OutOfLimit = codes "OutOfLimit"
rule_cause_name rules.TooMany = codes "TooMany"
rule_cause_name rules.SameSensor = codes "SameSensor"
rule_cause_name rules.FileTooLong = codes "FileTooLong"
rule_cause_name rules.Memory = codes "Memory"

abbrev pub time_fault_name : TimeFault → List ℕ
time_fault_name time.NotTime = codes "NotTime"
time_fault_name time.TimeTooFine = codes "TimeTooFine"
time_fault_name time.TimeOutOfRange = codes "TimeOutOfRange"
time_fault_name time.Memory = codes "Memory"

abbrev pub number_fault_name : NumFault → List ℕ
number_fault_name number.NotNumber = codes "NotNumber"
number_fault_name number.TooFine = codes "TooFine"
number_fault_name number.OutOfRange = codes "OutOfRange"

abbrev pub cut_fault_name : CutFault → List ℕ
cut_fault_name cut.BadQuote = codes "BadQuote"
cut_fault_name cut.RecordTooLong = codes "RecordTooLong"
cut_fault_name cut.OpenQuote = codes "OpenQuote"
cut_fault_name cut.Memory = codes "Memory"

-- the name of the cause, or of what is wrong with a time, a value or a record
abbrev pub table_cause_name : TableCause → List ℕ
table_cause_name readings.NoHeader = codes "NoHeader"
table_cause_name readings.TooManyColumns = codes "TooManyColumns"
table_cause_name readings.NameTwice = codes "NameTwice"
table_cause_name (readings.NoSuchSensor rule) = codes "NoSuchSensor"
table_cause_name readings.Width = codes "Width"
table_cause_name (readings.Time fault) = time_fault_name fault
table_cause_name readings.TimeNotRising = codes "TimeNotRising"
table_cause_name (readings.Value fault) = number_fault_name fault
table_cause_name readings.TooManyRows = codes "TooManyRows"
table_cause_name readings.TooManyReadings = codes "TooManyReadings"
table_cause_name (readings.Cut fault) = cut_fault_name fault
table_cause_name readings.FileTooLong = codes "FileTooLong"
table_cause_name readings.Memory = codes "Memory"

abbrev pub usage_text : List ℕ
usage_text =
    codes "usage: screen global RULES READINGS CERT\n"
    ++ codes "       screen check RULES READINGS CERT\n"
    ++ codes "       screen online RULES\n"
    ++ codes "       screen report RULES READINGS CERT\n"
    ++ codes "       screen sample ROWS SEED\n"

-- why the rules are refused, with the number of the rule
abbrev pub rules_text : List ℕ → ℕ → List ℕ
rules_text name rule = codes "screen: rules refused: " ++ name ++ codes ", rule " ++ decimal rule ++ codes "\n"

-- why the readings are refused, with the row and the column
abbrev pub readings_text : List ℕ → ℕ → ℕ → List ℕ
readings_text name row col = codes "screen: readings refused: " ++ name ++ codes ", row " ++ decimal row ++ codes ", column " ++ decimal col ++ codes "\n"

-- The name of the cause, and then what it is about: a line, or the name of a bound, a place or sums in units.
abbrev pub cert_fault_words : CertFault → List (List ℕ)
cert_fault_words (cert.Syntax line) = codes "Syntax" ∷ decimal line ∷ []
cert_fault_words (cert.SetOutside line) = codes "SetOutside" ∷ decimal line ∷ []
cert_fault_words (cert.UnknownBound line) = codes "UnknownBound" ∷ decimal line ∷ []
cert_fault_words (cert.Broken name) = codes "Broken" ∷ name_words name
cert_fault_words (cert.TotalWrong given truth) = codes "TotalWrong" ∷ signed_decimal given ∷ signed_decimal truth ∷ []
cert_fault_words (cert.PullTooGreat place) = codes "PullTooGreat" ∷ decimal place.row ∷ decimal place.col ∷ []
cert_fault_words (cert.ValueDiffers value total) = codes "ValueDiffers" ∷ signed_decimal value ∷ signed_decimal total ∷ []
cert_fault_words (cert.CycleOpen line) = codes "CycleOpen" ∷ decimal line ∷ []
cert_fault_words (cert.CycleSum sum) = codes "CycleSum" ∷ signed_decimal sum ∷ []
cert_fault_words cert.FileTooLong = codes "FileTooLong" ∷ []
cert_fault_words (cert.OverPrice line) = codes "OverPrice" ∷ decimal line ∷ []
cert_fault_words (cert.PricedStep line) = codes "PricedStep" ∷ decimal line ∷ []
cert_fault_words (cert.PaidWrong given truth) = codes "PaidWrong" ∷ signed_decimal given ∷ signed_decimal truth ∷ []
cert_fault_words cert.Memory = codes "Memory" ∷ []

-- one line, and none where all is well
abbrev pub outcome_text : Outcome → List ℕ
outcome_text Done = []
outcome_text NoSeries = codes "screen: no series obeys the rules\n"
outcome_text Usage = usage_text
outcome_text (RulesRefused fault) = rules_text (rule_cause_name fault.cause) fault.rule
outcome_text (NotOnline rule) = rules_text (codes "NotOnline") rule
outcome_text (ReadingsRefused fault) = readings_text (table_cause_name fault.cause) fault.row fault.col
outcome_text TooManyBounds = readings_text (codes "TooManyBounds") 0 0
outcome_text (WindowFull row) = readings_text (codes "WindowFull") row 0
outcome_text (NoWholeStep row col) = readings_text (codes "NoWholeStep") row col
outcome_text (LeavesRange row col) = readings_text (codes "LeavesRange") row col
outcome_text (CertRefused fault) = codes "screen: certificate refused: " ++ line_of_words (cert_fault_words fault) ++ codes "\n"

abbrev pub note_text : Ending → List ℕ
note_text (Ended outcome) = outcome_text outcome
note_text ReadFault = codes "screen: a read failed\n"
note_text WriteFault = codes "screen: a write failed\n"
note_text Memory = codes "screen: out of memory\n"
