-- To be believed: what the command `check` answers to its rules, its readings and a certificate.
use Rattle.std.specs.Prelude.{ℕ, List, ◌++◌, codes}
use Rattle.std.specs.Fmt.{signed_decimal}
use Rattle.cert_check.specs.declared.accepted.Accepted.{Accepted}
use Rattle.cert_check.specs.declared.accepted.Accepted.TheVariants.{Repair, NoSeries}
use Rattle.rule_file.specs.declared.rules.Rules.{Rules}
use Rattle.series_csv.specs.File.{TableView}
use Rattle.screen_words.specs.declared.ends.Inputs.{Inputs}
use Rattle.screen_steps.specs.Answer.{Answer}
use Rattle.screen_tool.specs.Checked.{AnswersChecked}

-- which claim is accepted, and the total of a repair in units
abbrev pub check_text : Accepted → List ℕ
check_text (Repair series flow total paid) = codes "accepted repair " ++ signed_decimal total ++ codes "\n"
check_text (NoSeries cycle) = codes "accepted none\n"

abbrev pub AnswersCheckBy : (Rules → TableView → Accepted → Type 0) → Inputs (List ℕ) → Answer → Type 0
AnswersCheckBy Holds = AnswersChecked Holds (λ rules table. check_text)

abbrev pub AnswersCheck : Inputs (List ℕ) → Answer → Type 0
AnswersCheck = AnswersCheckBy (λ rules table accepted. Unit {0})
