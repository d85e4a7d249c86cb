-- To be believed: what the command `report` answers to its rules, its readings and a certificate.
use Rattle.std.specs.Prelude.{ℕ, List}
use Rattle.cert_check.specs.declared.accepted.Accepted.{Accepted}
use Rattle.repair_report.specs.Report.{report_text}
use Rattle.rule_file.specs.declared.rules.Rules.{Rules}
use Rattle.series_csv.specs.File.{TableView}
use Rattle.screen_words.specs.declared.ends.Inputs.{Inputs}
use Rattle.screen_steps.specs.Answer.{Answer}
use Rattle.screen_tool.specs.Checked.{AnswersChecked}

abbrev pub AnswersReportBy : (Rules → TableView → Accepted → Type 0) → Inputs (List ℕ) → Answer → Type 0
AnswersReportBy Holds = AnswersChecked Holds report_text

abbrev pub AnswersReport : Inputs (List ℕ) → Answer → Type 0
AnswersReport = AnswersReportBy (λ rules table accepted. Unit {0})
