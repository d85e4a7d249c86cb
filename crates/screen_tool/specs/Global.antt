-- To be believed: what the command `global` answers to its rules and its readings.
use Rattle.std.specs.Prelude.{◌≡◌, ℕ, List, Some, None, Ok}
use Rattle.bound_maker.specs.Costs.{made_problem, whole_problem}
use Rattle.cert_check.specs.Judges.{Judges}
use Rattle.cert_format.specs.Cert.{HasText, text_of_cert}
use Rattle.least_cost.specs.Answer.{Answers}
use Rattle.least_cost.specs.declared.outcome.Outcome.{Outcome}
use Rattle.least_cost.specs.declared.outcome.Outcome.TheVariants as found
use Rattle.rule_file.specs.declared.rules.Rules.{Rules}
use Rattle.screen_model.specs.Cost.{Problem}
use Rattle.series_csv.specs.File.{TableView}
use Rattle.series_csv.specs.Text.{table_text}
use Rattle.screen_words.specs.declared.ends.Inputs.{Inputs}
use Rattle.screen_words.specs.declared.status.Outcome.TheVariants.{Done, NoSeries}
use Rattle.screen_steps.specs.Answer.{Whole, Unread, Answer}
use Rattle.screen_tool.specs.Certificates.{cert_of, claim_of}
use Rattle.screen_steps.specs.Files.{AfterBoth, AfterBounds}

-- It is the repair under all bounds, or a cycle that forbids every series; the names in it are of bounds that are made; and
-- its certificate has a text, which is accepted as the certificate of this.
pub record IsFoundFor (rules : Rules) (table : TableView) (outcome : Outcome) : Type 0 where
  pub whole : Answers (whole_problem rules table) outcome
  pub made : Answers (made_problem rules table) outcome
  pub text : HasText (cert_of rules table outcome)
  pub accepted : Judges rules table (text_of_cert (cert_of rules table outcome)) (Ok (claim_of outcome))

-- Both files are whole. A repair is written with its certificate, and a cycle as a certificate alone.
abbrev pub answer_of : Rules → TableView → Outcome → Answer
answer_of rules table (found.Repaired series flow total paid changes) = record {
  outcome = Done;
  read = record { rules = Whole; readings = Whole; cert = Unread };
  cert = Some (text_of_cert (cert_of rules table (found.Repaired series flow total paid changes)));
  out = Some (table_text rules table series);
}
answer_of rules table (found.NoSeries cycle) = record {
  outcome = NoSeries;
  read = record { rules = Whole; readings = Whole; cert = Unread };
  cert = Some (text_of_cert (cert_of rules table (found.NoSeries cycle)));
  out = None;
}

-- `Counts` is what is asked beside of a problem and of what was found for it.
module _ (Counts : Problem → Outcome → Type 0) where
  -- Which flow and which cycle is found is free; each that is right may be written.
  abbrev pub AnswersBoundsBy : Rules → TableView → Answer → Type 0
  AnswersBoundsBy rules table answer =
      (outcome : Outcome) × IsFoundFor rules table outcome × Counts (made_problem rules table) outcome × (answer ≡ answer_of rules table outcome)

  abbrev pub AnswersTableBy : Rules → TableView → Answer → Type 0
  AnswersTableBy rules table = AfterBounds rules table (AnswersBoundsBy rules table)

  abbrev pub AnswersGlobalBy : Inputs (List ℕ) → Answer → Type 0
  AnswersGlobalBy = AfterBoth (λ rules table cert. AnswersTableBy rules table)

abbrev pub AnswersGlobal : Inputs (List ℕ) → Answer → Type 0
AnswersGlobal = AnswersGlobalBy (λ problem outcome. Unit {0})
