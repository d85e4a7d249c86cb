-- To be believed: what each command answers, and the laws of it.
use Rattle.std.specs.Prelude.{◌≡◌, ℕ, List, Bool, true, false, Option, Some, None}
use Rattle.cert_check.specs.declared.accepted.Accepted.{Accepted}
use Rattle.least_cost.specs.declared.outcome.Outcome.{Outcome as Found}
use Rattle.rule_file.specs.declared.rules.Rules.{Rules}
use Rattle.screen_model.specs.Cost.{Problem}
use Rattle.series_csv.specs.File.{TableView}
use Rattle.screen_words.specs.declared.command.Command.{Command}
use Rattle.screen_words.specs.declared.command.Command.TheVariants.{Check, Global, Online, Report, Sample}
use Rattle.screen_words.specs.declared.ends.Inputs.{Inputs}
use Rattle.screen_online.specs.Online.{AnswersOnline}
use Rattle.screen_words.specs.declared.status.Outcome.TheVariants.{Usage}
use Rattle.screen_steps.specs.Answer.{Unread, Answer, AreFronts}
use Rattle.screen_tool.specs.Check.{AnswersCheckBy}
use Rattle.screen_steps.specs.Files.{without_texts}
use Rattle.screen_tool.specs.Global.{AnswersGlobalBy}
use Rattle.screen_tool.specs.Report.{AnswersReportBy}
use Rattle.screen_tool.specs.Sample.{AnswersSampleBy}

-- the commands for which a solver finds a repair
abbrev pub finds_a_repair : Option Command → Bool
finds_a_repair (Some Global) = true
finds_a_repair (Some Check) = false
finds_a_repair (Some Online) = false
finds_a_repair (Some Report) = false
finds_a_repair (Some (Sample rows seed)) = true
finds_a_repair None = false

-- Words that ask for no command are answered with the usage text, and nothing is read.
abbrev pub usage : Answer
usage = without_texts Usage Unread Unread

-- The command answers this to sources of these bytes. `Counts` is what is asked beside of a problem that is solved and of what
-- was found for it, and `Holds` of what a certificate is accepted as.
abbrev pub AnswersBy : (Problem → Found → Type 0) → (Rules → TableView → Accepted → Type 0) → Option Command → Inputs (List ℕ) → Answer → Type 0
AnswersBy Counts Holds (Some Global) bytes answer = AnswersGlobalBy Counts bytes answer
AnswersBy Counts Holds (Some Check) bytes answer = AnswersCheckBy Holds bytes answer
AnswersBy Counts Holds (Some Online) bytes answer = AnswersOnline bytes answer
AnswersBy Counts Holds (Some Report) bytes answer = AnswersReportBy Holds bytes answer
AnswersBy Counts Holds (Some (Sample rows seed)) bytes answer = AnswersSampleBy Counts rows seed answer
AnswersBy Counts Holds None bytes answer = answer ≡ usage

abbrev pub Answers : Option Command → Inputs (List ℕ) → Answer → Type 0
Answers = AnswersBy (λ problem found. Unit {0}) (λ rules table accepted. Unit {0})

-- A command comes to one outcome only, whatever text it may choose.
abbrev pub OneOutcome : Type 0
OneOutcome = (command : Option Command) (bytes : Inputs (List ℕ)) (one other : Answer)
    → Answers command bytes one → Answers command bytes other → one.outcome ≡ other.outcome

-- The text that goes to the output is one only, too. So a repaired file is a function of the two files that it is made from,
-- whatever flow is found.
abbrev pub OneText : Type 0
OneText = (command : Option Command) (bytes : Inputs (List ℕ)) (one other : Answer)
    → Answers command bytes one → Answers command bytes other → one.out ≡ other.out

-- An answer rests on no more of the sources than it reads.
abbrev pub RestsOnRead : Type 0
RestsOnRead = (command : Option Command) (came bytes : Inputs (List ℕ)) (answer : Answer)
    → Answers command came answer → AreFronts answer.read came bytes → Answers command bytes answer
