-- The laws of what commands answer.
use Rattle.std.proofs.Common.{◌≡◌, ◌≢◌, inl, inr, ℕ, ℤ, List, Option, Some, None, Ok, refl, sym, ap, subst, ◌∙◌, length, ◌≤◌, ◌+◌}
use Rattle.bound_maker.specs.Costs.{whole_problem}
use Rattle.cert_check.specs.Judges.{Judges}
use Rattle.cert_check.specs.declared.accepted.Accepted.{Accepted}
use Rattle.cert_check.specs.declared.fault.CertFault.{CertFault}
use Rattle.cert_format.specs.declared.limits.TheConstants.{LONGEST as longest_cert}
use Rattle.least_cost.specs.declared.outcome.Outcome.{Outcome as Found}
use Rattle.least_cost.specs.declared.outcome.Outcome.TheVariants as found
use Rattle.least_cost.specs.Answer.{Answers as AnswersProblem}
use Rattle.least_cost.specs.Repair.{RepairIsOne}
use Rattle.repair_report.specs.Report.{report_text}
use Rattle.rule_file.specs.File.{ReadsFile}
use Rattle.rule_file.specs.declared.fault.RuleFault.{RuleFault}
use Rattle.rule_file.specs.declared.read.TheConstants.{LONGEST as longest_rules}
use Rattle.rule_file.specs.declared.rules.Rules.{Rules}
use Rattle.screen_model.specs.Cost.{Problem}
use Rattle.series_csv.specs.File.{TableView, ReadsTable}
use Rattle.series_csv.specs.Text.{table_text}
use Rattle.series_csv.specs.declared.table.TheConstants.{LONGEST as longest_readings}
use Rattle.series_rows.specs.declared.fault.TableFault.{TableFault}
use Rattle.screen_words.specs.declared.command.Command.{Command}
use Rattle.screen_words.specs.declared.command.Command.TheVariants.{Check, Global, Online, Report, Sample}
use Rattle.screen_words.specs.declared.ends.Inputs.{Inputs}
use Rattle.screen_steps.specs.Answer.{Extent, Whole, Unread, Answer, AreFront, AreFronts}
use Rattle.screen_tool.specs.Answers.{Answers, AnswersBy, OneOutcome, OneText, RestsOnRead}
use Rattle.screen_tool.specs.Check.{check_text}
use Rattle.screen_tool.specs.Checked.{AfterCert, AnswersChecked, accepted_answer, cert_refused, cert_too_long}
use Rattle.screen_steps.specs.Files.{CertsAreOne}
use Rattle.screen_steps.specs.Files.{RulesAreOne, ReadingsAreOne, AfterBounds, HasFewBounds, rules_too_long, rules_refused, readings_too_long, readings_refused, too_many_bounds}
use Rattle.screen_tool.specs.Global.{AnswersGlobal, AnswersGlobalBy, AnswersTableBy, AnswersBoundsBy, answer_of}
use Rattle.screen_tool.specs.Sample.{summary_of, unread}
use Rattle.screen_steps.proofs.AfterFile.{after_follows, after_has, after_one, after_rests}
use Rattle.screen_steps.proofs.BothFiles.{begun_not_unread, both_accepted, both_follow, both_have, both_one, both_rest, bounds_few, bounds_follow, bounds_have, bounds_one, whole_not_unread}
use Rattle.online_repair.specs.Laws.{OutputsAreOne, RefusalsStay}
use Rattle.screen_online.proofs.Answered.{online_one, online_rests}
use Rattle.screen_online.specs.Online.{streamed}
use Rattle.screen_words.specs.declared.status.Outcome.{Outcome}
use Rattle.screen_tool.proofs.SampleLaws.{sample_any, sample_one, summed_out, summed_outcome}

-- ---- what every answer of `global` has

abbrev pub both_read : Inputs Extent
both_read = record { rules = Whole; readings = Whole; cert = Unread }

pub found_reads : (rules : Rules) (table : TableView) (outcome : Found) → (answer_of rules table outcome).read ≡ both_read
found_reads rules table (found.Repaired series flow total paid changes) = refl
found_reads rules table (found.NoSeries cycle) = refl

module _ (Counts : Problem → Found → Type 0) where
  table_has : (P : Answer → Type 0) (rules : Rules) (table : TableView) (answer : Answer)
      → P too_many_bounds → ((outcome : Found) → P (answer_of rules table outcome)) → AnswersTableBy Counts rules table answer → P answer
  table_has P rules table answer at_many at_found =
      bounds_have rules table P (AnswersBoundsBy Counts rules table) answer at_many (λ p. subst P (sym p.3) (at_found p.0))

  pub global_has : (P : Answer → Type 0) (bytes : Inputs (List ℕ)) (answer : Answer)
      → P rules_too_long → ((fault : RuleFault) → P (rules_refused fault)) → P readings_too_long → ((fault : TableFault) → P (readings_refused fault))
      → P too_many_bounds → ((rules : Rules) (table : TableView) (outcome : Found) → P (answer_of rules table outcome)) → AnswersGlobalBy Counts bytes answer → P answer
  global_has P bytes answer at_long at_refused table_long table_refused at_many at_found =
      both_have P (λ rules table cert. AnswersTableBy Counts rules table) bytes answer at_long at_refused table_long table_refused
      (λ rules table. table_has P rules table answer at_many (at_found rules table))

  -- every answer over a table comes of both files
  pub reads_both : (rules : Rules) (table : TableView) (answer : Answer) → AnswersTableBy Counts rules table answer → answer.read ≡ both_read
  reads_both rules table answer = table_has (λ a. a.read ≡ both_read) rules table answer refl (found_reads rules table)

  pub global_wholly : (rules : Rules) (table : TableView) (cert : List ℕ) (answer : Answer) → AnswersTableBy Counts rules table answer → (answer.read.rules ≡ Whole) × (answer.read.readings ≡ Whole)
  global_wholly rules table cert answer p =
      let read = reads_both rules table answer p in (ap (λ (r : Inputs Extent). r.rules) read, ap (λ (r : Inputs Extent). r.readings) read)

  -- where the bounds are few the answer is one of those that follow
  pub bounds_answer : (rules : Rules) (table : TableView) (answer : Answer) → HasFewBounds rules table → AnswersTableBy Counts rules table answer → AnswersBoundsBy Counts rules table answer
  bounds_answer rules table answer few = bounds_few rules table (AnswersBoundsBy Counts rules table) answer few

  -- an answer rests on what was read
  pub global_rests : (came bytes : Inputs (List ℕ)) (answer : Answer) → AreFronts answer.read came bytes → AnswersGlobalBy Counts came answer → AnswersGlobalBy Counts bytes answer
  global_rests came bytes answer fronts =
      both_rest (λ rules table cert. AnswersTableBy Counts rules table) global_wholly (λ rules table cert. AnswersTableBy Counts rules table) came bytes answer fronts (λ rules table p. p)

  -- what is counted may be left out
  table_any : (rules : Rules) (table : TableView) (answer : Answer) → AnswersTableBy Counts rules table answer → AnswersTableBy (λ problem outcome. Unit {0}) rules table answer
  table_any rules table answer (inl p) = inl p
  table_any rules table answer (inr p) = inr (p.0, (p.1.0, p.1.1, tt, p.1.3))

  pub global_any : (bytes : Inputs (List ℕ)) (answer : Answer) → AnswersGlobalBy Counts bytes answer → AnswersGlobal bytes answer
  global_any bytes answer =
      both_follow (λ rules table cert. AnswersTableBy Counts rules table) (λ rules table cert. AnswersTableBy (λ problem outcome. Unit {0}) rules table) bytes answer
      (λ rules table. table_any rules table answer)

-- ---- what every answer of a command has that checks a certificate

module _ (Holds : Rules → TableView → Accepted → Type 0) (text : Rules → TableView → Accepted → List ℕ) where
  abbrev After : Rules → TableView → List ℕ → Answer → Type 0
  After rules table cert = AfterBounds rules table (AfterCert Holds text rules table cert)

  abbrev Accepts : Rules → TableView → Accepted → Answer → Type 0
  Accepts rules table accepted answer = Holds rules table accepted × (answer ≡ accepted_answer (text rules table accepted))

  pub cert_has : (P : Answer → Type 0) (rules : Rules) (table : TableView) (cert : List ℕ) (answer : Answer)
      → P cert_too_long → ((fault : CertFault) → P (cert_refused fault)) → ((written : List ℕ) → P (accepted_answer written)) → AfterCert Holds text rules table cert answer → P answer
  cert_has P rules table cert answer at_long at_refused at_accepted =
      after_has longest_cert (Judges rules table) cert_too_long cert_refused P cert (Accepts rules table) answer at_long at_refused
      (λ accepted p. subst P (sym p.1) (at_accepted (text rules table accepted)))

  checked_table_has : (P : Answer → Type 0) (rules : Rules) (table : TableView) (cert : List ℕ) (answer : Answer)
      → P too_many_bounds → P cert_too_long → ((fault : CertFault) → P (cert_refused fault)) → ((written : List ℕ) → P (accepted_answer written)) → After rules table cert answer → P answer
  checked_table_has P rules table cert answer at_many at_long at_refused at_accepted =
      bounds_have rules table P (AfterCert Holds text rules table cert) answer at_many (cert_has P rules table cert answer at_long at_refused at_accepted)

  pub checked_has : (P : Answer → Type 0) (bytes : Inputs (List ℕ)) (answer : Answer)
      → P rules_too_long → ((fault : RuleFault) → P (rules_refused fault)) → P readings_too_long → ((fault : TableFault) → P (readings_refused fault))
      → P too_many_bounds → P cert_too_long → ((fault : CertFault) → P (cert_refused fault)) → ((written : List ℕ) → P (accepted_answer written)) → AnswersChecked Holds text bytes answer → P answer
  checked_has P bytes answer at_long at_refused table_long table_refused at_many cert_long at_cert at_accepted =
      both_have P After bytes answer at_long at_refused table_long table_refused
      (λ rules table. checked_table_has P rules table bytes.cert answer at_many cert_long at_cert at_accepted)

  pub checked_wholly : (rules : Rules) (table : TableView) (cert : List ℕ) (answer : Answer) → After rules table cert answer → (answer.read.rules ≡ Whole) × (answer.read.readings ≡ Whole)
  checked_wholly rules table cert answer =
      checked_table_has (λ a. (a.read.rules ≡ Whole) × (a.read.readings ≡ Whole)) rules table cert answer (refl, refl) (refl, refl) (λ fault. (refl, refl)) (λ written. (refl, refl))

  -- over accepted files with few bounds the answer comes of the certificate
  pub checked_cert : RulesAreOne → ReadingsAreOne → (bytes : Inputs (List ℕ)) (rules : Rules) (table : TableView) (answer : Answer)
      → length bytes.rules ≤ longest_rules → ReadsFile bytes.rules (Ok rules) → length bytes.readings ≤ longest_readings → ReadsTable rules bytes.readings (Ok table) → HasFewBounds rules table
      → AnswersChecked Holds text bytes answer → AfterCert Holds text rules table bytes.cert answer
  checked_cert rules_one readings_one bytes rules table answer short reads short_readings reads_table few p =
      bounds_few rules table (AfterCert Holds text rules table bytes.cert) answer few
      (both_accepted After rules_one readings_one bytes rules table answer short reads short_readings reads_table p)

  pub needs_cert : RulesAreOne → ReadingsAreOne → (came came_readings : List ℕ) (rules : Rules) (table : TableView)
      → length came ≤ longest_rules → ReadsFile came (Ok rules) → length came_readings ≤ longest_readings → ReadsTable rules came_readings (Ok table) → HasFewBounds rules table
      → (bytes : Inputs (List ℕ)) (answer : Answer) → bytes.rules ≡ came → bytes.readings ≡ came_readings → AnswersChecked Holds text bytes answer → answer.read.cert ≢ Unread
  needs_cert rules_one readings_one came came_readings rules table short reads short_readings reads_table few bytes answer same same_readings p =
      cert_has (λ a. a.read.cert ≢ Unread) rules table bytes.cert answer begun_not_unread (λ fault. whole_not_unread) (λ written. whole_not_unread)
      (checked_cert rules_one readings_one bytes rules table answer (subst (λ (b : List ℕ). length b ≤ longest_rules) (sym same) short) (subst (λ (b : List ℕ). ReadsFile b (Ok rules)) (sym same) reads)
      (subst (λ (b : List ℕ). length b ≤ longest_readings) (sym same_readings) short_readings) (subst (λ (b : List ℕ). ReadsTable rules b (Ok table)) (sym same_readings) reads_table) few p)

  -- an answer rests on what was read
  cert_rests : (rules : Rules) (table : TableView) (came bytes : List ℕ) (answer : Answer) → AreFront answer.read.cert came bytes
      → AfterCert Holds text rules table came answer → AfterCert Holds text rules table bytes answer
  cert_rests rules table came bytes answer front =
      after_rests longest_cert (Judges rules table) cert_too_long cert_refused (λ a. a.read.cert) (longest_cert + 1) came bytes (Accepts rules table) (Accepts rules table) answer refl (λ fault. refl)
      (λ accepted p. ap (λ (a : Answer). a.read.cert) p.1) (λ accepted p. p) front

  pub checked_rests : (came bytes : Inputs (List ℕ)) (answer : Answer) → AreFronts answer.read came bytes → AnswersChecked Holds text came answer → AnswersChecked Holds text bytes answer
  checked_rests came bytes answer fronts =
      both_rest After checked_wholly After came bytes answer fronts
      (λ rules table. bounds_follow rules table (AfterCert Holds text rules table came.cert) (AfterCert Holds text rules table bytes.cert) answer (cert_rests rules table came.cert bytes.cert answer fronts.2))

  -- a part of all answers is one only
  pub checked_one : {B : Type 0} (part : Answer → B) → RulesAreOne → ReadingsAreOne → CertsAreOne → (bytes : Inputs (List ℕ)) (one other : Answer)
      → AnswersChecked Holds text bytes one → AnswersChecked Holds text bytes other → part one ≡ part other
  checked_one part rules_one readings_one certs_one bytes =
      both_one part After rules_one readings_one bytes
      (λ rules table. bounds_one rules table part (AfterCert Holds text rules table bytes.cert)
      (after_one longest_cert (Judges rules table) cert_too_long cert_refused part (certs_one rules table) bytes.cert (Accepts rules table) (λ accepted one other p q. ap part (p.1 ∙ sym q.1))))

-- what is asked of an accepted claim beside may be left out
pub checked_any : (Holds : Rules → TableView → Accepted → Type 0) (text : Rules → TableView → Accepted → List ℕ) (bytes : Inputs (List ℕ)) (answer : Answer)
    → AnswersChecked Holds text bytes answer → AnswersChecked (λ rules table accepted. Unit {0}) text bytes answer
checked_any Holds text bytes answer =
    both_follow (After Holds text) (After (λ rules table accepted. Unit {0}) text) bytes answer
    (λ rules table. bounds_follow rules table (AfterCert Holds text rules table bytes.cert) (AfterCert (λ rules table accepted. Unit {0}) text rules table bytes.cert) answer
    (after_follows longest_cert (Judges rules table) cert_too_long cert_refused bytes.cert (Accepts Holds text rules table) (Accepts (λ rules table accepted. Unit {0}) text rules table) answer
    (λ accepted p. (tt, p.1))))

pub any_answer : (Counts : Problem → Found → Type 0) (Holds : Rules → TableView → Accepted → Type 0) (command : Option Command) (bytes : Inputs (List ℕ)) (answer : Answer)
    → AnswersBy Counts Holds command bytes answer → Answers command bytes answer
any_answer Counts Holds (Some Global) bytes answer p = global_any Counts bytes answer p
any_answer Counts Holds (Some Check) bytes answer p = checked_any Holds (λ rules table. check_text) bytes answer p
any_answer Counts Holds (Some Online) bytes answer p = p
any_answer Counts Holds (Some Report) bytes answer p = checked_any Holds report_text bytes answer p
any_answer Counts Holds (Some (Sample rows seed)) bytes answer p = sample_any Counts rows seed answer p
any_answer Counts Holds None bytes answer p = p

-- ---- one outcome, and one text

abbrev Any : Problem → Found → Type 0
Any problem outcome = Unit {0}

found_outcome : (rules : Rules) (table : TableView) (one other : Found) → AnswersProblem (whole_problem rules table) one → AnswersProblem (whole_problem rules table) other
    → (answer_of rules table one).outcome ≡ (answer_of rules table other).outcome
found_outcome rules table (found.Repaired series flow total paid changes) (found.Repaired x f t p c) a b = refl
found_outcome rules table (found.Repaired series flow total paid changes) (found.NoSeries cycle) a b = absurd (b.none series a.repair.obeying)
found_outcome rules table (found.NoSeries cycle) (found.Repaired series flow total paid changes) a b = absurd (a.none series b.repair.obeying)
found_outcome rules table (found.NoSeries cycle) (found.NoSeries other) a b = refl

found_text : RepairIsOne → (rules : Rules) (table : TableView) (one other : Found) → AnswersProblem (whole_problem rules table) one → AnswersProblem (whole_problem rules table) other
    → (answer_of rules table one).out ≡ (answer_of rules table other).out
found_text law rules table (found.Repaired series flow total paid changes) (found.Repaired x f t p c) a b =
    ap (λ (y : List ℤ). Some (table_text rules table y)) (law (whole_problem rules table) series x a.repair b.repair)
found_text law rules table (found.Repaired series flow total paid changes) (found.NoSeries cycle) a b = absurd (b.none series a.repair.obeying)
found_text law rules table (found.NoSeries cycle) (found.Repaired series flow total paid changes) a b = absurd (a.none series b.repair.obeying)
found_text law rules table (found.NoSeries cycle) (found.NoSeries other) a b = refl

-- a part of all answers is one only, where it is so for what was found
module _ {B : Type 0} (part : Answer → B)
    (same : (rules : Rules) (table : TableView) (one other : Found) → AnswersProblem (whole_problem rules table) one → AnswersProblem (whole_problem rules table) other
    → part (answer_of rules table one) ≡ part (answer_of rules table other))
    (same_summed : (rows : ℕ) (rules : Rules) (table : TableView) (one other : Found) → AnswersProblem (whole_problem rules table) one → AnswersProblem (whole_problem rules table) other
    → part (unread (summary_of rows table one)) ≡ part (unread (summary_of rows table other)))
    (same_streamed : (outcome : Outcome) (one other : Extent) (text : List ℕ) → part (streamed outcome one text) ≡ part (streamed outcome other text))
    (outputs_one : OutputsAreOne) (refusals_stay : RefusalsStay) where
  found_one : (rules : Rules) (table : TableView) (one other : Answer) → AnswersBoundsBy Any rules table one → AnswersBoundsBy Any rules table other → part one ≡ part other
  found_one rules table one other p q = ap part p.3 ∙ (same rules table p.0 q.0 p.1.whole q.1.whole ∙ sym (ap part q.3))

  global_one : RulesAreOne → ReadingsAreOne → (bytes : Inputs (List ℕ)) (one other : Answer) → AnswersGlobal bytes one → AnswersGlobal bytes other → part one ≡ part other
  global_one rules_one readings_one bytes =
      both_one part (λ rules table cert. AnswersTableBy Any rules table) rules_one readings_one bytes
      (λ rules table. bounds_one rules table part (AnswersBoundsBy Any rules table) (found_one rules table))

  pub part_one : RulesAreOne → ReadingsAreOne → CertsAreOne → (command : Option Command) (bytes : Inputs (List ℕ)) (one other : Answer)
      → Answers command bytes one → Answers command bytes other → part one ≡ part other
  part_one rules_one readings_one certs_one (Some Global) bytes one other p q = global_one rules_one readings_one bytes one other p q
  part_one rules_one readings_one certs_one (Some Check) bytes one other p q =
      checked_one (λ rules table accepted. Unit {0}) (λ rules table. check_text) part rules_one readings_one certs_one bytes one other p q
  part_one rules_one readings_one certs_one (Some Online) bytes one other p q = online_one part same_streamed outputs_one refusals_stay rules_one bytes one other p q
  part_one rules_one readings_one certs_one (Some Report) bytes one other p q =
      checked_one (λ rules table accepted. Unit {0}) report_text part rules_one readings_one certs_one bytes one other p q
  part_one rules_one readings_one certs_one (Some (Sample rows seed)) bytes one other p q = sample_one part same_summed rules_one readings_one rows seed one other p q
  part_one rules_one readings_one certs_one None bytes one other p q = ap part (p ∙ sym q)

pub outcomes_one : RulesAreOne → ReadingsAreOne → CertsAreOne → OutputsAreOne → RefusalsStay → OneOutcome
outcomes_one rules_one readings_one certs_one outputs_one refusals_stay =
    part_one (λ (a : Answer). a.outcome) found_outcome summed_outcome (λ outcome one other text. refl) outputs_one refusals_stay rules_one readings_one certs_one

pub texts_one : RulesAreOne → ReadingsAreOne → CertsAreOne → OutputsAreOne → RefusalsStay → RepairIsOne → OneText
texts_one rules_one readings_one certs_one outputs_one refusals_stay repair_one =
    part_one (λ (a : Answer). a.out) (found_text repair_one) (summed_out repair_one) (λ outcome one other text. refl) outputs_one refusals_stay rules_one readings_one certs_one

pub rests : RestsOnRead
rests (Some Global) came bytes answer p fronts = global_rests Any came bytes answer fronts p
rests (Some Check) came bytes answer p fronts = checked_rests (λ rules table accepted. Unit {0}) (λ rules table. check_text) came bytes answer fronts p
rests (Some Online) came bytes answer p fronts = online_rests came bytes answer fronts p
rests (Some Report) came bytes answer p fronts = checked_rests (λ rules table accepted. Unit {0}) report_text came bytes answer fronts p
rests (Some (Sample rows seed)) came bytes answer p fronts = p
rests None came bytes answer p fronts = p
