-- The laws of what `sample` answers.
use Rattle.std.proofs.Common.{◌≡◌, inl, inr, ℕ, ℤ, pos, List, Some, None, Result, Ok, Err, refl, sym, ap, subst, ◌∙◌}
use Rattle.bound_maker.specs.Costs.{whole_problem}
use Rattle.least_cost.specs.Answer.{Answers as AnswersProblem}
use Rattle.least_cost.specs.Repair.{RepairIsOne}
use Rattle.least_cost.specs.declared.outcome.Outcome.{Outcome as Found}
use Rattle.least_cost.specs.declared.outcome.Outcome.TheVariants as found
use Rattle.rule_file.specs.declared.fault.RuleFault.{RuleFault}
use Rattle.rule_file.specs.declared.rules.Rules.{Rules}
use Rattle.sample_maker.specs.Texts.{readings_text, rules_text}
use Rattle.screen_model.specs.Cost.{Problem, cost}
use Rattle.series_csv.specs.File.{TableView}
use Rattle.series_csv.specs.Readings.{values}
use Rattle.series_rows.specs.declared.fault.TableFault.{TableFault}
use Rattle.screen_words.specs.declared.status.Outcome.TheVariants as outcome
use Rattle.screen_steps.specs.Answer.{Answer}
use Rattle.screen_steps.specs.Files.{RulesAreOne, ReadingsAreOne}
use Rattle.screen_tool.specs.Sample.{AfterSampleReadings, AfterSampleRules, AnswersSampleBy, SumsUp, changed, summary_of, summary_text, unread}
use Rattle.screen_steps.proofs.BothFiles.{bounds_follow, bounds_one}

abbrev Any : Problem → Found → Type 0
Any problem outcome = Unit {0}

-- what `sample` answers, with nothing asked beside
abbrev pub AnswersSample : ℕ → ℕ → Answer → Type 0
AnswersSample = AnswersSampleBy Any

-- ---- what is counted may be left out

module _ (Counts : Problem → Found → Type 0) where
  readings_any : (rows : ℕ) (rules : Rules) (table : Result TableView TableFault) (answer : Answer) → AfterSampleReadings Counts rows rules table answer → AfterSampleReadings Any rows rules table answer
  readings_any rows rules (Ok table) answer p = bounds_follow rules table (SumsUp Counts rows rules table) (SumsUp Any rows rules table) answer (λ q. (q.0, q.1, tt, q.3)) p
  readings_any rows rules (Err fault) answer p = p

  rules_any : (rows seed : ℕ) (rules : Result Rules RuleFault) (answer : Answer) → AfterSampleRules Counts rows seed rules answer → AfterSampleRules Any rows seed rules answer
  rules_any rows seed (Ok rules) answer p = (p.0, p.1, readings_any rows rules p.0 answer p.2)
  rules_any rows seed (Err fault) answer p = p

  pub sample_any : (rows seed : ℕ) (answer : Answer) → AnswersSampleBy Counts rows seed answer → AnswersSample rows seed answer
  sample_any rows seed answer p = (p.0, (p.1.0, p.1.1, rules_any rows seed p.1.0 p.0 p.1.2), p.2)

  -- ---- no certificate is written

  summed_cert : (rows : ℕ) (table : TableView) (outcome_found : Found) → (summary_of rows table outcome_found).cert ≡ None
  summed_cert rows table (found.Repaired series flow total paid changes) = refl
  summed_cert rows table (found.NoSeries cycle) = refl

  readings_cert : (rows : ℕ) (rules : Rules) (table : Result TableView TableFault) (answer : Answer) → AfterSampleReadings Counts rows rules table answer → answer.cert ≡ None
  readings_cert rows rules (Ok table) answer (inl p) = ap (λ (a : Answer). a.cert) p.1
  readings_cert rows rules (Ok table) answer (inr p) = ap (λ (a : Answer). a.cert) p.1.3 ∙ summed_cert rows table p.1.0
  readings_cert rows rules (Err fault) answer p = ap (λ (a : Answer). a.cert) p

  rules_cert : (rows seed : ℕ) (rules : Result Rules RuleFault) (answer : Answer) → AfterSampleRules Counts rows seed rules answer → answer.cert ≡ None
  rules_cert rows seed (Ok rules) answer p = readings_cert rows rules p.0 answer p.2
  rules_cert rows seed (Err fault) answer p = ap (λ (a : Answer). a.cert) p

  pub sample_cert : (rows seed : ℕ) (answer : Answer) → AnswersSampleBy Counts rows seed answer → answer.cert ≡ None
  sample_cert rows seed answer p = ap (λ (a : Answer). a.cert) p.2 ∙ rules_cert rows seed p.1.0 p.0 p.1.2

-- ---- a part of all answers is one only, where it is so for what was found

module _ {B : Type 0} (part : Answer → B)
    (same : (rows : ℕ) (rules : Rules) (table : TableView) (one other : Found) → AnswersProblem (whole_problem rules table) one → AnswersProblem (whole_problem rules table) other
    → part (unread (summary_of rows table one)) ≡ part (unread (summary_of rows table other))) where
  abbrev own : Answer → B
  own answer = part (unread answer)

  sums_one : (rows : ℕ) (rules : Rules) (table : TableView) (one other : Answer) → SumsUp Any rows rules table one → SumsUp Any rows rules table other → own one ≡ own other
  sums_one rows rules table one other p q = ap own p.3 ∙ (same rows rules table p.0 q.0 p.1 q.1 ∙ sym (ap own q.3))

  readings_one : (rows : ℕ) (rules : Rules) (table : Result TableView TableFault) (one other : Answer)
      → AfterSampleReadings Any rows rules table one → AfterSampleReadings Any rows rules table other → own one ≡ own other
  readings_one rows rules (Ok table) one other p q = bounds_one rules table own (SumsUp Any rows rules table) (sums_one rows rules table) one other p q
  readings_one rows rules (Err fault) one other p q = ap own (p ∙ sym q)

  rules_one : ReadingsAreOne → (rows seed : ℕ) (rules : Result Rules RuleFault) (one other : Answer) → AfterSampleRules Any rows seed rules one → AfterSampleRules Any rows seed rules other → own one ≡ own other
  rules_one law rows seed (Ok rules) one other p q =
      let e : q.0 ≡ p.0 = law rules (readings_text rows seed) q.0 p.0 q.1 p.1 in
      readings_one rows rules p.0 one other p.2 (subst (λ (table : Result TableView TableFault). AfterSampleReadings Any rows rules table other) e q.2)
  rules_one law rows seed (Err fault) one other p q = ap own (p ∙ sym q)

  pub sample_one : RulesAreOne → ReadingsAreOne → (rows seed : ℕ) (one other : Answer) → AnswersSample rows seed one → AnswersSample rows seed other → part one ≡ part other
  sample_one law table_law rows seed one other p q =
      let e : q.1.0 ≡ p.1.0 = law rules_text q.1.0 p.1.0 q.1.1 p.1.1 in
      let same_given : own p.0 ≡ own q.0 = rules_one table_law rows seed p.1.0 p.0 q.0 p.1.2 (subst (λ (rules : Result Rules RuleFault). AfterSampleRules Any rows seed rules q.0) e q.1.2) in
      ap part p.2 ∙ (same_given ∙ sym (ap part q.2))

pub summed_outcome : (rows : ℕ) (rules : Rules) (table : TableView) (one other : Found) → AnswersProblem (whole_problem rules table) one → AnswersProblem (whole_problem rules table) other
    → (summary_of rows table one).outcome ≡ (summary_of rows table other).outcome
summed_outcome rows rules table (found.Repaired series flow total paid changes) (found.Repaired x f t p c) a b = refl
summed_outcome rows rules table (found.Repaired series flow total paid changes) (found.NoSeries cycle) a b = absurd (b.none series a.repair.obeying)
summed_outcome rows rules table (found.NoSeries cycle) (found.Repaired series flow total paid changes) a b = absurd (a.none series b.repair.obeying)
summed_outcome rows rules table (found.NoSeries cycle) (found.NoSeries other) a b = refl

pub summed_out : RepairIsOne → (rows : ℕ) (rules : Rules) (table : TableView) (one other : Found) → AnswersProblem (whole_problem rules table) one → AnswersProblem (whole_problem rules table) other
    → (summary_of rows table one).out ≡ (summary_of rows table other).out
summed_out law rows rules table (found.Repaired series flow total paid changes) (found.Repaired x f t p c) a b =
    let same : series ≡ x = law (whole_problem rules table) series x a.repair b.repair in
    let as_cost : total ≡ t = a.total ∙ (ap (λ (y : List ℤ). pos (cost (whole_problem rules table) y)) same ∙ sym b.total) in
    ap (λ (y : List ℤ). Some (summary_text rows (changed (values table) y) total)) same ∙ ap (λ (all : ℤ). Some (summary_text rows (changed (values table) x) all)) as_cost
summed_out law rows rules table (found.Repaired series flow total paid changes) (found.NoSeries cycle) a b = absurd (b.none series a.repair.obeying)
summed_out law rows rules table (found.NoSeries cycle) (found.Repaired series flow total paid changes) a b = absurd (a.none series b.repair.obeying)
summed_out law rows rules table (found.NoSeries cycle) (found.NoSeries other) a b = refl
