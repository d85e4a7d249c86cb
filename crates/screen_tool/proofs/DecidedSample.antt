-- What the status of `sample` tells, from what was performed.
use Rattle.std.proofs.Common.{◌≡◌, ◌≢◌, inl, inr, ℕ, List, Option, Result, Ok, refl, sym, ap, subst, ◌∙◌}
use Rattle.bound_maker.specs.Costs.{whole_problem}
use Rattle.least_cost.specs.Answer.{Answers as AnswersProblem}
use Rattle.least_cost.specs.declared.outcome.Outcome.{Outcome as Found}
use Rattle.least_cost.specs.declared.outcome.Outcome.TheVariants as found
use Rattle.rule_file.specs.declared.fault.RuleFault.{RuleFault}
use Rattle.rule_file.specs.declared.rules.Rules.{Rules}
use Rattle.sample_maker.specs.Texts.{readings_text, rules_text}
use Rattle.screen_io.specs.Faults.{Rose}
use Rattle.screen_model.specs.Cost.{Problem}
use Rattle.series_csv.specs.File.{TableView}
use Rattle.series_rows.specs.declared.fault.TableFault.{TableFault}
use Rattle.screen_steps.proofs.BothFiles.{bounds_few}
use Rattle.screen_steps.specs.Answer.{Answer}
use Rattle.screen_steps.specs.Files.{AfterBounds, ReadingsAreOne, RulesAreOne}
use Rattle.screen_steps.specs.Performance.{Performs}
use Rattle.screen_words.specs.Ending.{IsUnless, outcome_status, status_of}
use Rattle.screen_words.specs.declared.ends.Inputs.{Inputs}
use Rattle.screen_words.specs.declared.ends.Outputs.{Outputs}
use Rattle.screen_words.specs.declared.status.Ending.{Ending}
use Rattle.screen_words.specs.declared.status.Ending.TheVariants as ending
use Rattle.screen_words.specs.declared.status.Status.{Status}
use Rattle.screen_words.specs.declared.status.Status.TheVariants as status
use Rattle.screen_tool.specs.Headline.{SomeObeys}
use Rattle.screen_tool.specs.Sample.{AfterSampleReadings, AfterSampleRules, DecidesSample, IsSample, SumsUp, summary_of, unread}
use Rattle.screen_tool.proofs.Decided.{is_read_fault, out_counted}
use Rattle.screen_tool.proofs.SampleLaws.{AnswersSample, sample_cert}

abbrev Any : Problem → Found → Type 0
Any problem outcome = Unit {0}

module _ (rows seed : ℕ) (rules : Rules) (table : TableView) where
  -- the answer sums up what was found for the sample
  abbrev IsSum : Answer → Type 0
  IsSum answer = (outcome : Found) × AnswersProblem (whole_problem rules table) outcome × (answer ≡ unread (summary_of rows table outcome))

  sums : RulesAreOne → ReadingsAreOne → IsSample rows seed rules table → (answer : Answer) → AnswersSample rows seed answer → IsSum answer
  sums rules_one readings_one is answer p =
      let same : p.1.0 ≡ Ok rules = rules_one rules_text p.1.0 (Ok rules) p.1.1 is.rules_are in
      let after : AfterSampleRules Any rows seed (Ok rules) p.0 = subst (λ (r : Result Rules RuleFault). AfterSampleRules Any rows seed r p.0) same p.1.2 in
      let same_table : after.0 ≡ Ok table = readings_one rules (readings_text rows seed) after.0 (Ok table) after.1 is.table_is in
      let bounds : AfterBounds rules table (SumsUp Any rows rules table) p.0 = subst (λ (t : Result TableView TableFault). AfterSampleReadings Any rows rules t p.0) same_table after.2 in
      let sum = bounds_few rules table (SumsUp Any rows rules table) p.0 is.few bounds in
      (sum.0, sum.1, p.2 ∙ ap unread sum.3)

  due_some : SomeObeys rules table → (answer : Answer) (outcome : Found) → AnswersProblem (whole_problem rules table) outcome → answer ≡ unread (summary_of rows table outcome) → outcome_status answer.outcome ≡ status.Done
  due_some some answer (found.Repaired series flow total paid changes) is e = ap (λ (a : Answer). outcome_status a.outcome) e
  due_some some answer (found.NoSeries cycle) is e = absurd (is.none some.0 some.1)

  due_none : ¬ SomeObeys rules table → (answer : Answer) (outcome : Found) → AnswersProblem (whole_problem rules table) outcome → answer ≡ unread (summary_of rows table outcome) → outcome_status answer.outcome ≡ status.NoSeries
  due_none none answer (found.Repaired series flow total paid changes) is e = absurd (none (series, is.repair.obeying))
  due_none none answer (found.NoSeries cycle) is e = ap (λ (a : Answer). outcome_status a.outcome) e

module _ {S K : Type 0} (left : S → Option (List ℕ)) (source_faults : S → ℕ) (held : K → Option (List ℕ)) (sink_faults : K → ℕ) (rows seed : ℕ) where
  unless : (ins now : Inputs S) (outs outs_now : Outputs K) (due : Status) (how : Ending) → Performs left source_faults held sink_faults (λ bytes. AnswersSample rows seed) ins now outs outs_now how → how ≢ ending.ReadFault
      → ((answer : Answer) → AnswersSample rows seed answer → outcome_status answer.outcome ≡ due)
      → IsUnless ⊥ (Rose (sink_faults outs.out) (sink_faults outs_now.out)) due (status_of how)
  unless ins now outs outs_now due (ending.Ended o) p unread_fault decide = inl (sym (ap outcome_status p.1) ∙ decide p.0 p.2.1)
  unless ins now outs outs_now due ending.ReadFault p unread_fault decide = absurd (unread_fault refl)
  unless ins now outs outs_now due ending.WriteFault p unread_fault decide = inr (inr (inl (refl, out_counted held sink_faults p.0 outs outs_now (sample_cert Any rows seed p.0 p.1.1) p.2)))
  unless ins now outs outs_now due ending.Memory p unread_fault decide = inr (inr (inr refl))

  pub decides_sample : RulesAreOne → ReadingsAreOne → (ins now : Inputs S) (outs outs_now : Outputs K) (how : Ending) → Performs left source_faults held sink_faults (λ bytes. AnswersSample rows seed) ins now outs outs_now how
      → how ≢ ending.ReadFault → DecidesSample sink_faults rows seed outs outs_now (status_of how)
  decides_sample rules_one readings_one ins now outs outs_now how p none_read = record {
    some = λ rules table is some. unless ins now outs outs_now status.Done how p none_read
        (λ answer q. let sum = sums rows seed rules table rules_one readings_one is answer q in due_some rows seed rules table some answer sum.0 sum.1 sum.2);
    none = λ rules table is none. unless ins now outs outs_now status.NoSeries how p none_read
        (λ answer q. let sum = sums rows seed rules table rules_one readings_one is answer q in due_none rows seed rules table none answer sum.0 sum.1 sum.2);
    no_read_fails = λ failed. none_read (is_read_fault how failed);
  }
