-- The headline of `online`, from what was performed.
use Rattle.std.proofs.Common.{◌≡◌, ◌⊎◌, inl, inr, ℕ, ◌≤◌, List, [], length, true, Option, Some, None, refl, sym, ap, subst, ◌∙◌}
use Rattle.online_repair.specs.Laws.{OutputsAreOne, RefusalsStay, RepairsCostLeast, RepairsKeepRates}
use Rattle.online_repair.specs.NotOnline.{not_online}
use Rattle.online_repair.specs.Output.{IsOutput, Output}
use Rattle.online_repair.specs.declared.fault.OnlineFault.{OnlineFault}
use Rattle.online_repair.specs.declared.fault.OnlineFault.TheVariants as fault
use Rattle.rule_file.specs.File.{ReadsFile}
use Rattle.rule_file.specs.declared.read.TheConstants.{LONGEST as longest_rules}
use Rattle.rule_file.specs.declared.rules.Rules.{Rules}
use Rattle.screen_io.specs.Faults.{Rose}
use Rattle.screen_io.specs.Sink.{Gains}
use Rattle.screen_online.proofs.Answered.{stays}
use Rattle.screen_online.specs.Online.{AfterStart, AnswersOnline, PerformsOnline, ending_for}
use Rattle.screen_online.specs.declared.stream.TheConstants.{MOST_BYTES}
use Rattle.screen_steps.proofs.AfterFile.{after_accepted, more_and_not}
use Rattle.screen_steps.specs.Answer.{Answer}
use Rattle.screen_steps.specs.Files.{RulesAreOne, rules_refused, rules_too_long}
use Rattle.screen_steps.specs.Performance.{AreTold, IsAnswered}
use Rattle.screen_words.specs.Command.{roles_of}
use Rattle.screen_words.specs.Ending.{IsUnless, outcome_status, status_of}
use Rattle.screen_words.specs.Faults.{online_ending}
use Rattle.screen_words.specs.declared.command.Command.TheVariants.{Online}
use Rattle.screen_words.specs.declared.ends.Inputs.{Inputs}
use Rattle.screen_words.specs.declared.ends.Outputs.{Outputs}
use Rattle.screen_words.specs.declared.status.Ending.{Ending}
use Rattle.screen_words.specs.declared.status.Ending.TheVariants as ending
use Rattle.screen_words.specs.declared.status.Outcome.{Outcome}
use Rattle.screen_words.specs.declared.status.Status.{Status}
use Rattle.screen_words.specs.declared.status.Status.TheVariants as status
use Rattle.screen_tool.specs.Answers.{RestsOnRead}
use Rattle.screen_tool.specs.Headline.{CountsReadFault}
use Rattle.screen_tool.specs.HeadlineOnline.{HeadlineOnline}
use Rattle.screen_tool.proofs.Decided.{gained, rules_short}
use Rattle.screen_tool.proofs.Due.{answered_told}
use Rattle.screen_tool.proofs.OnlineFaults.{OfReadings, of_readings}

-- ---- what is due over accepted rules

-- the ending for the output comes to the answer's outcome, and its text is the answer's
abbrev IsOf : Output → Answer → Type 0
IsOf out answer = (ending_for out.fault ≡ ending.Ended answer.outcome) × (answer.out ≡ Some out.text)

start_is_of : OutputsAreOne → RefusalsStay → (rules : Rules) (readings : List ℕ) (out : Output) (answer : Answer) → length readings ≤ MOST_BYTES → IsOutput rules true readings out
    → AfterStart rules readings None answer → IsOf out answer
start_is_of outputs law rules readings out answer few is (inl p) =
    let same : p.out ≡ out = outputs rules true readings p.out out p.is_output is in (
      ap (λ (o : Output). ending_for o.fault) (sym same) ∙ (p.ending ∙ ap (λ (a : Answer). ending.Ended a.outcome) (sym p.answer_is)),
      ap (λ (a : Answer). a.out) p.answer_is ∙ ap (λ (o : Output). Some o.text) same,
    )
start_is_of outputs law rules readings out answer few is (inr (inl p)) =
    let q = stays law rules true p.came p.rest p.text p.fault out p.refused (subst (λ (b : List ℕ). IsOutput rules true b out) p.readings_are is) in (
      ap ending_for q.0 ∙ (p.ending ∙ ap (λ (a : Answer). ending.Ended a.outcome) (sym p.answer_is)),
      ap (λ (a : Answer). a.out) p.answer_is ∙ ap Some (sym q.1),
    )
start_is_of outputs law rules readings out answer few is (inr (inr p)) = absurd (more_and_not MOST_BYTES (length readings) p.beyond few)

due_whole : (out : Output) (answer : Answer) → IsOf out answer → out.fault ≡ None → outcome_status answer.outcome ≡ status.Done
due_whole out answer p none =
    let ended : ending_for out.fault ≡ ending_for None = ap ending_for none in
    ap status_of (sym p.0 ∙ ended)

due_fault : (fault : OnlineFault) (outcome : Outcome) → OfReadings fault → online_ending fault ≡ ending.Ended outcome → outcome_status outcome ≡ status.ReadingsRefused
due_fault (fault.NotOnline rule) outcome of p = absurd of
due_fault (fault.Table f) outcome of p = sym (ap status_of p)
due_fault (fault.WindowFull row) outcome of p = sym (ap status_of p)
due_fault (fault.NoWholeStep row col) outcome of p = sym (ap status_of p)
due_fault (fault.LeavesRange row col) outcome of p = sym (ap status_of p)
due_fault fault.Memory outcome of p = absurd (cc p)

due_refused : (rules : Rules) (readings : List ℕ) (out : Output) (answer : Answer) (found : OnlineFault) → IsOutput rules true readings out → IsOf out answer → out.fault ≡ Some found
    → outcome_status answer.outcome ≡ status.ReadingsRefused
due_refused rules readings out answer found is p refused =
    due_fault found answer.outcome (of_readings rules true readings out found is refused) (sym (ap ending_for refused) ∙ p.0)

-- ---- what was performed

module _ {S K : Type 0} (left : S → Option (List ℕ)) (source_faults : S → ℕ) (held : K → Option (List ℕ)) (sink_faults : K → ℕ) where
  unless : (ins now : Inputs S) (outs outs_now : Outputs K) (due : Status) (how : Ending) → PerformsOnline left source_faults held sink_faults ins now outs outs_now how
      → ((answer : Answer) → IsAnswered left source_faults AnswersOnline ins now answer → outcome_status answer.outcome ≡ due)
      → IsUnless (CountsReadFault source_faults ins now) (Rose (sink_faults outs.out) (sink_faults outs_now.out)) due (status_of how)
  unless ins now outs outs_now due (ending.Ended o) p decide = inl (sym (ap outcome_status p.1) ∙ decide p.0 p.2)
  unless ins now outs outs_now due ending.ReadFault (inl p) decide = inr (inl (refl, inl p.0.happens))
  unless ins now outs outs_now due ending.ReadFault (inr p) decide = inr (inl (refl, inr p.3))
  unless ins now outs outs_now due ending.WriteFault p decide = inr (inr (inl (refl, p.failed)))
  unless ins now outs outs_now due ending.Memory p decide = inr (inr (inr refl))

  writes : (ins now : Inputs S) (outs outs_now : Outputs K) (text : List ℕ) (how : Ending) → PerformsOnline left source_faults held sink_faults ins now outs outs_now how
      → ((answer : Answer) → IsAnswered left source_faults AnswersOnline ins now answer → answer.out ≡ Some text)
      → (status_of how ≡ status.Done) ⊎ (status_of how ≡ status.ReadingsRefused) → Gains (held outs.out) text (held outs_now.out)
  writes ins now outs outs_now text (ending.Ended o) p decide either = gained held sink_faults p.0.out text outs.out outs_now.out (decide p.0 p.2) p.3.1
  writes ins now outs outs_now text ending.ReadFault p decide (inl e) = absurd (cc e)
  writes ins now outs outs_now text ending.ReadFault p decide (inr e) = absurd (cc e)
  writes ins now outs outs_now text ending.WriteFault p decide (inl e) = absurd (cc e)
  writes ins now outs outs_now text ending.WriteFault p decide (inr e) = absurd (cc e)
  writes ins now outs outs_now text ending.Memory p decide (inl e) = absurd (cc e)
  writes ins now outs outs_now text ending.Memory p decide (inr e) = absurd (cc e)

  pub headline_online : RestsOnRead → RulesAreOne → OutputsAreOne → RefusalsStay → RepairsCostLeast → RepairsKeepRates → (ins now : Inputs S) (outs outs_now : Outputs K) (how : Ending)
      → PerformsOnline left source_faults held sink_faults ins now outs outs_now how → HeadlineOnline left source_faults held sink_faults ins now outs outs_now (status_of how)
  headline_online rest rules_one outputs law least rates ins now outs outs_now how p = λ rule_bytes readings rules out rules_told readings_told spells online few is.
      let bytes : Inputs (List ℕ) = record { rules = rule_bytes; readings = readings; cert = [] } in
      let told : AreTold left (roles_of (Some Online)) ins bytes = record { rules = λ _. rules_told; readings = λ _. readings_told; cert = λ used. absurd (used refl) } in
      let own : (answer : Answer) → IsAnswered left source_faults AnswersOnline ins now answer → IsOf out answer =
      λ answer q.
      let given : AnswersOnline bytes answer = answered_told left source_faults rest (Some Online) ins now bytes answer told q in
      let start : AfterStart rules readings (not_online rules) answer =
      after_accepted longest_rules ReadsFile rules_too_long rules_refused rules_one rule_bytes rules (λ r. AfterStart r readings (not_online r)) answer (rules_short rule_bytes rules spells) spells given in
      start_is_of outputs law rules readings out answer few is (subst (λ (found : Option ℕ). AfterStart rules readings found answer) online start)
      in
      record {
        whole = λ none. unless ins now outs outs_now status.Done how p (λ answer q. due_whole out answer (own answer q) none);
        refused = λ found refused. unless ins now outs outs_now status.ReadingsRefused how p (λ answer q. due_refused rules readings out answer found is (own answer q) refused);
        writes = λ either. writes ins now outs outs_now out.text how p (λ answer q. (own answer q).1) either;
        costs_least = least;
        keeps_rates = rates;
      }
