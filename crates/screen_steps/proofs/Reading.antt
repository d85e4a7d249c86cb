-- From the steps that read files to what a command performs.
use Rattle.std.proofs.Common.{◌≡◌, ◌≢◌, inl, inr, ℕ, ◌+◌, ◌≤◌, arith, List, [], length, Option, None, Result, Ok, Err, OnOk, OnErr, refl, sym, subst}
use Rattle.rule_file.specs.File.{ReadsFile}
use Rattle.rule_file.specs.declared.fault.RuleFault.{RuleFault}
use Rattle.screen_io.specs.Faults.{Rose, CountsFailure}
use Rattle.screen_io.specs.Sink.{Gains, GainsPrefix}
use Rattle.screen_io.specs.declared.source.Failed.{Failed}
use Rattle.rule_file.specs.declared.read.TheConstants.{LONGEST as longest_rules}
use Rattle.rule_file.specs.declared.rules.Rules.{Rules}
use Rattle.series_csv.specs.File.{TableView, ReadsTable}
use Rattle.series_csv.specs.declared.table.TheConstants.{LONGEST as longest_readings}
use Rattle.series_rows.specs.declared.fault.TableFault.{TableFault}
use Rattle.screen_words.specs.declared.ends.Inputs.{Inputs}
use Rattle.screen_words.specs.declared.ends.Outputs.{Outputs}
use Rattle.screen_words.specs.declared.status.Ending.{Ending}
use Rattle.screen_words.specs.declared.status.Ending.TheVariants as ending
use Rattle.screen_words.specs.declared.status.Outcome.TheVariants.{Done, Usage}
use Rattle.screen_words.specs.declared.step.StepFault.{StepFault}
use Rattle.screen_words.specs.declared.step.StepFault.TheVariants as fault
use Rattle.screen_steps.specs.Answer.{Whole, Answer}
use Rattle.screen_steps.specs.Files.{AfterBoth, RulesAreOne, rules_too_long, rules_refused, readings_too_long, readings_refused}
use Rattle.screen_steps.specs.Performance.{IsAnswerTo, IsRead, Stays, Stops, LeavesSinks, IsWritten, IsNoted, Performs}
use Rattle.screen_steps.specs.Step.{IsFound, IsStopped, IsStep, WasRead, Ends}
use Rattle.screen_words.specs.Faults.{rules_ending, readings_ending}
use Rattle.screen_steps.proofs.BothFiles.{needs_readings, needs_rules}

-- ---- a file that was read, and what was found in it

pub one_more : (n m : ℕ) → n ≤ m → n ≤ m + 1
one_more n m p = omega (arith, p)

module _ {S : Type 0} (left : S → Option (List ℕ)) (source_faults : S → ℕ) where
  pub step_found : {A F : Type 0} (longest : ℕ) (Reads : List ℕ → Result A F → Type 0) (source now : S) (came seen : List ℕ) (answer : Result A (StepFault F))
      → IsRead left source_faults Whole source now came → length came ≤ longest → seen ≡ came → IsFound Reads seen answer
      → IsStep left source_faults longest Reads source now answer
  step_found longest Reads source now came seen (Ok value) whole short same found = (came, whole, short, subst (λ (b : List ℕ). Reads b (Ok value)) same found)
  step_found longest Reads source now came seen (Err (fault.Refused f)) whole short same found = (came, whole, short, subst (λ (b : List ℕ). Reads b (Err f)) same found)
  step_found longest Reads source now came seen (Err fault.Memory) whole short same found = (came, one_more (length came) longest short, whole.0, whole.2)
  step_found longest Reads source now came seen (Err fault.TooLong) whole short same found = absurd found
  step_found longest Reads source now came seen (Err fault.Failed) whole short same found = absurd found

  pub step_unread : {A F : Type 0} (longest : ℕ) (Reads : List ℕ → Result A F → Type 0) (source now : S) (given : StepFault F)
      → WasRead left source_faults longest source now (Err given) → IsStep left source_faults longest Reads source now (Err given)
  step_unread longest Reads source now fault.TooLong p = p
  step_unread longest Reads source now fault.Failed p = p
  step_unread longest Reads source now fault.Memory p = p
  step_unread longest Reads source now (fault.Refused f) p = absurd p

  -- ---- how a command ends at a fault of its rules or its readings, where what follows comes of both

  module _ (Follows : Rules → TableView → List ℕ → Answer → Type 0)
      (wholly : (rules : Rules) (table : TableView) (cert : List ℕ) (answer : Answer) → Follows rules table cert answer → (answer.read.rules ≡ Whole) × (answer.read.readings ≡ Whole)) where
    at_rules : (Happens : ℕ → ℕ → Type 0) (ins : Inputs S) (rules : S) → IsStopped left source_faults longest_rules Happens ins.rules rules
        → Stops left source_faults Happens (AfterBoth Follows) ins (record ins { rules = rules })
    at_rules Happens ins rules p = inl (record { came = p.0; within = p.1; needed = needs_rules Follows wholly; taken = p.2; happens = p.3; readings = refl; cert = refl })

    pub rules_end : (ins : Inputs S) (rules : S) (given : StepFault RuleFault) → IsStep left source_faults longest_rules ReadsFile ins.rules rules (Err given)
        → Ends left source_faults (AfterBoth Follows) ins (record ins { rules = rules }) (rules_ending given)
    rules_end ins rules fault.TooLong p = (
      rules_too_long,
      refl,
      refl,
      refl,
      (record { rules = p.0; readings = []; cert = [] }, inl (p.2, refl), (p.1, refl, refl)),
    )
    rules_end ins rules (fault.Refused f) p = (
      rules_refused f,
      refl,
      refl,
      refl,
      (record { rules = p.0; readings = []; cert = [] }, inr (p.2, Err f, p.3, refl), (p.1, refl, refl)),
    )
    rules_end ins rules fault.Failed p = at_rules Rose ins rules p
    rules_end ins rules fault.Memory p = inr (at_rules Stays ins rules p)

    pub at_readings : (Happens : ℕ → ℕ → Type 0) → RulesAreOne → (ins : Inputs S) (rules readings : S) (found : Rules)
        → IsStep left source_faults longest_rules ReadsFile ins.rules rules (Ok found) → IsStopped left source_faults longest_readings Happens ins.readings readings
        → Stops left source_faults Happens (AfterBoth Follows) ins (record ins { rules = rules; readings = readings })
    at_readings Happens law ins rules readings found q p =
        inr (inl (record { rules_came = q.0; came = p.0; within = p.1; rules = q.1; needed = needs_readings Follows wholly law q.0 found q.2 q.3; taken = p.2; happens = p.3; cert = refl }))

    pub readings_end : RulesAreOne → (ins : Inputs S) (rules readings : S) (found : Rules) (given : StepFault TableFault)
        → IsStep left source_faults longest_rules ReadsFile ins.rules rules (Ok found)
        → IsStep left source_faults longest_readings (ReadsTable found) ins.readings readings (Err given)
        → Ends left source_faults (AfterBoth Follows) ins (record ins { rules = rules; readings = readings }) (readings_ending given)
    readings_end law ins rules readings found fault.TooLong q p = (
      readings_too_long,
      refl,
      refl,
      refl,
      (record { rules = q.0; readings = p.0; cert = [] }, inr (q.2, Ok found, q.3, inl (p.2, refl)), (q.1, p.1, refl)),
    )
    readings_end law ins rules readings found (fault.Refused f) q p = (
      readings_refused f,
      refl,
      refl,
      refl,
      (record { rules = q.0; readings = p.0; cert = [] }, inr (q.2, Ok found, q.3, inr (p.2, Err f, p.3, refl)), (q.1, p.1, refl)),
    )
    readings_end law ins rules readings found fault.Failed q p = at_readings Rose law ins rules readings found q p
    readings_end law ins rules readings found fault.Memory q p = inr (at_readings Stays law ins rules readings found q p)

    -- memory runs out once both files are accepted
    pub texts_end : RulesAreOne → (ins : Inputs S) (rules readings : S) (found : Rules) (table : TableView)
        → IsStep left source_faults longest_rules ReadsFile ins.rules rules (Ok found)
        → IsStep left source_faults longest_readings (ReadsTable found) ins.readings readings (Ok table)
        → Ends left source_faults (AfterBoth Follows) ins (record ins { rules = rules; readings = readings }) ending.Memory
    texts_end law ins rules readings found table q p = inr (at_readings Stays law ins rules readings found q (p.0, one_more (length p.0) longest_readings p.2, p.1.0, p.1.2))

  -- ---- a read that failed was counted

  pub rules_counted : (ins : Inputs S) (rules : S) (given : StepFault RuleFault) → IsStep left source_faults longest_rules ReadsFile ins.rules rules (Err given)
      → rules_ending given ≡ ending.ReadFault → Rose (source_faults ins.rules) (source_faults rules)
  rules_counted ins rules fault.TooLong p e = absurd (cc e)
  rules_counted ins rules (fault.Refused f) p e = absurd (cc e)
  rules_counted ins rules fault.Failed p e = p.3
  rules_counted ins rules fault.Memory p e = absurd (cc e)

  pub readings_counted : (ins : Inputs S) (readings : S) (found : Rules) (given : StepFault TableFault)
      → IsStep left source_faults longest_readings (ReadsTable found) ins.readings readings (Err given)
      → readings_ending given ≡ ending.ReadFault → Rose (source_faults ins.readings) (source_faults readings)
  readings_counted ins readings found fault.TooLong p e = absurd (cc e)
  readings_counted ins readings found (fault.Refused f) p e = absurd (cc e)
  readings_counted ins readings found fault.Failed p e = p.3
  readings_counted ins readings found fault.Memory p e = absurd (cc e)

-- ---- what is written

module _ {S K : Type 0} (left : S → Option (List ℕ)) (source_faults : S → ℕ) (held : K → Option (List ℕ)) (sink_faults : K → ℕ) where
  nothing_written : (text : Option (List ℕ)) (sink now : K) → text ≡ None → now ≡ sink → IsWritten held sink_faults text sink now
  nothing_written text sink now p same = subst (λ (t : Option (List ℕ)). IsWritten held sink_faults t sink now) (sym p) same

  -- the note is no part of it
  pub performs_noted : (Answers : IsAnswerTo) (ins ins_now : Inputs S) (outs outs_now : Outputs K) (note : K) (how : Ending)
      → Performs left source_faults held sink_faults Answers ins ins_now outs outs_now how
      → Performs left source_faults held sink_faults Answers ins ins_now outs (record outs_now { note = note }) how
  performs_noted Answers ins ins_now outs outs_now note (ending.Ended outcome) p = p
  performs_noted Answers ins ins_now outs outs_now note ending.ReadFault p = p
  performs_noted Answers ins ins_now outs outs_now note ending.WriteFault p = p
  performs_noted Answers ins ins_now outs outs_now note ending.Memory p = p

  pub ends_performs : (Answers : IsAnswerTo) (ins ins_now : Inputs S) (outs outs_now : Outputs K) (how : Ending)
      → LeavesSinks outs outs_now → Ends left source_faults Answers ins ins_now how
      → Performs left source_faults held sink_faults Answers ins ins_now outs outs_now how
  ends_performs Answers ins ins_now outs outs_now ending.ReadFault same p = (p, same)
  ends_performs Answers ins ins_now outs outs_now ending.Memory same p = (p, same)
  ends_performs Answers ins ins_now outs outs_now ending.WriteFault same p = absurd p
  ends_performs Answers ins ins_now outs outs_now (ending.Ended outcome) same p =
      (p.0, p.1, p.4, (nothing_written p.0.cert outs.cert outs_now.cert p.2 same.0, nothing_written p.0.out outs.out outs_now.out p.3 same.1))

module _ {K : Type 0} (held : K → Option (List ℕ)) (sink_faults : K → ℕ) where
  pub noted : (note seen : List ℕ) (sink now : K) (result : Result (Unit {0}) Failed) → seen ≡ note
      → OnOk result (Gains (held sink) seen (held now)) → OnErr result (GainsPrefix (held sink) seen (held now))
      → CountsFailure (sink_faults sink) (sink_faults now) result → OnOk result (sink_faults now ≡ sink_faults sink) → IsNoted held sink_faults note sink now
  noted note seen sink now (Ok x) same whole part cause unfailed = inl (subst (λ (t : List ℕ). Gains (held sink) t (held now)) same whole, unfailed)
  noted note seen sink now (Err e) same whole part cause unfailed = inr (subst (λ (t : List ℕ). GainsPrefix (held sink) t (held now)) same part, cause.failed)

-- ---- words that are no command are answered before, and no refusal is a success

pub err_one : {A E : Type 0} {one other : E} → ◌≡◌ {A = Result A E} (Err one) (Err other) → one ≡ other
err_one e = cc

pub rules_no_usage : (given : StepFault RuleFault) → rules_ending given ≢ ending.Ended Usage
rules_no_usage fault.TooLong e = cc
rules_no_usage (fault.Refused f) e = cc
rules_no_usage fault.Failed e = cc
rules_no_usage fault.Memory e = cc

pub rules_no_done : (given : StepFault RuleFault) → rules_ending given ≢ ending.Ended Done
rules_no_done fault.TooLong e = cc
rules_no_done (fault.Refused f) e = cc
rules_no_done fault.Failed e = cc
rules_no_done fault.Memory e = cc

pub readings_no_usage : (given : StepFault TableFault) → readings_ending given ≢ ending.Ended Usage
readings_no_usage fault.TooLong e = cc
readings_no_usage (fault.Refused f) e = cc
readings_no_usage fault.Failed e = cc
readings_no_usage fault.Memory e = cc

pub readings_no_done : (given : StepFault TableFault) → readings_ending given ≢ ending.Ended Done
readings_no_done fault.TooLong e = cc
readings_no_done (fault.Refused f) e = cc
readings_no_done fault.Failed e = cc
readings_no_done fault.Memory e = cc
