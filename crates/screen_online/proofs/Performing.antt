-- From what reading the rules and repairing the readings leave to what the command performs.
use Rattle.std.proofs.Common.{◌≡◌, ◌≢◌, inl, inr, ℕ, ◌+◌, ◌≤◌, List, [], length, Option, Some, None, Result, Ok, Err, refl, sym, ap, subst, arith}
use Rattle.online_repair.specs.NotOnline.{not_online}
use Rattle.rule_file.specs.File.{ReadsFile}
use Rattle.rule_file.specs.declared.fault.RuleFault.{RuleFault}
use Rattle.rule_file.specs.declared.read.TheConstants.{LONGEST as longest_rules}
use Rattle.rule_file.specs.declared.rules.Rules.{Rules}
use Rattle.screen_io.specs.Faults.{Rose}
use Rattle.screen_online.specs.Online.{AfterStart, AnswersOnline, PerformsOnline, Streams}
use Rattle.screen_online.specs.Steps.{IsBegun, IsGiven, Repairs}
use Rattle.screen_steps.specs.Answer.{Extent, Whole, Unread, Answer}
use Rattle.screen_steps.specs.Files.{rules_too_long, rules_refused}
use Rattle.screen_steps.specs.Performance.{IsRead, IsWritten, Performs, Stays, StopsAtRules}
use Rattle.screen_steps.specs.Step.{IsStep, IsStopped}
use Rattle.screen_steps.proofs.AfterFile.{after_has}
use Rattle.screen_steps.proofs.BothFiles.{begun_not_unread, whole_is_read, whole_not_unread}
use Rattle.screen_words.specs.Faults.{rules_ending}
use Rattle.screen_words.specs.declared.ends.Inputs.{Inputs}
use Rattle.screen_words.specs.declared.ends.Outputs.{Outputs}
use Rattle.screen_words.specs.declared.status.Ending.{Ending}
use Rattle.screen_words.specs.declared.status.Ending.TheVariants.{Ended, ReadFault, WriteFault, Memory}
use Rattle.screen_words.specs.declared.status.Outcome.{Outcome}
use Rattle.screen_words.specs.declared.status.Outcome.TheVariants.{Done}
use Rattle.screen_words.specs.declared.step.StepFault.{StepFault}
use Rattle.screen_words.specs.declared.step.StepFault.TheVariants as fault

-- every answer after accepted rules reads them whole, reads no certificate and writes none
pub record IsOfStream (answer : Answer) : Type 0 where
  pub rules : answer.read.rules ≡ Whole
  pub cert : answer.read.cert ≡ Unread
  pub none : answer.cert ≡ None

pub of_stream : (rules : Rules) (readings : List ℕ) (start : Option ℕ) (answer : Answer) → AfterStart rules readings start answer → IsOfStream answer
of_stream rules readings (Some rule) answer p = record { rules = ap (λ (a : Answer). a.read.rules) p; cert = ap (λ (a : Answer). a.read.cert) p; none = ap (λ (a : Answer). a.cert) p }
of_stream rules readings None answer (inl p) =
    record { rules = ap (λ (a : Answer). a.read.rules) p.answer_is; cert = ap (λ (a : Answer). a.read.cert) p.answer_is; none = ap (λ (a : Answer). a.cert) p.answer_is }
of_stream rules readings None answer (inr (inl p)) =
    record { rules = ap (λ (a : Answer). a.read.rules) p.answer_is; cert = ap (λ (a : Answer). a.read.cert) p.answer_is; none = ap (λ (a : Answer). a.cert) p.answer_is }
of_stream rules readings None answer (inr (inr p)) =
    record { rules = ap (λ (a : Answer). a.read.rules) p.answer_is; cert = ap (λ (a : Answer). a.read.cert) p.answer_is; none = ap (λ (a : Answer). a.cert) p.answer_is }

-- no answer leaves the rules unread
needs_rules : (bytes : Inputs (List ℕ)) (answer : Answer) → AnswersOnline bytes answer → answer.read.rules ≢ Unread
needs_rules bytes answer =
    after_has longest_rules ReadsFile rules_too_long rules_refused (λ a. a.read.rules ≢ Unread) bytes.rules (λ rules. AfterStart rules bytes.readings (not_online rules)) answer
    begun_not_unread (λ fault. whole_not_unread) (λ rules p. whole_is_read answer.read.rules (of_stream rules bytes.readings (not_online rules) answer p).rules)

-- how the command ends by what repairing the readings answered
abbrev pub ending_of : Result (Unit {0}) Ending → Ending
ending_of (Ok done) = Ended Done
ending_of (Err ending) = ending

one_more : (n m : ℕ) → n ≤ m → n ≤ m + 1
one_more n m p = omega (arith, p)

module _ {S K : Type 0} (left : S → Option (List ℕ)) (source_faults : S → ℕ) (held : K → Option (List ℕ)) (sink_faults : K → ℕ) where
  -- ---- the rules are not accepted

  at_rules : (Happens : ℕ → ℕ → Type 0) (ins : Inputs S) (rules : S) → IsStopped left source_faults longest_rules Happens ins.rules rules
      → StopsAtRules left source_faults Happens AnswersOnline ins (record ins { rules = rules })
  at_rules Happens ins rules p = record { came = p.0; within = p.1; needed = needs_rules; taken = p.2; happens = p.3; readings = refl; cert = refl }

  rules_end : (ins : Inputs S) (rules : S) (outs : Outputs K) (given : StepFault RuleFault)
      → IsStep left source_faults longest_rules ReadsFile ins.rules rules (Err given)
      → PerformsOnline left source_faults held sink_faults ins (record ins { rules = rules }) outs outs (rules_ending given)
  rules_end ins rules outs fault.TooLong p = (
    rules_too_long,
    refl,
    (record { rules = p.0; readings = []; cert = [] }, inl (p.2, refl), (p.1, refl, refl)),
    (refl, refl),
  )
  rules_end ins rules outs (fault.Refused f) p = (
    rules_refused f,
    refl,
    (record { rules = p.0; readings = []; cert = [] }, inr (p.2, Err f, p.3, refl), (p.1, refl, refl)),
    (refl, refl),
  )
  rules_end ins rules outs fault.Failed p = inl (at_rules Rose ins rules p, (refl, refl))
  rules_end ins rules outs fault.Memory p = inl (inr (at_rules Stays ins rules p), (refl, refl))

  pub rules_end_so : (ins : Inputs S) (rules : S) (outs : Outputs K) (given : StepFault RuleFault) (ending : Ending) → ending ≡ rules_ending given
      → IsStep left source_faults longest_rules ReadsFile ins.rules rules (Err given)
      → PerformsOnline left source_faults held sink_faults ins (record ins { rules = rules }) outs outs ending
  rules_end_so ins rules outs given ending e p =
      let P : Ending → Type 0 = λ how. PerformsOnline left source_faults held sink_faults ins (record ins { rules = rules }) outs outs how in
      subst P (sym e) (rules_end ins rules outs given p)

  -- ---- they are accepted, and the readings are repaired

  given : (ins : Inputs S) (rules readings : S) (outs : Outputs K) (out : K) (found : Rules) (outcome : Outcome)
      → IsStep left source_faults longest_rules ReadsFile ins.rules rules (Ok found)
      → IsGiven left source_faults held sink_faults found ins.readings readings outs.out out outcome
      → Performs left source_faults held sink_faults AnswersOnline ins (record ins { rules = rules; readings = readings }) outs (record outs { out = out }) (Ended outcome)
  given ins rules readings outs out found outcome q g =
      let is = of_stream found g.came (not_online found) g.answer g.answers in
      let R : Extent → Type 0 = λ e. IsRead left source_faults e ins.rules rules q.0 in
      let C : Extent → Type 0 = λ e. IsRead left source_faults e ins.cert ins.cert [] in
      let W : Option (List ℕ) → Type 0 = λ t. IsWritten held sink_faults t outs.cert outs.cert in (
        g.answer,
        g.outcome_is,
        (
          record { rules = q.0; readings = g.came; cert = [] },
          inr (q.2, Ok found, q.3, g.answers),
          (subst R (sym is.rules) q.1, g.read, subst C (sym is.cert) refl),
        ),
        (subst W (sym is.none) refl, g.written),
      )

  streams : (ins : Inputs S) (rules readings : S) (outs : Outputs K) (out : K) (found : Rules) (came : List ℕ)
      → IsStep left source_faults longest_rules ReadsFile ins.rules rules (Ok found)
      → IsBegun left source_faults held sink_faults found came ins.readings readings
      → Streams left source_faults held sink_faults ins (record ins { rules = rules; readings = readings }) outs (record outs { out = out }) found came
  streams ins rules readings outs out found came q begun = record {
    rules_came = q.0;
    rules_read = q.1;
    rules_within = q.2;
    rules_are = q.3;
    online = begun.online;
    taken = begun.taken;
    within = begun.within;
    cert_read = refl;
    cert_written = refl;
  }

  -- memory ran out before a repair was begun
  unbegun : (ins : Inputs S) (rules readings : S) (found : Rules)
      → IsStep left source_faults longest_rules ReadsFile ins.rules rules (Ok found) → readings ≡ ins.readings
      → StopsAtRules left source_faults Stays AnswersOnline ins (record ins { rules = rules; readings = readings })
  unbegun ins rules readings found q same =
      record { came = q.0; within = one_more (length q.0) longest_rules q.2; needed = needs_rules; taken = q.1.0; happens = q.1.2; readings = same; cert = refl }

  pub repairs_perform : (ins : Inputs S) (rules readings : S) (outs : Outputs K) (out : K) (found : Rules) (result : Result (Unit {0}) Ending)
      → IsStep left source_faults longest_rules ReadsFile ins.rules rules (Ok found)
      → Repairs left source_faults held sink_faults found ins.readings readings outs.out out result
      → PerformsOnline left source_faults held sink_faults ins (record ins { rules = rules; readings = readings }) outs (record outs { out = out }) (ending_of result)
  repairs_perform ins rules readings outs out found (Ok done) q g = given ins rules readings outs out found Done q g
  repairs_perform ins rules readings outs out found (Err (Ended outcome)) q g = given ins rules readings outs out found outcome q g
  repairs_perform ins rules readings outs out found (Err ReadFault) q g =
      inr (found, g.0, streams ins rules readings outs out found g.0 q g.1, g.2, (g.3.out, g.3.is_output, g.3.no_fault, g.3.written))
  repairs_perform ins rules readings outs out found (Err WriteFault) q g = record {
    rules = found;
    came = g.came;
    streams = streams ins rules readings outs out found g.came q g.begun;
    unfailed = g.unfailed;
    ended = g.ended;
    at_end = g.at_end;
    text = g.text;
    has_text = g.has_text;
    count = g.count;
    part = g.part;
    written = g.written;
    gains = g.gains;
    failed = g.failed;
  }
  repairs_perform ins rules readings outs out found (Err Memory) q (inl g) = inl (inr (unbegun ins rules readings found q g.0), (refl, g.1))
  repairs_perform ins rules readings outs out found (Err Memory) q (inr g) =
      inr (record {
        rules = found;
        came = g.came;
        streams = streams ins rules readings outs out found g.came q g.begun;
        unfailed = g.unfailed;
        earlier = g.earlier;
        last = g.last;
        came_are = g.came_are;
        piece = g.piece;
        out = g.written.out;
        is_output = g.written.is_output;
        written = g.written.written;
        ended = g.ended;
        at_end = g.at_end;
        begins = g.part;
      })
