-- The headline of a command that checks a certificate, from what was performed.
use Rattle.std.proofs.Common.{◌≡◌, ◌≢◌, inl, inr, ℕ, ◌≤◌, List, length, Option, Some, None, Result, Ok, Err, MatchResult, refl, sym, ap, ◌∙◌}
use Rattle.cert_check.specs.Judges.{IsValid, Judges}
use Rattle.cert_check.specs.Laws.{IsTrueClaim}
use Rattle.cert_check.specs.declared.accepted.Accepted.{Accepted}
use Rattle.cert_check.specs.declared.fault.CertFault.{CertFault}
use Rattle.cert_format.specs.declared.limits.TheConstants.{LONGEST as longest_cert}
use Rattle.rule_file.specs.declared.read.TheConstants.{LONGEST as longest_rules}
use Rattle.rule_file.specs.declared.rules.Rules.{Rules}
use Rattle.screen_io.specs.Faults.{Rose}
use Rattle.series_csv.specs.File.{TableView}
use Rattle.series_csv.specs.declared.table.TheConstants.{LONGEST as longest_readings}
use Rattle.screen_words.specs.declared.ends.Inputs.{Inputs}
use Rattle.screen_words.specs.declared.ends.Outputs.{Outputs}
use Rattle.screen_words.specs.declared.status.Ending.{Ending}
use Rattle.screen_words.specs.declared.status.Ending.TheVariants as ending
use Rattle.screen_words.specs.declared.status.Outcome.TheVariants as outcome
use Rattle.screen_words.specs.declared.status.Status.{Status}
use Rattle.screen_words.specs.declared.status.Status.TheVariants as status
use Rattle.screen_steps.specs.Answer.{Answer}
use Rattle.screen_tool.specs.Checked.{AfterCert, AnswersChecked, accepted_answer, cert_refused, cert_too_long}
use Rattle.screen_steps.specs.Files.{CertsAreOne}
use Rattle.screen_words.specs.Ending.{IsUnless, outcome_status, status_of}
use Rattle.screen_steps.specs.Files.{RulesAreOne, ReadingsAreOne}
use Rattle.screen_tool.specs.HeadlineCheck.{CountsFault, HeadlineCheck, WritesAccepted}
use Rattle.screen_steps.specs.Performance.{AreWritten, IsAnswered, Performs, Stops}
use Rattle.screen_steps.proofs.AfterFile.{more_and_not}
use Rattle.screen_tool.proofs.AnswerLaws.{checked_cert, checked_has, checked_rests}
use Rattle.screen_tool.proofs.Decided.{gained, is_done, not_written, out_counted, rules_short, table_short}
use Rattle.screen_tool.proofs.Due.{front_read}

-- ---- what is due over a certificate

module _ (Holds : Rules → TableView → Accepted → Type 0) (text : Rules → TableView → Accepted → List ℕ) (rules : Rules) (table : TableView) where
  abbrev Accepts : Accepted → Answer → Type 0
  Accepts accepted answer = Holds rules table accepted × (answer ≡ accepted_answer (text rules table accepted))

  valid_found : (found : Result Accepted CertFault) (accepted : Accepted) (answer : Answer) → found ≡ Ok accepted
      → MatchResult found (λ given. Accepts given answer) (λ fault. answer ≡ cert_refused fault) → outcome_status answer.outcome ≡ status.Done
  valid_found (Ok given) accepted answer e p = ap (λ (a : Answer). outcome_status a.outcome) p.1
  valid_found (Err fault) accepted answer e p = absurd (cc e)

  due_valid : CertsAreOne → (cert : List ℕ) (answer : Answer) → IsValid rules table cert → AfterCert Holds text rules table cert answer → outcome_status answer.outcome ≡ status.Done
  due_valid one cert answer (accepted, inl j) p = absurd (cc j.1)
  due_valid one cert answer (accepted, inr j) (inl p) = absurd (more_and_not longest_cert (length cert) p.0 j.0)
  due_valid one cert answer (accepted, inr j) (inr p) = valid_found p.1 accepted answer (one rules table cert p.1 (Ok accepted) p.2 (inr j)) p.3

  invalid_found : (cert : List ℕ) (found : Result Accepted CertFault) (answer : Answer) → ¬ IsValid rules table cert → Judges rules table cert found
      → MatchResult found (λ given. Accepts given answer) (λ fault. answer ≡ cert_refused fault) → outcome_status answer.outcome ≡ status.CertRefused
  invalid_found cert (Ok given) answer not_valid judged p = absurd (not_valid (given, judged))
  invalid_found cert (Err fault) answer not_valid judged p = ap (λ (a : Answer). outcome_status a.outcome) p

  due_not_valid : (cert : List ℕ) (answer : Answer) → ¬ IsValid rules table cert → AfterCert Holds text rules table cert answer → outcome_status answer.outcome ≡ status.CertRefused
  due_not_valid cert answer not_valid (inl p) = ap (λ (a : Answer). outcome_status a.outcome) p.1
  due_not_valid cert answer not_valid (inr p) = invalid_found cert p.1 answer not_valid p.2 p.3

  -- a success comes of what is accepted
  done_found : (cert : List ℕ) (found : Result Accepted CertFault) (answer : Answer) → answer.outcome ≡ outcome.Done → Judges rules table cert found
      → MatchResult found (λ given. Accepts given answer) (λ fault. answer ≡ cert_refused fault)
      → (accepted : Accepted) × Judges rules table cert (Ok accepted) × Accepts accepted answer
  done_found cert (Ok given) answer done judged p = (given, judged, p)
  done_found cert (Err fault) answer done judged p = let other : outcome.CertRefused fault ≡ outcome.Done = sym (ap (λ (a : Answer). a.outcome) p) ∙ done in absurd (cc other)

  done_accepted : (cert : List ℕ) (answer : Answer) → answer.outcome ≡ outcome.Done → AfterCert Holds text rules table cert answer
      → (accepted : Accepted) × Judges rules table cert (Ok accepted) × Accepts accepted answer
  done_accepted cert answer done (inl p) = let other : cert_too_long.outcome ≡ outcome.Done = sym (ap (λ (a : Answer). a.outcome) p.1) ∙ done in absurd (cc other)
  done_accepted cert answer done (inr p) = done_found cert p.1 answer done p.2 p.3

-- ---- what was written

module _ {K : Type 0} (held : K → Option (List ℕ)) (sink_faults : K → ℕ) (text : Rules → TableView → Accepted → List ℕ) where
  writes_accepted : (rules : Rules) (table : TableView) (cert : List ℕ) (answer : Answer) (outs now : Outputs K)
      → (accepted : Accepted) × Judges rules table cert (Ok accepted) × (IsTrueClaim rules table accepted × (answer ≡ accepted_answer (text rules table accepted)))
      → AreWritten held sink_faults answer outs now → WritesAccepted held text rules table cert outs now
  writes_accepted rules table cert answer outs now f written = record {
    accepted = f.0;
    judged = f.1;
    is_true = f.2.0;
    out = gained held sink_faults answer.out (text rules table f.0) outs.out now.out (ap (λ (a : Answer). a.out) f.2.1) written.1;
  }

  no_text : (Holds : Rules → TableView → Accepted → Type 0) (bytes : Inputs (List ℕ)) (answer : Answer) → AnswersChecked Holds text bytes answer → answer.outcome ≢ outcome.Done → answer.out ≡ None
  no_text Holds bytes answer p =
      checked_has Holds text (λ a. a.outcome ≢ outcome.Done → a.out ≡ None) bytes answer (λ n. refl) (λ fault n. refl) (λ n. refl) (λ fault n. refl) (λ n. refl) (λ n. refl) (λ fault n. refl)
      (λ written n. absurd (n refl)) p

  no_cert : (Holds : Rules → TableView → Accepted → Type 0) (bytes : Inputs (List ℕ)) (answer : Answer) → AnswersChecked Holds text bytes answer → answer.cert ≡ None
  no_cert Holds bytes answer p =
      checked_has Holds text (λ a. a.cert ≡ None) bytes answer refl (λ fault. refl) refl (λ fault. refl) refl refl (λ fault. refl) (λ written. refl) p

module _ {S K : Type 0} (left : S → Option (List ℕ)) (source_faults : S → ℕ) (held : K → Option (List ℕ)) (sink_faults : K → ℕ) (text : Rules → TableView → Accepted → List ℕ) where
  abbrev Any : Rules → TableView → Accepted → Type 0
  Any rules table accepted = Unit {0}

  stop_counted : (ins now : Inputs S) → Stops left source_faults Rose (AnswersChecked Any text) ins now → CountsFault source_faults ins now
  stop_counted ins now (inl p) = inl p.happens
  stop_counted ins now (inr (inl p)) = inr (inl p.happens)
  stop_counted ins now (inr (inr p)) = inr (inr p.happens)

  -- what was answered is an answer to the bytes that the sources told
  answered_told : (Holds : Rules → TableView → Accepted → Type 0) (ins now : Inputs S) (bytes : Inputs (List ℕ)) (answer : Answer)
      → left ins.rules ≡ Some bytes.rules → left ins.readings ≡ Some bytes.readings → left ins.cert ≡ Some bytes.cert
      → IsAnswered left source_faults (AnswersChecked Holds text) ins now answer → AnswersChecked Holds text bytes answer
  answered_told Holds ins now bytes answer rules_told readings_told cert_told answered =
      checked_rests Holds text answered.0 bytes answer (
        front_read left source_faults answer.read.rules ins.rules now.rules answered.0.rules bytes.rules rules_told answered.2.0,
        front_read left source_faults answer.read.readings ins.readings now.readings answered.0.readings bytes.readings readings_told answered.2.1,
        front_read left source_faults answer.read.cert ins.cert now.cert answered.0.cert bytes.cert cert_told answered.2.2,
      ) answered.1

  -- the status is what is due, apart from counted faults and want of memory
  unless : (ins now : Inputs S) (outs outs_now : Outputs K) (due : Status) (how : Ending) → Performs left source_faults held sink_faults (AnswersChecked Any text) ins now outs outs_now how
      → ((answer : Answer) → IsAnswered left source_faults (AnswersChecked Any text) ins now answer → outcome_status answer.outcome ≡ due)
      → IsUnless (CountsFault source_faults ins now) (Rose (sink_faults outs.out) (sink_faults outs_now.out)) due (status_of how)
  unless ins now outs outs_now due (ending.Ended o) p decide = inl (sym (ap outcome_status p.1) ∙ decide p.0 p.2)
  unless ins now outs outs_now due ending.ReadFault p decide = inr (inl (refl, stop_counted ins now p.0))
  unless ins now outs outs_now due ending.WriteFault p decide =
      inr (inr (inl (refl, out_counted held sink_faults p.0 outs outs_now (no_cert held sink_faults text Any p.1.0 p.0 p.1.1) p.2)))
  unless ins now outs outs_now due ending.Memory p decide = inr (inr (inr refl))

  kept : (ins now : Inputs S) (outs outs_now : Outputs K) (how : Ending) → Performs left source_faults held sink_faults (AnswersChecked Any text) ins now outs outs_now how
      → status_of how ≢ status.Done → status_of how ≢ status.WriteFault → outs_now.out ≡ outs.out
  kept ins now outs outs_now ending.ReadFault p not_done not_failed = p.1.1
  kept ins now outs outs_now ending.Memory p not_done not_failed = p.1.1
  kept ins now outs outs_now ending.WriteFault p not_done not_failed = absurd (not_failed refl)
  kept ins now outs outs_now (ending.Ended o) p not_done not_failed =
      not_written held sink_faults p.0.out outs.out outs_now.out (no_text held sink_faults text Any p.2.0 p.0 p.2.1 (λ is. not_done (ap outcome_status (sym p.1 ∙ is)))) p.3.1

  pub headline_check : RulesAreOne → ReadingsAreOne → CertsAreOne → (ins now : Inputs S) (outs outs_now : Outputs K) (how : Ending)
      → Performs left source_faults held sink_faults (AnswersChecked Any text) ins now outs outs_now how
      → (how ≡ ending.Ended outcome.Done → Performs left source_faults held sink_faults (AnswersChecked IsTrueClaim text) ins now outs outs_now (ending.Ended outcome.Done))
      → HeadlineCheck left source_faults held sink_faults text ins now outs outs_now (status_of how)
  headline_check rules_one readings_one certs_one ins now outs outs_now how p shown = λ rule_bytes reading_bytes certificate rules table rules_told readings_told cert_told spells reads few.
      let bytes : Inputs (List ℕ) = record { rules = rule_bytes; readings = reading_bytes; cert = certificate } in
      let short : length rule_bytes ≤ longest_rules = rules_short rule_bytes rules spells in
      let short_readings : length reading_bytes ≤ longest_readings = table_short rules reading_bytes table reads in
      let own : (Holds : Rules → TableView → Accepted → Type 0) (answer : Answer) → IsAnswered left source_faults (AnswersChecked Holds text) ins now answer → AfterCert Holds text rules table certificate answer =
      λ Holds answer q. checked_cert Holds text rules_one readings_one bytes rules table answer short spells short_readings reads few (answered_told Holds ins now bytes answer rules_told readings_told cert_told q) in
      record {
        valid = λ valid. unless ins now outs outs_now status.Done how p (λ answer q. due_valid Any text rules table certs_one certificate answer valid (own Any answer q));
        not_valid = λ not_valid. unless ins now outs outs_now status.CertRefused how p (λ answer q. due_not_valid Any text rules table certificate answer not_valid (own Any answer q));
        writes = λ is.
            let q = shown (is_done how is) in
            writes_accepted held sink_faults text rules table certificate q.0 outs outs_now (done_accepted IsTrueClaim text rules table certificate q.0 q.1 (own IsTrueClaim q.0 q.2)) q.3;
        kept = λ not_done not_failed. kept ins now outs outs_now how p not_done not_failed;
      }
