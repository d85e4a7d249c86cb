-- From the steps of a command that checks a certificate to what it performs.
use Rattle.std.proofs.Common.{◌≢◌, inl, inr, ℕ, ◌<◌, List, [], length, Option, Result, Ok, Err, refl}
use Rattle.bound_maker.specs.Bounds.{made_bounds}
use Rattle.bound_maker.specs.declared.maker.MakeFault.{MakeFault}
use Rattle.bound_maker.specs.declared.maker.MakeFault.TheVariants as make
use Rattle.bound_maker.specs.declared.maker.TheConstants.{MOST_BOUNDS}
use Rattle.cert_check.specs.Judges.{Judges}
use Rattle.cert_check.specs.Laws.{IsTrueClaim}
use Rattle.cert_check.specs.declared.accepted.Accepted.{Accepted}
use Rattle.cert_check.specs.declared.fault.CertFault.{CertFault}
use Rattle.cert_format.specs.declared.limits.TheConstants.{LONGEST as longest_cert}
use Rattle.rule_file.specs.File.{ReadsFile}
use Rattle.rule_file.specs.declared.fault.RuleFault.{RuleFault}
use Rattle.rule_file.specs.declared.read.TheConstants.{LONGEST as longest_rules}
use Rattle.rule_file.specs.declared.rules.Rules.{Rules}
use Rattle.series_csv.specs.File.{TableView, ReadsTable}
use Rattle.series_csv.specs.declared.table.TheConstants.{LONGEST as longest_readings}
use Rattle.series_rows.specs.declared.fault.TableFault.{TableFault}
use Rattle.screen_io.specs.Faults.{Rose}
use Rattle.screen_tool.specs.declared.checked.Checked.{Checked}
use Rattle.screen_words.specs.declared.ends.Inputs.{Inputs}
use Rattle.screen_steps.specs.declared.reply.Reply.{Reply}
use Rattle.screen_words.specs.declared.status.Ending.TheVariants as ending
use Rattle.screen_words.specs.declared.status.Outcome.TheVariants.{Done, Usage}
use Rattle.screen_words.specs.declared.step.StepFault.{StepFault}
use Rattle.screen_words.specs.declared.step.StepFault.TheVariants as fault
use Rattle.screen_steps.specs.Answer.{Answer}
use Rattle.screen_tool.specs.Checked.{AfterCert, AnswersChecked, accepted_answer, cert_refused, cert_too_long}
use Rattle.screen_steps.specs.Files.{AfterBounds, HasFewBounds, RulesAreOne, ReadingsAreOne, too_many_bounds}
use Rattle.screen_steps.specs.Performance.{Stays, Stops}
use Rattle.screen_steps.specs.Step.{Ends, IsReplyOf, IsStep, IsStopped, Replies}
use Rattle.screen_tool.specs.Checking.{EndsUnchecked, IsChecked}
use Rattle.screen_words.specs.Faults.{cert_ending, make_ending, readings_ending, rules_ending}
use Rattle.screen_tool.proofs.AnswerLaws.{checked_wholly, needs_cert}
use Rattle.screen_steps.proofs.Reading.{one_more, readings_end, rules_end, texts_end}

abbrev Any : Rules → TableView → Accepted → Type 0
Any rules table accepted = Unit {0}

-- ---- no end is the usage, and none is a success

pub make_no_usage : (given : MakeFault) → make_ending given ≢ ending.Ended Usage
make_no_usage make.TooManyBounds e = cc
make_no_usage make.Memory e = cc

pub make_no_done : (given : MakeFault) → make_ending given ≢ ending.Ended Done
make_no_done make.TooManyBounds e = cc
make_no_done make.Memory e = cc

pub cert_no_usage : (given : StepFault CertFault) → cert_ending given ≢ ending.Ended Usage
cert_no_usage fault.TooLong e = cc
cert_no_usage (fault.Refused f) e = cc
cert_no_usage fault.Failed e = cc
cert_no_usage fault.Memory e = cc

pub cert_no_done : (given : StepFault CertFault) → cert_ending given ≢ ending.Ended Done
cert_no_done fault.TooLong e = cc
cert_no_done (fault.Refused f) e = cc
cert_no_done fault.Failed e = cc
cert_no_done fault.Memory e = cc

module _ {S : Type 0} (left : S → Option (List ℕ)) (source_faults : S → ℕ) where
  abbrev RulesRead : S → S → Rules → Type 0
  RulesRead source now found = IsStep left source_faults longest_rules ReadsFile source now (Ok found)

  abbrev TableRead : Rules → S → S → TableView → Type 0
  TableRead found source now table = IsStep left source_faults longest_readings (ReadsTable found) source now (Ok table)

  abbrev CertRead : Rules → TableView → S → S → Result Accepted (StepFault CertFault) → Type 0
  CertRead found table source now given = IsStep left source_faults longest_cert (Judges found table) source now given

  module _ (text : Rules → TableView → Accepted → List ℕ) where
    abbrev After : Rules → TableView → List ℕ → Answer → Type 0
    After rules table cert = AfterBounds rules table (AfterCert Any text rules table cert)

    -- there are too many bounds, or memory runs out before the certificate
    make_ends : RulesAreOne → (ins : Inputs S) (rules readings : S) (found : Rules) (table : TableView) (given : MakeFault)
        → RulesRead ins.rules rules found → TableRead found ins.readings readings table
        → (given ≢ make.Memory → MOST_BOUNDS < length (made_bounds found table))
        → Ends left source_faults (AnswersChecked Any text) ins (record ins { rules = rules; readings = readings }) (make_ending given)
    make_ends law ins rules readings found table make.TooManyBounds q p many = (
      too_many_bounds,
      refl,
      refl,
      refl,
      (record { rules = q.0; readings = p.0; cert = [] }, inr (q.2, Ok found, q.3, inr (p.2, Ok table, p.3, inl (many (λ e. cc), refl))), (q.1, p.1, refl)),
    )
    make_ends law ins rules readings found table make.Memory q p many = texts_end left source_faults After (checked_wholly Any text) law ins rules readings found table q p

    at_cert : (Happens : ℕ → ℕ → Type 0) → RulesAreOne → ReadingsAreOne → (ins now : Inputs S) (found : Rules) (table : TableView)
        → RulesRead ins.rules now.rules found → TableRead found ins.readings now.readings table → HasFewBounds found table → IsStopped left source_faults longest_cert Happens ins.cert now.cert
        → Stops left source_faults Happens (AnswersChecked Any text) ins now
    at_cert Happens rules_one readings_one ins now found table q p few c =
        inr (inr (record {
          rules_came = q.0;
          readings_came = p.0;
          came = c.0;
          within = c.1;
          rules = q.1;
          readings = p.1;
          needed = needs_cert Any text rules_one readings_one q.0 p.0 found table q.2 q.3 p.2 p.3 few;
          taken = c.2;
          happens = c.3;
        }))

    -- the certificate is refused, or a read of it failed, or memory runs out
    cert_ends : RulesAreOne → ReadingsAreOne → (ins : Inputs S) (rules readings cert : S) (found : Rules) (table : TableView) (given : StepFault CertFault)
        → RulesRead ins.rules rules found → TableRead found ins.readings readings table → HasFewBounds found table → CertRead found table ins.cert cert (Err given)
        → Ends left source_faults (AnswersChecked Any text) ins (record { rules = rules; readings = readings; cert = cert }) (cert_ending given)
    cert_ends rules_one readings_one ins rules readings cert found table fault.TooLong q p few c = (
      cert_too_long,
      refl,
      refl,
      refl,
      (record { rules = q.0; readings = p.0; cert = c.0 }, inr (q.2, Ok found, q.3, inr (p.2, Ok table, p.3, inr (few, inl (c.2, refl)))), (q.1, p.1, c.1)),
    )
    cert_ends rules_one readings_one ins rules readings cert found table (fault.Refused f) q p few c = (
      cert_refused f,
      refl,
      refl,
      refl,
      (record { rules = q.0; readings = p.0; cert = c.0 }, inr (q.2, Ok found, q.3, inr (p.2, Ok table, p.3, inr (few, inr (c.2, Err f, c.3, refl)))), (q.1, p.1, c.1)),
    )
    cert_ends rules_one readings_one ins rules readings cert found table fault.Failed q p few c =
        at_cert Rose rules_one readings_one ins (record { rules = rules; readings = readings; cert = cert }) found table q p few c
    cert_ends rules_one readings_one ins rules readings cert found table fault.Memory q p few c =
        inr (at_cert Stays rules_one readings_one ins (record { rules = rules; readings = readings; cert = cert }) found table q p few c)

    -- memory runs out once the certificate is accepted
    pub checked_ends : RulesAreOne → ReadingsAreOne → (ins now : Inputs S) (checked : Checked) → IsChecked left source_faults ins now checked
        → Ends left source_faults (AnswersChecked Any text) ins now ending.Memory
    checked_ends rules_one readings_one ins now checked is =
        inr (at_cert Stays rules_one readings_one ins now checked.rules checked.table is.rules is.table is.few (is.accepted.0, one_more (length is.accepted.0) longest_cert is.accepted.2, is.accepted.1.0, is.accepted.1.2))

    -- the text of what is accepted is the reply
    pub checked_replies : (ins now : Inputs S) (checked : Checked) (reply : Reply) → IsChecked left source_faults ins now checked
        → IsReplyOf (accepted_answer (text checked.rules checked.table checked.accepted)) reply → Replies left source_faults (AnswersChecked IsTrueClaim text) ins now reply
    checked_replies ins now checked reply is replies = (
      accepted_answer (text checked.rules checked.table checked.accepted),
      replies,
      (
        record { rules = is.rules.0; readings = is.table.0; cert = is.accepted.0 },
        inr (is.rules.2, Ok checked.rules, is.rules.3, inr (is.table.2, Ok checked.table, is.table.3, inr (is.few, inr (is.accepted.2, Ok checked.accepted, is.accepted.3, (is.is_true, refl))))),
        (is.rules.1, is.table.1, is.accepted.1),
      ),
    )

  -- ---- so it ends whatever would be written

  pub unchecked_rules : (ins : Inputs S) (rules : S) (given : StepFault RuleFault) → IsStep left source_faults longest_rules ReadsFile ins.rules rules (Err given)
      → EndsUnchecked left source_faults ins (record ins { rules = rules }) (rules_ending given)
  unchecked_rules ins rules given p = λ text. rules_end left source_faults (After text) (checked_wholly Any text) ins rules given p

  pub unchecked_readings : RulesAreOne → (ins : Inputs S) (rules readings : S) (found : Rules) (given : StepFault TableFault)
      → RulesRead ins.rules rules found → IsStep left source_faults longest_readings (ReadsTable found) ins.readings readings (Err given)
      → EndsUnchecked left source_faults ins (record ins { rules = rules; readings = readings }) (readings_ending given)
  unchecked_readings law ins rules readings found given q p = λ text. readings_end left source_faults (After text) (checked_wholly Any text) law ins rules readings found given q p

  pub unchecked_bounds : RulesAreOne → (ins : Inputs S) (rules readings : S) (found : Rules) (table : TableView) (given : MakeFault)
      → RulesRead ins.rules rules found → TableRead found ins.readings readings table
      → (given ≢ make.Memory → MOST_BOUNDS < length (made_bounds found table))
      → EndsUnchecked left source_faults ins (record ins { rules = rules; readings = readings }) (make_ending given)
  unchecked_bounds law ins rules readings found table given q p many = λ text. make_ends text law ins rules readings found table given q p many

  pub unchecked_cert : RulesAreOne → ReadingsAreOne → (ins : Inputs S) (rules readings cert : S) (found : Rules) (table : TableView) (given : StepFault CertFault)
      → RulesRead ins.rules rules found → TableRead found ins.readings readings table → HasFewBounds found table → CertRead found table ins.cert cert (Err given)
      → EndsUnchecked left source_faults ins (record { rules = rules; readings = readings; cert = cert }) (cert_ending given)
  unchecked_cert rules_one readings_one ins rules readings cert found table given q p few c = λ text. cert_ends text rules_one readings_one ins rules readings cert found table given q p few c
