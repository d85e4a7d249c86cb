-- To be believed: what a command is for that checks a certificate, in one piece.
use Rattle.std.specs.Prelude.{◌≡◌, ◌≢◌, ◌⊎◌, ℕ, List, Option, Some, Ok}
use Rattle.cert_check.specs.Judges.{IsValid, Judges}
use Rattle.cert_check.specs.Laws.{IsTrueClaim}
use Rattle.cert_check.specs.declared.accepted.Accepted.{Accepted}
use Rattle.rule_file.specs.File.{Spells as SpellsRules}
use Rattle.rule_file.specs.declared.rules.Rules.{Rules}
use Rattle.series_csv.specs.File.{TableView, Spells as SpellsTable}
use Rattle.screen_io.specs.Faults.{Rose}
use Rattle.screen_io.specs.Sink.{Gains}
use Rattle.screen_words.specs.declared.ends.Inputs.{Inputs}
use Rattle.screen_words.specs.declared.ends.Outputs.{Outputs}
use Rattle.screen_words.specs.declared.status.Status.{Status}
use Rattle.screen_words.specs.declared.status.Status.TheVariants.{Done, CertRefused, WriteFault}
use Rattle.screen_words.specs.Ending.{IsUnless}
use Rattle.screen_steps.specs.Files.{HasFewBounds}

-- a source counted a fault
abbrev pub CountsFault : {S : Type 0} → (S → ℕ) → Inputs S → Inputs S → Type 0
CountsFault source_faults ins now =
    Rose (source_faults ins.rules) (source_faults now.rules)
    ⊎ (Rose (source_faults ins.readings) (source_faults now.readings) ⊎ Rose (source_faults ins.cert) (source_faults now.cert))

-- The certificate is accepted, what it claims is true, and the output gained the text of that.
pub record WritesAccepted {K : Type 0} (held : K → Option (List ℕ)) (text : Rules → TableView → Accepted → List ℕ) (rules : Rules) (table : TableView) (certificate : List ℕ) (outs outs_now : Outputs K) : Type 0 where
  pub accepted : Accepted
  pub judged : Judges rules table certificate (Ok accepted)
  pub is_true : IsTrueClaim rules table accepted
  pub out : Gains (held outs.out) (text rules table accepted) (held outs_now.out)

module _ {S K : Type 0} (left : S → Option (List ℕ)) (source_faults : S → ℕ) (held : K → Option (List ℕ)) (sink_faults : K → ℕ) (text : Rules → TableView → Accepted → List ℕ) where
  -- Apart from counted faults and want of memory, 0 is answered exactly where the certificate is accepted, and 8 exactly where
  -- it is not. With every status but 0 and 6 the output is the same as before.
  pub record DecidesCheck (rules : Rules) (table : TableView) (certificate : List ℕ) (ins ins_now : Inputs S) (outs outs_now : Outputs K) (given : Status) : Type 0 where
    pub valid : IsValid rules table certificate
        → IsUnless (CountsFault source_faults ins ins_now) (Rose (sink_faults outs.out) (sink_faults outs_now.out)) Done given
    pub not_valid : ¬ IsValid rules table certificate
        → IsUnless (CountsFault source_faults ins ins_now) (Rose (sink_faults outs.out) (sink_faults outs_now.out)) CertRefused given
    pub writes : given ≡ Done → WritesAccepted held text rules table certificate outs outs_now
    pub kept : given ≢ Done → given ≢ WriteFault → outs_now.out ≡ outs.out

  -- So it is over every rule file and every readings file that are accepted, and of which no more than 4,000,000 bounds
  -- are made.
  abbrev pub HeadlineCheck : Inputs S → Inputs S → Outputs K → Outputs K → Status → Type 0
  HeadlineCheck ins ins_now outs outs_now given =
      (rule_bytes reading_bytes certificate : List ℕ) (rules : Rules) (table : TableView)
      → left ins.rules ≡ Some rule_bytes → left ins.readings ≡ Some reading_bytes → left ins.cert ≡ Some certificate
      → SpellsRules rule_bytes rules → SpellsTable rules reading_bytes table → HasFewBounds rules table
      → DecidesCheck rules table certificate ins ins_now outs outs_now given
