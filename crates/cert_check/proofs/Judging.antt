-- What a text is accepted as, or its first fault.
use Rattle.std.proofs.Common.{◌≡◌, ◌≢◌, ℕ, ◌<◌, ◌≤◌, List, length, Result, Ok, Err, refl, ap, ◌∙◌, inl, inr}
use Rattle.std.specs.Prelude.{IfErr, IfOk}
use Rattle.cert_format.specs.declared.cert.Cert.{Cert}
use Rattle.cert_format.specs.declared.fault.CertRead.{CertRead}
use Rattle.cert_format.specs.declared.fault.CertRead.TheVariants as read
use Rattle.cert_format.specs.declared.limits.TheConstants.{LONGEST}
use Rattle.cert_format.specs.Reads.{Refuses, Spells}
use Rattle.rule_file.specs.declared.rules.Rules.{Rules}
use Rattle.series_csv.specs.File.{TableView}
use Rattle.cert_check.specs.declared.accepted.Accepted.{Accepted}
use Rattle.cert_check.specs.declared.fault.CertFault.{CertFault}
use Rattle.cert_check.specs.declared.fault.CertFault.TheVariants.{FileTooLong, Memory}
use Rattle.cert_check.specs.Judges.{Judges, answer_to, fault_of_read}

module _ (rules : Rules) (table : TableView) (bytes : List ℕ) where
  -- unless memory ran out, it is the answer
  abbrev pub IsJudged : Result Accepted CertFault → Type 0
  IsJudged result = result ≢ Err Memory → Judges rules table bytes result

  pub too_long : LONGEST < length bytes → IsJudged (Err FileTooLong)
  too_long long = λ _. inl (long, refl)

  pub of_cert : (cert : Cert) (result : Result Accepted CertFault) → length bytes ≤ LONGEST → Spells bytes cert → (result ≢ Err Memory → result ≡ answer_to rules table cert) → IsJudged result
  of_cert cert result short spells is = λ other. inr (short, (Ok cert, spells, is other))

  not_memory : (fault : CertRead) (given : CertFault) → given ≡ fault_of_read fault → ◌≢◌ {A = Result Accepted CertFault} (Err given) (Err Memory) → fault ≢ read.Memory
  not_memory fault given is other = λ same. other (ap Err (is ∙ ap fault_of_read same))

  pub of_fault : (fault : CertRead) (given : CertFault) → length bytes ≤ LONGEST → given ≡ fault_of_read fault → (fault ≢ read.Memory → Refuses bytes fault) → IsJudged (Err given)
  of_fault fault given short is refuses = λ other. inr (short, (Err fault, refuses (not_memory fault given is other), ap Err is))

  no_memory : (accepted : Accepted) → ◌≢◌ {A = Result Accepted CertFault} (Ok accepted) (Err Memory)
  no_memory accepted e = cc

  other_fault : (fault : CertFault) → fault ≢ Memory → ◌≢◌ {A = Result Accepted CertFault} (Err fault) (Err Memory)
  other_fault fault other e = other (cc)

  pub if_accepted : (result : Result Accepted CertFault) → IsJudged result → IfOk result (λ accepted. Judges rules table bytes (Ok accepted))
  if_accepted (Ok accepted) judged = judged (no_memory accepted)
  if_accepted (Err fault) judged = tt

  pub if_refused : (result : Result Accepted CertFault) → IsJudged result → IfErr result (λ fault. fault ≢ Memory → Judges rules table bytes (Err fault))
  if_refused (Ok accepted) judged = tt
  if_refused (Err fault) judged = λ other. judged (other_fault fault other)
