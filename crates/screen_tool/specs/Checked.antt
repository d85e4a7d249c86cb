-- To be believed: what the commands answer that check a certificate by its rules and its readings.
use Rattle.std.specs.Prelude.{◌≡◌, ℕ, ◌+◌, List, Some, None}
use Rattle.cert_check.specs.Judges.{Judges}
use Rattle.cert_check.specs.declared.accepted.Accepted.{Accepted}
use Rattle.cert_check.specs.declared.fault.CertFault.{CertFault}
use Rattle.cert_check.specs.declared.fault.CertFault.TheVariants.{FileTooLong}
use Rattle.cert_format.specs.declared.limits.TheConstants.{LONGEST as longest_cert}
use Rattle.rule_file.specs.declared.rules.Rules.{Rules}
use Rattle.series_csv.specs.File.{TableView}
use Rattle.screen_words.specs.declared.ends.Inputs.{Inputs}
use Rattle.screen_words.specs.declared.status.Outcome.TheVariants.{Done, CertRefused}
use Rattle.screen_steps.specs.Answer.{Extent, Whole, Begun, Answer, AfterFile}
use Rattle.screen_steps.specs.Files.{AfterBoth, AfterBounds}

-- The answer that writes nothing, where both files are whole and the certificate is read so far.
abbrev pub cert_refused_at : Extent → CertFault → Answer
cert_refused_at extent fault = record {
  outcome = CertRefused fault;
  read = record { rules = Whole; readings = Whole; cert = extent };
  cert = None;
  out = None;
}

abbrev pub cert_too_long : Answer
cert_too_long = cert_refused_at (Begun (longest_cert + 1)) FileTooLong

abbrev pub cert_refused : CertFault → Answer
cert_refused = cert_refused_at Whole

-- All three files are whole, and this is written.
abbrev pub accepted_answer : List ℕ → Answer
accepted_answer text = record {
  outcome = Done;
  read = record { rules = Whole; readings = Whole; cert = Whole };
  cert = None;
  out = Some text;
}

-- `text` is what the command writes of what a certificate is accepted as, and `Holds` what is asked of that beside.
module _ (Holds : Rules → TableView → Accepted → Type 0) (text : Rules → TableView → Accepted → List ℕ) where
  -- The certificate is judged by accepted rules and readings.
  abbrev pub AfterCert : Rules → TableView → List ℕ → Answer → Type 0
  AfterCert rules table bytes =
      AfterFile longest_cert (Judges rules table) cert_too_long cert_refused bytes
      (λ accepted answer. Holds rules table accepted × (answer ≡ accepted_answer (text rules table accepted)))

  -- The bounds come before the certificate.
  abbrev pub AnswersChecked : Inputs (List ℕ) → Answer → Type 0
  AnswersChecked = AfterBoth (λ rules table cert. AfterBounds rules table (AfterCert rules table cert))
