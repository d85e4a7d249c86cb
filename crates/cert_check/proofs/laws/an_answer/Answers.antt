use Rattle.std.proofs.Common.{◌≡◌, ℕ, ◌<◌, ◌≤◌, ◌⊎◌, Bool, true, false, nat_lt, List, length, Result, Err, refl, inl, inr, arith}
use Rattle.std.proofs.lemmas.Bool.Decides.{nat_tests}
use Rattle.cert_format.specs.declared.limits.TheConstants.{LONGEST}
use Rattle.cert_format.specs.Laws.{AnAnswer}
use Rattle.rule_file.specs.declared.rules.Rules.{Rules}
use Rattle.series_csv.specs.File.{TableView}
use Rattle.cert_check.specs.declared.accepted.Accepted.{Accepted}
use Rattle.cert_check.specs.declared.fault.CertFault.{CertFault}
use Rattle.cert_check.specs.declared.fault.CertFault.TheVariants.{FileTooLong}
use Rattle.cert_check.specs.Judges.{Judges, answer_to_read}
use Rattle.cert_check.proofs.laws.an_answer.Goals as goal

split : (n m : ℕ) (b : Bool) → nat_lt n m ≡ b → (n < m) ⊎ (m ≤ n)
split n m true h = inl (grind (arith, nat_tests))
split n m false h = inr (grind (arith, nat_tests))

long_or_short : (n m : ℕ) → (n < m) ⊎ (m ≤ n)
long_or_short n m = split n m (nat_lt n m) refl

given : AnAnswer → (rules : Rules) (table : TableView) (bytes : List ℕ) → (LONGEST < length bytes) ⊎ (length bytes ≤ LONGEST) → (answer : Result Accepted CertFault) × Judges rules table bytes answer
given law rules table bytes (inl long) = (Err FileTooLong, inl (long, refl))
given law rules table bytes (inr short) =
    let read = law bytes in
    (answer_to_read rules table read.0, inr (short, (read.0, read.1, refl)))

pub returns : goal.returns
returns c = λ rules table bytes. given c.an_answer.ensures rules table bytes (long_or_short LONGEST (length bytes))
