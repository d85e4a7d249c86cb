-- To be believed: what a certificate is accepted as by rules and a table, or the first of its faults.
use Rattle.std.specs.Prelude.{◌≡◌, ◌⊎◌, ℕ, ◌<◌, ◌≤◌, pos, List, [], ◌∷◌, length, Option, Some, None, Result, Ok, Err}
use Rattle.screen_model.specs.Cost.{paid}
use Rattle.cert_format.specs.declared.cert.Cert.{Cert}
use Rattle.cert_format.specs.declared.cert.Cert.TheVariants as cert
use Rattle.cert_format.specs.declared.fault.CertRead.{CertRead}
use Rattle.cert_format.specs.declared.fault.CertRead.TheVariants as read
use Rattle.cert_format.specs.declared.limits.TheConstants.{LONGEST}
use Rattle.cert_format.specs.Reads.{Reads}
use Rattle.rule_file.specs.declared.rules.Rules.{Rules}
use Rattle.series_csv.specs.File.{TableView}
use Rattle.bound_maker.specs.Costs.{whole_problem}
use Rattle.cert_check.specs.declared.accepted.Accepted.{Accepted}
use Rattle.cert_check.specs.declared.accepted.Accepted.TheVariants.{Repair, NoSeries}
use Rattle.cert_check.specs.declared.fault.CertFault.{CertFault}
use Rattle.cert_check.specs.declared.fault.CertFault.TheVariants.{FileTooLong, Syntax, Memory}
use Rattle.cert_check.specs.declared.repair.Claim.{Claim}
use Rattle.cert_check.specs.Cycle.{cycle_faults}
use Rattle.cert_check.specs.Repair.{repair_faults, series_of}

-- the first of the faults that are there, and else what is accepted
abbrev pub answer_by : List (Option CertFault) → Accepted → Result Accepted CertFault
answer_by [] accepted = Ok accepted
answer_by (Some fault ∷ faults) accepted = Err fault
answer_by (None ∷ faults) accepted = answer_by faults accepted

-- A repair is accepted as its series, with what that pays.
abbrev pub answer_to_repair : Rules → TableView → Claim → Result Accepted CertFault
answer_to_repair rules table claim =
    answer_by (repair_faults rules table claim) (Repair (series_of table claim) claim.flow claim.total (pos (paid (whole_problem rules table) (series_of table claim))))

-- The set lines of a repair come after three lines, and after four where it tells what is paid.
abbrev pub answer_to : Rules → TableView → Cert → Result Accepted CertFault
answer_to rules table (cert.Repair total sets flow) = answer_to_repair rules table (record { before = 3; total = total; paid = None; sets = sets; flow = flow })
answer_to rules table (cert.Priced total paid sets flow) = answer_to_repair rules table (record { before = 4; total = total; paid = Some paid; sets = sets; flow = flow })
answer_to rules table (cert.NoSeries steps) = answer_by (cycle_faults rules table steps) (NoSeries steps)

abbrev pub fault_of_read : CertRead → CertFault
fault_of_read (read.Syntax line) = Syntax line
fault_of_read read.Memory = Memory

-- the answer to what a text is read as
abbrev pub answer_to_read : Rules → TableView → Result Cert CertRead → Result Accepted CertFault
answer_to_read rules table (Ok cert) = answer_to rules table cert
answer_to_read rules table (Err fault) = Err (fault_of_read fault)

-- What a text is accepted as, or its first fault. One that is too long is refused before it is looked at.
abbrev pub Judges : Rules → TableView → List ℕ → Result Accepted CertFault → Type 0
Judges rules table bytes answer =
    ((LONGEST < length bytes) × (answer ≡ Err FileTooLong))
    ⊎ ((length bytes ≤ LONGEST) × ((given : Result Cert CertRead) × Reads bytes given × (answer ≡ answer_to_read rules table given)))

-- the text is accepted
abbrev pub IsValid : Rules → TableView → List ℕ → Type 0
IsValid rules table bytes = (accepted : Accepted) × Judges rules table bytes (Ok accepted)
