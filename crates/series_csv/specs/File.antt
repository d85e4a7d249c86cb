-- To be believed: what the bytes of a readings file are read as: of a file that may go on, of one that has ended, and of a
-- whole table.
use Rattle.std.specs.Prelude.{◌≡◌, ◌⊎◌, ℕ, ◌<◌, ◌≤◌, List, [], ◌∷◌, length, Option, Some, None, Result, Ok, Err}
use Rattle.record_cut.specs.Ended.{so_far, ended}
use Rattle.record_cut.specs.declared.fault.CutFault.{CutFault}
use Rattle.rule_file.specs.declared.rules.Rules.{Rules}
use Rattle.series_rows.specs.Faults.{fault_at, of_the_file}
use Rattle.series_rows.specs.Header.{HeaderView}
use Rattle.series_rows.specs.Row.{RowView}
use Rattle.series_rows.specs.declared.fault.TableCause.TheVariants.{NoHeader, Cut, FileTooLong}
use Rattle.series_rows.specs.declared.fault.TableFault.{TableFault}
use Rattle.series_rows.specs.declared.limits.Limits.{Limits}
use Rattle.series_rows.specs.declared.limits.Limits.TheVariants.{Whole}
use Rattle.series_csv.specs.Read.{Read, ReadsRecords}
use Rattle.series_csv.specs.declared.table.TheConstants.{LONGEST}

-- A fault of the cut comes after all records, with the number that its record would have: that of the header is 0, so it
-- is the number of the records before it.
abbrev pub cut_fault : List (List (List ℕ)) → Option CutFault → Option TableFault
cut_fault records (Some fault) = Some (fault_at (length records) 0 (Cut fault))
cut_fault records None = None

-- at the end of a file there is also a fault where it has no record
abbrev pub end_fault : List (List (List ℕ)) → Option CutFault → Option TableFault
end_fault records (Some fault) = cut_fault records (Some fault)
end_fault [] None = Some (of_the_file NoHeader)
end_fault (fields ∷ records) None = None

-- What the bytes of a file are read as that may go on: the header and the rows whose line break stands in the bytes, and
-- a refusal at one of these bytes.
abbrev pub ReadsSoFar : Rules → Limits → List ℕ → Read → Type 0
ReadsSoFar rules limits bytes read =
    let cut = so_far rules.format.separator bytes in ReadsRecords rules limits cut.records (cut_fault cut.records cut.fault) read

-- what the bytes of a file are read as that has ended
abbrev pub ReadsEnded : Rules → Limits → List ℕ → Read → Type 0
ReadsEnded rules limits bytes read =
    let cut = ended rules.format.separator bytes in ReadsRecords rules limits cut.records (end_fault cut.records cut.fault) read

-- What contracts see of a table.
pub record TableView : Type 0 where
  pub header : HeaderView
  pub rows : List RowView

-- all records were read, and none was refused
abbrev pub whole : TableView → Read
whole table = record { header = Some table.header; rows = table.rows; fault = None }

-- what a whole file is read as, which is not too long: its table, or the first refusal
abbrev pub ReadsShort : Rules → List ℕ → Result TableView TableFault → Type 0
ReadsShort rules bytes (Ok table) = ReadsEnded rules Whole bytes (whole table)
ReadsShort rules bytes (Err fault) = (read : Read) × ReadsEnded rules Whole bytes read × (read.fault ≡ Some fault)

-- A file that is too long is refused before it is looked at.
abbrev pub ReadsTable : Rules → List ℕ → Result TableView TableFault → Type 0
ReadsTable rules bytes answer =
    ((LONGEST < length bytes) × (answer ≡ Err (of_the_file FileTooLong)))
    ⊎ ((length bytes ≤ LONGEST) × ReadsShort rules bytes answer)

-- the bytes are the readings file of this table
abbrev pub Spells : Rules → List ℕ → TableView → Type 0
Spells rules bytes table = ReadsTable rules bytes (Ok table)

-- the bytes are refused, and this is the first fault
abbrev pub Refuses : Rules → List ℕ → TableFault → Type 0
Refuses rules bytes fault = ReadsTable rules bytes (Err fault)
