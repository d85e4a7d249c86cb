-- To be believed: what the records of a readings file are read as, one after the other: the header and the rows, up to the
-- first record that is refused.
use Rattle.std.specs.Prelude.{◌≡◌, ℕ, List, [], ◌∷◌, Option, Some, None, Ok, Err}
use Rattle.rule_file.specs.declared.rules.Rules.{Rules}
use Rattle.series_rows.specs.Header.{HeaderView, ReadsHeader}
use Rattle.series_rows.specs.Before.{BeforeView, nothing_before, after_row}
use Rattle.series_rows.specs.ReadsRow.{ReadsRow}
use Rattle.series_rows.specs.Row.{RowView}
use Rattle.series_rows.specs.declared.fault.TableFault.{TableFault}
use Rattle.series_rows.specs.declared.limits.Limits.{Limits}

-- the header, if there is one, the rows, and the first refusal, if there is one
pub record Read : Type 0 where
  pub header : Option HeaderView
  pub rows : List RowView
  pub fault : Option TableFault

-- The records after the header are these rows, by what stands before each, and then there is this fault or none.
-- `last` is the fault that comes after all records, if there is one; a record that is refused comes before it.
abbrev pub ReadsRows : Rules → Limits → HeaderView → BeforeView → List (List (List ℕ)) → Option TableFault → List RowView → Option TableFault → Type 0
ReadsRows rules limits header before [] last [] fault = fault ≡ last
ReadsRows rules limits header before [] last (row ∷ rows) fault = ⊥
ReadsRows rules limits header before (fields ∷ records) last [] fault =
    (refusal : TableFault) × ReadsRow rules header limits before fields (Err refusal) × (fault ≡ Some refusal)
ReadsRows rules limits header before (fields ∷ records) last (row ∷ rows) fault =
    ReadsRow rules header limits before fields (Ok row) × ReadsRows rules limits header (after_row before row) records last rows fault

-- The first record is this header; or it is refused, and there is neither a header nor a row.
abbrev pub ReadsFirst : Rules → Limits → List (List ℕ) → List (List (List ℕ)) → Option TableFault → Option HeaderView → List RowView → Option TableFault → Type 0
ReadsFirst rules limits fields records last (Some header) rows fault =
    ReadsHeader rules fields (Ok header) × ReadsRows rules limits header nothing_before records last rows fault
ReadsFirst rules limits fields records last None rows fault =
    (refusal : TableFault) × ReadsHeader rules fields (Err refusal) × (rows ≡ []) × (fault ≡ Some refusal)

-- what the records are read as, of which the first is the header
abbrev pub ReadsRecords : Rules → Limits → List (List (List ℕ)) → Option TableFault → Read → Type 0
ReadsRecords rules limits [] last read = read ≡ record { header = None; rows = []; fault = last }
ReadsRecords rules limits (fields ∷ records) last read = ReadsFirst rules limits fields records last read.header read.rows read.fault
