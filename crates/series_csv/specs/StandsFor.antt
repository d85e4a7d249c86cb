-- For proofs: what a reader's fields have to do with the bytes that it has read. What it answers is in Feeds.
use Rattle.std.specs.Prelude.{◌≡◌, ℕ, List, [], ◌∷◌, Option, None, Result, Ok, Err}
use Rattle.record_cut.specs.Ended.{so_far}
use Rattle.record_cut.specs.StandsFor as Cut
use Rattle.rule_file.specs.declared.rules.Rules.{Rules}
use Rattle.series_rows.specs.Before.{BeforeView, nothing_before, after_row}
use Rattle.series_rows.specs.Header.{HeaderView}
use Rattle.series_rows.specs.Row.{RowView}
use Rattle.series_rows.specs.declared.fault.TableFault.{TableFault}
use Rattle.series_rows.specs.declared.limits.Limits.{Limits}
use Rattle.series_csv.specs.Read.{ReadsRecords}
use Rattle.series_csv.specs.declared.reader.RowReader.{RowReader}
use Rattle.series_csv.specs.declared.reader.Stage.{Stage}
use Rattle.series_csv.specs.declared.reader.Stage.TheVariants.{Open, Refused, Ended}

-- what stands before a row that comes after these rows
abbrev pub before_next : BeforeView → List RowView → BeforeView
before_next before [] = before
before_next before (row ∷ rows) = before_next (after_row before row) rows

-- all that has been read, with what stands before the next row
pub record HasRead (rules : Rules) (limits : Limits) (records : List (List (List ℕ))) (header : Option HeaderView) (before : BeforeView) (rows : List RowView) : Type 0 where
  pub reads : ReadsRecords rules limits records None (record { header = header; rows = rows; fault = None })
  pub before_is : before ≡ before_next nothing_before rows

-- The reader has read these bytes by these rules within these limits, and has not refused: it has the header, if there is
-- one, and what stands before the next row.
pub record StandsFor (reader : RowReader) (rules : Rules) (limits : Limits) (bytes : List ℕ) : Type 0 where
  pub rules_are : reader.rules.now ≡ rules
  pub limits_are : reader.limits ≡ limits
  pub is_open : reader.stage ≡ Open
  pub cuts : Cut.StandsFor reader.cutter rules.format.separator bytes
  pub no_fault : (so_far rules.format.separator bytes).fault ≡ None
  pub rows : List RowView
  pub read : HasRead rules limits (so_far rules.format.separator bytes).records reader.progress.header reader.progress.before rows

-- the reader has answered this refusal, and answers it for ever
abbrev pub HasRefused : RowReader → TableFault → Type 0
HasRefused reader fault = reader.stage ≡ Refused fault

-- the reader has been told that the file has ended, and did not refuse it
abbrev pub HasEnded : RowReader → Type 0
HasEnded reader = reader.stage ≡ Ended

-- where a reader is after this answer: at that stage, or refused
abbrev pub stage_after : {A : Type 0} → Result A TableFault → Stage → Stage
stage_after (Ok answer) stage = stage
stage_after (Err fault) stage = Refused fault
