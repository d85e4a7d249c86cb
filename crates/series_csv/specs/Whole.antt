-- For proofs: a table that is being read.
use Rattle.std.specs.Prelude.{◌≢◌, ℕ, ◌≤◌, List, ◌++◌, length, take, None, Result, Ok, Err}
use Rattle.std.specs.List.{AllByRecursion}
use Rattle.rule_file.specs.declared.rules.Rules.{Rules}
use Rattle.series_rows.specs.Faults.{of_memory}
use Rattle.series_rows.specs.declared.fault.TableFault.{TableFault}
use Rattle.screen_model.specs.declared.limits.TheConstants.{MOST_ROWS, MOST_READINGS}
use Rattle.series_rows.specs.declared.limits.Limits.TheVariants.{Whole}
use Rattle.series_csv.specs.File.{ReadsSoFar, ReadsShort}
use Rattle.series_csv.specs.Indexed.{AreIndexed}
use Rattle.series_csv.specs.Read.{Read}
use Rattle.series_csv.specs.Readings.{values_of, IsSmall, TimesRise}
use Rattle.series_csv.specs.StandsFor.{StandsFor}
use Rattle.series_csv.specs.declared.whole.Draft.{Draft}
use Rattle.series_csv.specs.declared.whole.TableReader.{TableReader}

-- what was read, and nothing of it was refused
abbrev pub read_of : Draft → Read
read_of draft = record { header = draft.header; rows = draft.rows.rows; fault = None }

-- there are no more rows and readings than a table may have, and no greater ones, and the rows go up in time
pub record AreWithin (read : Read) : Type 0 where
  pub few : length read.rows ≤ MOST_ROWS
  pub few_readings : length (values_of read.rows) ≤ MOST_READINGS
  pub small : AllByRecursion IsSmall (values_of read.rows)
  pub times : TimesRise read.rows

-- these bytes of a table have been read
pub record IsReading (reading : TableReader) (rules : Rules) (bytes : List ℕ) : Type 0 where
  pub stands : StandsFor reading.reader rules Whole bytes
  pub reads : ReadsSoFar rules Whole bytes (read_of reading.draft)
  pub indexed : AreIndexed reading.draft.rows

-- some bytes have been read
abbrev pub IsReadingSome : TableReader → Type 0
IsReadingSome reading = (rules : Rules) × (bytes : List ℕ) × IsReading reading rules bytes

-- what is answered to the rest of a file: so many bytes of it have been read too; or the file is refused
abbrev pub IsFed : Rules → List ℕ → List ℕ → Result ℕ TableFault → TableReader → Type 0
IsFed rules bytes rest (Ok count) reading = IsReading reading rules (bytes ++ take count rest)
IsFed rules bytes rest (Err fault) reading = fault ≢ of_memory → ReadsShort rules (bytes ++ rest) (Err fault)
