-- To be believed: what is read of the bytes of a file stays, whatever bytes follow; and each file has an answer.
use Rattle.std.specs.Prelude.{◌≡◌, ℕ, IsSome, List, ◌++◌, Result}
use Rattle.rule_file.specs.declared.rules.Rules.{Rules}
use Rattle.series_rows.specs.Row.{RowView}
use Rattle.series_rows.specs.declared.fault.TableFault.{TableFault}
use Rattle.series_rows.specs.declared.limits.Limits.{Limits}
use Rattle.series_csv.specs.Read.{Read}
use Rattle.series_csv.specs.File.{TableView, ReadsSoFar, ReadsEnded, ReadsTable}

-- Of a longer file the same header is read, and these rows come first.
pub record Continues (read longer : Read) : Type 0 where
  pub header : IsSome read.header → longer.header ≡ read.header
  pub rows : (later : List RowView) × (longer.rows ≡ read.rows ++ later)

-- A file of which bytes have been read goes on with more, and may end there. Where they were refused nothing changes.
pub record Stays (rules : Rules) (limits : Limits) (bytes more : List ℕ) (read : Read) : Type 0 where
  pub so_far : (longer : Read) → ReadsSoFar rules limits (bytes ++ more) longer → Continues read longer
  pub ended : (longer : Read) → ReadsEnded rules limits (bytes ++ more) longer → Continues read longer
  pub refused : IsSome read.fault → ReadsSoFar rules limits (bytes ++ more) read × ReadsEnded rules limits (bytes ++ more) read

-- for all rules, limits and files
abbrev pub ReadStays : Type 0
ReadStays = (rules : Rules) (limits : Limits) (bytes more : List ℕ) (read : Read) → ReadsSoFar rules limits bytes read → Stays rules limits bytes more read

-- a part of a file, the file that ends there, and a whole file have an answer
pub record HasAnswers (rules : Rules) (limits : Limits) (bytes : List ℕ) : Type 0 where
  pub so_far : (read : Read) × ReadsSoFar rules limits bytes read
  pub ended : (read : Read) × ReadsEnded rules limits bytes read
  pub table : (answer : Result TableView TableFault) × ReadsTable rules bytes answer

-- for all rules, limits and files
abbrev pub FilesHaveAnswers : Type 0
FilesHaveAnswers = (rules : Rules) (limits : Limits) (bytes : List ℕ) → HasAnswers rules limits bytes

-- and each has only one
pub record HasOneAnswer (rules : Rules) (limits : Limits) (bytes : List ℕ) : Type 0 where
  pub so_far : (one other : Read) → ReadsSoFar rules limits bytes one → ReadsSoFar rules limits bytes other → one ≡ other
  pub ended : (one other : Read) → ReadsEnded rules limits bytes one → ReadsEnded rules limits bytes other → one ≡ other
  pub table : (one other : Result TableView TableFault) → ReadsTable rules bytes one → ReadsTable rules bytes other → one ≡ other

abbrev pub FilesHaveOneAnswer : Type 0
FilesHaveOneAnswer = (rules : Rules) (limits : Limits) (bytes : List ℕ) → HasOneAnswer rules limits bytes
