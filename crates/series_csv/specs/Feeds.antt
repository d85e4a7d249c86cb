-- To be believed: what a reader of rows answers to the bytes of a file and to its end.
use Rattle.std.specs.Prelude.{◌≡◌, ◌≢◌, ℕ, List, [], ◌∷◌, ◌++◌, Option, Some, None, Result, Ok, Err}
use Rattle.record_cut.specs.Feeds.{front_of}
use Rattle.rule_file.specs.declared.rules.Rules.{Rules}
use Rattle.series_rows.specs.Faults.{of_memory}
use Rattle.series_rows.specs.declared.fault.TableFault.{TableFault}
use Rattle.series_rows.specs.declared.limits.Limits.{Limits}
use Rattle.series_csv.specs.Read.{Read}
use Rattle.series_csv.specs.File.{ReadsSoFar, ReadsEnded}
use Rattle.series_csv.specs.StandsFor.{StandsFor}
use Rattle.series_csv.specs.declared.event.Event.{Event}
use Rattle.series_csv.specs.declared.event.Event.TheVariants.{Header, Row}
use Rattle.series_csv.specs.declared.reader.RowReader.{RowReader}

-- what was read, and then the header or a row
abbrev pub with_event : Read → Event → Read
with_event read (Header header) = record read { header = Some header }
with_event read (Row row) = record read { rows = read.rows ++ row ∷ [] }

-- the header comes once
abbrev pub IsNew : Read → Event → Type 0
IsNew read (Header header) = read.header ≡ None
IsNew read (Row row) = Unit {0}

-- what was read, and then a refusal
abbrev pub refused_by : Read → TableFault → Read
refused_by read fault = record read { fault = Some fault }

-- The piece adds nothing and is not refused, and the reader stands for the bytes with it.
pub record GoesOn (rules : Rules) (limits : Limits) (bytes piece : List ℕ) (reader : RowReader) : Type 0 where
  pub stands : StandsFor reader rules limits (bytes ++ piece)
  pub same : (read : Read) → ReadsSoFar rules limits bytes read → ReadsSoFar rules limits (bytes ++ piece) read

-- The last byte of the piece adds this event, and no byte before it adds one; the reader stands for the bytes with the
-- piece.
pub record Adds (rules : Rules) (limits : Limits) (bytes piece : List ℕ) (event : Event) (reader : RowReader) : Type 0 where
  pub stands : StandsFor reader rules limits (bytes ++ piece)
  pub before_last : (read : Read) → ReadsSoFar rules limits bytes read → ReadsSoFar rules limits (bytes ++ front_of piece) read
  pub at_last : (read : Read) → ReadsSoFar rules limits bytes read → IsNew read event × ReadsSoFar rules limits (bytes ++ piece) (with_event read event)

-- The last byte of the piece is refused for this, and none before it.
pub record Fails (rules : Rules) (limits : Limits) (bytes piece : List ℕ) (fault : TableFault) : Type 0 where
  pub before_last : (read : Read) → ReadsSoFar rules limits bytes read → ReadsSoFar rules limits (bytes ++ front_of piece) read
  pub at_last : (read : Read) → ReadsSoFar rules limits bytes read → ReadsSoFar rules limits (bytes ++ piece) (refused_by read fault)

-- The answer to a piece after these bytes: nothing, where it adds nothing and is not refused; the header or a row exactly
-- where its last byte ends the record of it; a refusal exactly where it stands at its last byte. Want of memory may come
-- at any byte.
abbrev pub Feeds : Rules → Limits → List ℕ → List ℕ → Result (Option Event) TableFault → RowReader → Type 0
Feeds rules limits bytes piece (Ok None) reader = GoesOn rules limits bytes piece reader
Feeds rules limits bytes piece (Ok (Some event)) reader = Adds rules limits bytes piece event reader
Feeds rules limits bytes piece (Err fault) reader = fault ≢ of_memory → Fails rules limits bytes piece fault

-- The answer to the end of the file after these bytes: nothing, where it adds nothing and is not refused; the event that
-- it adds; or the refusal.
abbrev pub Ends : Rules → Limits → List ℕ → Result (Option Event) TableFault → Type 0
Ends rules limits bytes (Ok None) = (read : Read) → ReadsSoFar rules limits bytes read → ReadsEnded rules limits bytes read
Ends rules limits bytes (Ok (Some event)) =
    (read : Read) → ReadsSoFar rules limits bytes read → IsNew read event × ReadsEnded rules limits bytes (with_event read event)
Ends rules limits bytes (Err fault) =
    fault ≢ of_memory → (read : Read) → ReadsSoFar rules limits bytes read → ReadsEnded rules limits bytes (refused_by read fault)
