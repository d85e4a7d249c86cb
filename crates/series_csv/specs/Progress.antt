-- For proofs: how what was read goes on with the next record.
use Rattle.std.specs.Prelude.{◌≡◌, ◌≢◌, ℕ, suc, List, Option, Some, None, Result, Ok, Err}
use Rattle.record_cut.specs.declared.fault.CutFault.{CutFault}
use Rattle.record_cut.specs.declared.fault.CutFault.TheVariants as cut
use Rattle.rule_file.specs.declared.rules.Rules.{Rules}
use Rattle.series_rows.specs.Before.{BeforeView, after_row}
use Rattle.series_rows.specs.Faults.{fault_at, of_the_file, of_memory}
use Rattle.series_rows.specs.Header.{HeaderView, ReadsHeader}
use Rattle.series_rows.specs.ReadsRow.{ReadsRow}
use Rattle.series_rows.specs.declared.fault.TableCause.TheVariants.{NoHeader, Cut}
use Rattle.series_rows.specs.declared.fault.TableFault.{TableFault}
use Rattle.series_rows.specs.declared.limits.Limits.{Limits}
use Rattle.series_csv.specs.declared.event.Event.{Event}
use Rattle.series_csv.specs.declared.event.Event.TheVariants.{Header, Row}
use Rattle.series_csv.specs.declared.progress.Progress.{Progress}

-- what was read, with one event more
abbrev pub after_event : Progress → Event → Progress
after_event progress (Header header) = record progress { header = Some header }
after_event progress (Row row) = record progress { before = after_row progress.before row }

-- The fields of the next record are read as this: the header, where there is none; then a row.
abbrev pub ReadsNext : Rules → Limits → Option HeaderView → BeforeView → List (List ℕ) → Result Event TableFault → Type 0
ReadsNext rules limits None before fields (Ok (Header header)) = ReadsHeader rules fields (Ok header)
ReadsNext rules limits None before fields (Ok (Row row)) = ⊥
ReadsNext rules limits None before fields (Err fault) = ReadsHeader rules fields (Err fault)
ReadsNext rules limits (Some header) before fields (Ok (Header other)) = ⊥
ReadsNext rules limits (Some header) before fields (Ok (Row row)) = ReadsRow rules header limits before fields (Ok row)
ReadsNext rules limits (Some header) before fields (Err fault) = ReadsRow rules header limits before fields (Err fault)

-- what a record is read as, and how it goes on after it
abbrev pub Reads : Rules → Limits → Progress → List (List ℕ) → Result Event TableFault → Progress → Type 0
Reads rules limits old fields (Ok event) new = ReadsNext rules limits old.header old.before fields (Ok event) × (new ≡ after_event old event)
Reads rules limits old fields (Err fault) new = fault ≢ of_memory → ReadsNext rules limits old.header old.before fields (Err fault)

-- the number of the next record, which is 0 for the header
abbrev pub number_of_next : Option HeaderView → BeforeView → ℕ
number_of_next None before = 0
number_of_next (Some header) before = suc before.rows

-- the refusal of a record that is not cut off
abbrev pub uncut : Progress → CutFault → TableFault
uncut old cut.BadQuote = fault_at (number_of_next old.header old.before) 0 (Cut cut.BadQuote)
uncut old cut.RecordTooLong = fault_at (number_of_next old.header old.before) 0 (Cut cut.RecordTooLong)
uncut old cut.OpenQuote = fault_at (number_of_next old.header old.before) 0 (Cut cut.OpenQuote)
uncut old cut.Memory = of_memory

-- what is answered to a record that was cut off
abbrev pub ReadsCut : Rules → Limits → Progress → List (List ℕ) → Result (Option Event) TableFault → Progress → Type 0
ReadsCut rules limits old fields (Ok None) new = ⊥
ReadsCut rules limits old fields (Ok (Some event)) new = Reads rules limits old fields (Ok event) new
ReadsCut rules limits old fields (Err fault) new = Reads rules limits old fields (Err fault) new

-- what is answered where the cutter answered this
abbrev pub Takes : Rules → Limits → Progress → Result (Option (List (List ℕ))) CutFault → Result (Option Event) TableFault → Progress → Type 0
Takes rules limits old (Ok None) answer new = (answer ≡ Ok None) × (new ≡ old)
Takes rules limits old (Ok (Some fields)) answer new = ReadsCut rules limits old fields answer new
Takes rules limits old (Err fault) answer new = answer ≡ Err (uncut old fault)

-- where the file ends after these records: it may lack a header
abbrev pub without_more : Option HeaderView → Result (Option Event) TableFault
without_more None = Err (of_the_file NoHeader)
without_more (Some header) = Ok None

-- what is answered at the end of the file
abbrev pub TakesLast : Rules → Limits → Progress → Result (Option (List (List ℕ))) CutFault → Result (Option Event) TableFault → Type 0
TakesLast rules limits old (Ok None) answer = answer ≡ without_more old.header
TakesLast rules limits old (Ok (Some fields)) answer = (new : Progress) × ReadsCut rules limits old fields answer new
TakesLast rules limits old (Err fault) answer = answer ≡ Err (uncut old fault)
