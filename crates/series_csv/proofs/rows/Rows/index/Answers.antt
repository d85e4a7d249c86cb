use Rattle.std.proofs.Common.{◌≡◌, ◌≢◌, ◌+◌, ◌<◌, length, suc, sym, ap, ◌∙◌, subst, arith}
use Rattle.std.specs.List.{AllByRecursion, slice_get}
use Rattle.std.proofs.lemmas.Option.{slice_get_within}
use Rattle.series_rows.specs.declared.cell.RowReading.{RowReading}
use Rattle.series_csv.specs.Readings.{places_from}
use Rattle.series_csv.proofs.Indexing.{none_in_header, none_in_no_row, none_in_column, no_column, in_column, has_start, found_at, as_many}
use Rattle.series_csv.proofs.rows.Rows.index.Goals as goal

pub returns-in_err-r : goal.returns-in_err-r
returns-in_err-r c =
    rw c.from_residual.ensures (none_in_header c.args.self.now.rows c.args.place (omega (arith, c.in_err-r.ensures)))

pub returns-in_err-row : goal.returns-in_err-row
returns-in_err-row c =
    let number : c.args.place.row ≡ suc c.in_ok-r.field-0 = omega (arith, c.in_ok-r.ensures) in
    rw c.from_residual-in_err-row.ensures (none_in_no_row c.args.self.now.rows c.args.place c.in_ok-r.field-0 number (sym c.in_err-row.ensures))

pub returns-in_err-start : goal.returns-in_err-start
returns-in_err-start c =
    absurd (has_start c.args.self.now.rows c.in_ok-r.field-0 c.in_ok-row.row.now (sym c.in_ok-row.ensures) (ap (λ starts. slice_get starts c.in_ok-r.field-0) (sym c.requires.starts_are) ∙ sym c.in_err-start.ensures))

pub returns-in_err-within : goal.returns-in_err-within
returns-in_err-within c =
    let place = c.args.place in
    let number : place.row ≡ suc c.in_ok-r.field-0 = omega (arith, c.in_ok-r.ensures) in
    let others = subst (λ xs. AllByRecursion (λ (reading : RowReading). reading.col ≢ place.col) xs) c.readings.ensures.readings c.in_err-within.ensures in
    rw c.from_residual-in_err-within.ensures
    (none_in_column c.args.self.now.rows place c.in_ok-r.field-0 c.in_ok-row.row.now number (sym c.in_ok-row.ensures) (no_column c.in_ok-row.row.now.readings place.col others))

pub overflow_add-result : goal.overflow_add-result
overflow_add-result c =
    let rows = c.args.self.now.rows in
    let place = c.args.place in
    let number : place.row ≡ suc c.in_ok-r.field-0 = omega (arith, c.in_ok-r.ensures) in
    let start = ap (λ starts. slice_get starts c.in_ok-r.field-0) (sym c.requires.starts_are) ∙ sym c.in_ok-start.ensures in
    let at = found_at rows c.in_ok-r.field-0 c.in_ok-within.within c.in_ok-start.start.now c.in_ok-row.row.now place number (sym c.in_ok-row.ensures) start
    (in_column c.readings.result.now c.in_ok-row.row.now.readings c.in_ok-within.within place.col c.readings.ensures.readings c.in_ok-within.ensures.0 c.in_ok-within.ensures.1) in
    let within : c.in_ok-start.start.now + c.in_ok-within.within < length (places_from 1 rows) = slice_get_within (places_from 1 rows) (c.in_ok-start.start.now + c.in_ok-within.within) place at in
    omega (arith, within, as_many 1 rows, c.requires.few_readings)

pub returns : goal.returns
returns c =
    let place = c.args.place in
    let number : place.row ≡ suc c.in_ok-r.field-0 = omega (arith, c.in_ok-r.ensures) in
    let start = ap (λ starts. slice_get starts c.in_ok-r.field-0) (sym c.requires.starts_are) ∙ sym c.in_ok-start.ensures in
    found_at c.args.self.now.rows c.in_ok-r.field-0 c.in_ok-within.within c.in_ok-start.start.now c.in_ok-row.row.now place number (sym c.in_ok-row.ensures) start
    (in_column c.readings.result.now c.in_ok-row.row.now.readings c.in_ok-within.within place.col c.readings.ensures.readings c.in_ok-within.ensures.0 c.in_ok-within.ensures.1)
