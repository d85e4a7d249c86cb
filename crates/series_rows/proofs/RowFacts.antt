-- What follows from that a record is a row.
use Rattle.std.proofs.Common.{◌≡◌, ℕ, ◌<◌, ◌==◌, List, length, get_or, sym, ap, subst, arith}
use Rattle.std.specs.List.{AllByRecursion, find, list_any}
use Rattle.rule_file.specs.declared.rules.Rules.{Rules}
use Rattle.series_rows.specs.Before.{BeforeView}
use Rattle.series_rows.specs.Header.{HeaderView, bears, column_of, field_at, sensor_columns}
use Rattle.series_rows.specs.Kept.{KeepsHeader}
use Rattle.series_rows.specs.Parts.{IsWithin}
use Rattle.series_rows.specs.ReadsRow.{IsRow, most_rows}
use Rattle.series_rows.specs.Row.{RowView, CellsView, columns, Rise}
use Rattle.series_rows.specs.declared.limits.TheConstants.{MOST_ENDLESS_ROWS}
use Rattle.series_rows.specs.declared.limits.Limits.{Limits}
use Rattle.series_rows.specs.declared.limits.Limits.TheVariants.{Whole, Endless}
use Rattle.series_rows.proofs.CellsRead.{all_here, readings_rise}
use Rattle.series_rows.proofs.Rising.{rise_range, rise_within}

-- the sensor columns go up from the left
pub sensors_rise : (header : HeaderView) → Rise 0 (sensor_columns header) (length header.fields)
sensors_rise header = rise_range (λ col. list_any (λ sensor. sensor == col) header.sensor_cols) 0 (length header.fields) (length header.fields) (omega arith)

-- they are columns of the header
pub sensors_within : (header : HeaderView) → AllByRecursion (IsWithin (length header.fields)) (sensor_columns header)
sensors_within header = rise_within 0 (sensor_columns header) (length header.fields) (sensors_rise header)

-- and so is each that a header keeps
pub kept_within : (header : HeaderView) (from_left : List ℕ) (i : ℕ) → KeepsHeader header from_left → i < length from_left → IsWithin (length header.fields) (get_or from_left i 0)
kept_within header from_left i keeps h =
    all_here (IsWithin (length header.fields)) from_left i (subst (AllByRecursion (IsWithin (length header.fields))) (sym keeps.from_left_are) (sensors_within header)) h

-- the first of them that bears a name
pub column_is : (header : HeaderView) (from_left : List ℕ) (name : List ℕ) → KeepsHeader header from_left → find (λ col. bears name (field_at header.fields col)) from_left ≡ column_of header name
column_is header from_left name keeps = ap (find (λ col. bears name (field_at header.fields col))) keeps.from_left_are

-- so do the columns of the readings of a row
pub row_rises : (rules : Rules) (header : HeaderView) (limits : Limits) (before : BeforeView) (fields : List (List ℕ)) (row : RowView) → IsRow rules header limits before fields row → Rise 0 (columns row.readings) (length row.fields)
row_rises rules header limits before fields row is =
    let cells : CellsView = record { readings = row.readings; missing = row.missing } in
    let rise : Rise 0 (sensor_columns header) (length fields) = subst (Rise 0 (sensor_columns header)) (sym is.has_cells.timed.fits.width) (sensors_rise header) in
    subst (Rise 0 (columns row.readings)) (ap length (sym is.fields_are)) (readings_rise rules.format fields 0 (sensor_columns header) (length fields) cells is.has_cells.cells_are rise)

fewer_rows : (limits : Limits) (rows : ℕ) → rows < most_rows limits → rows < MOST_ENDLESS_ROWS
fewer_rows Whole rows h = omega (arith, h)
fewer_rows Endless rows h = h

-- there was room for the row
pub room_left : (rules : Rules) (header : HeaderView) (limits : Limits) (before : BeforeView) (fields : List (List ℕ)) (row : RowView) → IsRow rules header limits before fields row → before.rows < MOST_ENDLESS_ROWS
room_left rules header limits before fields row is = fewer_rows limits before.rows is.has_cells.timed.fits.room
