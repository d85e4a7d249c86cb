-- The cell of a sensor column, reading after reading; and the column that bears a name, column after column.
use Rattle.std.proofs.Common.{◌≡◌, ◌≢◌, ℕ, ◌+◌, ◌<◌, ◌≤◌, ◌==◌, Bool, true, false, cond, List, length, get_or, drop, pos, Some, None, ap, ◌∙◌, arith}
use Rattle.std.specs.Prelude.{if◌then◌else◌}
use Rattle.std.specs.List.{find, list_any}
use Rattle.std.proofs.lemmas.Bool.Decides.{nat_tests}
use Rattle.std.proofs.lemmas.List.{drop_more, drop_all, length-map}
use Rattle.series_rows.specs.Row.{RowView, columns, sensor_cell}
use Rattle.series_rows.specs.Kept.{KeepsRow}
use Rattle.series_rows.specs.declared.cell.Cell.TheVariants.{Missing, Reading, Text}
use Rattle.series_rows.specs.declared.cell.RowReading.{RowReading}
use Rattle.screen_model.specs.declared.limits.TheConstants.{MOST_COLUMNS}
use Rattle.series_rows.proofs.Rising.{rise_length}

abbrev pub no_reading : RowReading
no_reading = record { col = 0; value = pos 0 }

cell_next : (readings : List RowReading) (missing : List ℕ) (i col : ℕ) (d : RowReading) → i < length readings
    → sensor_cell (drop i readings) missing col ≡ (if (get_or readings i d).col == col then Reading (get_or readings i d).value else sensor_cell (drop (i + 1) readings) missing col)
cell_next readings missing i col d h = ap (λ rs. sensor_cell rs missing col) (drop_more readings i d h)

-- the reading stands in the column
pub cell_here : (readings : List RowReading) (missing : List ℕ) (i col : ℕ) (d : RowReading) → i < length readings → (get_or readings i d).col ≡ col → sensor_cell (drop i readings) missing col ≡ Reading (get_or readings i d).value
cell_here readings missing i col d h here =
    let test : ((get_or readings i d).col == col) ≡ true = grind (arith, nat_tests) in
    cell_next readings missing i col d h ∙ ap (λ t. if t then Reading (get_or readings i d).value else sensor_cell (drop (i + 1) readings) missing col) test

-- or it does not
pub cell_later : (readings : List RowReading) (missing : List ℕ) (i col : ℕ) (d : RowReading) → i < length readings → (get_or readings i d).col ≢ col → sensor_cell (drop i readings) missing col ≡ sensor_cell (drop (i + 1) readings) missing col
cell_later readings missing i col d h other =
    let test : ((get_or readings i d).col == col) ≡ false = grind (arith, nat_tests) in
    cell_next readings missing i col d h ∙ ap (λ t. if t then Reading (get_or readings i d).value else sensor_cell (drop (i + 1) readings) missing col) test

-- after all readings
pub cell_past : (readings : List RowReading) (missing : List ℕ) (i col : ℕ) → length readings ≤ i → sensor_cell (drop i readings) missing col ≡ (if list_any (λ other. other == col) missing then Missing else Text)
cell_past readings missing i col h = ap (λ rs. sensor_cell rs missing col) (drop_all i readings h)

-- a row has no more readings than it may have columns
pub readings_few : (row : RowView) → KeepsRow row → length row.readings ≤ MOST_COLUMNS
readings_few row keeps =
    let count = rise_length 0 (columns row.readings) (length row.fields) (omega arith) keeps.rise in
    omega (arith, count, keeps.few, length-map row.readings (λ (reading : RowReading). reading.col))

-- ---- the first of some columns that passes a test

pub find_next : (test : ℕ → Bool) (cols : List ℕ) (i : ℕ) → i < length cols → find test (drop i cols) ≡ cond (test (get_or cols i 0)) (Some (get_or cols i 0)) (find test (drop (i + 1) cols))
find_next test cols i h = ap (find test) (drop_more cols i 0 h)

pub find_missed : (test : ℕ → Bool) (cols : List ℕ) (i : ℕ) → i < length cols → test (get_or cols i 0) ≡ false → find test (drop i cols) ≡ find test (drop (i + 1) cols)
find_missed test cols i h missed = find_next test cols i h ∙ ap (λ t. cond t (Some (get_or cols i 0)) (find test (drop (i + 1) cols))) missed

pub find_found : (test : ℕ → Bool) (cols : List ℕ) (i : ℕ) → i < length cols → test (get_or cols i 0) ≡ true → find test (drop i cols) ≡ Some (get_or cols i 0)
find_found test cols i h found = find_next test cols i h ∙ ap (λ t. cond t (Some (get_or cols i 0)) (find test (drop (i + 1) cols))) found

pub find_none : (test : ℕ → Bool) (cols : List ℕ) (i : ℕ) → length cols ≤ i → find test (drop i cols) ≡ None
find_none test cols i h = ap (find test) (drop_all i cols h)
