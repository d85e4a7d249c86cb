-- For proofs: where the readings of a table stand.
use Rattle.std.specs.Prelude.{◌≡◌, ℕ, ◌+◌, ◌≤◌, List, [], ◌∷◌, length}
use Rattle.std.specs.List.{AllByRecursion}
use Rattle.series_rows.specs.Row.{RowView, columns, Rise}
use Rattle.screen_model.specs.declared.limits.TheConstants.{MOST_ROWS, MOST_READINGS}
use Rattle.series_csv.specs.Readings.{places_from, values_of, IsSmall, TimesRise}
use Rattle.series_csv.specs.declared.rows.Rows.{Rows}

-- for each row, how many readings stand before it, of which this many stand before the first
abbrev pub starts_from : ℕ → List RowView → List ℕ
starts_from count [] = []
starts_from count (row ∷ rows) = count ∷ starts_from (count + length row.readings) rows

-- the columns of the row's readings go up from the left
abbrev pub HasRising : RowView → Type 0
HasRising row = Rise 0 (columns row.readings) (length row.fields)

-- The places, the values and the starts are those of the rows, which go up in time.
pub record AreIndexed (rows : Rows) : Type 0 where
  pub places_are : rows.places ≡ places_from 1 rows.rows
  pub values_are : rows.values ≡ values_of rows.rows
  pub starts_are : rows.starts ≡ starts_from 0 rows.rows
  pub few : length rows.rows ≤ MOST_ROWS
  pub few_readings : length (values_of rows.rows) ≤ MOST_READINGS
  pub rising : AllByRecursion HasRising rows.rows
  pub times : TimesRise rows.rows
  pub small : AllByRecursion IsSmall (values_of rows.rows)
