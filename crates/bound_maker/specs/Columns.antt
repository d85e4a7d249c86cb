-- For proofs: the readings of a column, gathered.
use Rattle.std.specs.Prelude.{◌≡◌, List}
use Rattle.series_rows.specs.Row.{RowView}
use Rattle.bound_maker.specs.Readings.{readings_of}
use Rattle.bound_maker.specs.declared.columns.Column.{Column}

abbrev pub IsColumn : List RowView → Column → Type 0
IsColumn rows column = column.readings ≡ readings_of column.col rows
