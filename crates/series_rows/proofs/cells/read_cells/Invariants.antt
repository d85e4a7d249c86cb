use Rattle.series_rows.specs.Kept.{seen_cells}
use Rattle.series_rows.proofs.CellsRead.{AreCellsSoFar}
use Rattle.series_rows.proofs.cells.read_cells.Given as goal

abbrev pub invariant-loop-col : goal.invariant-loop-col
invariant-loop-col l = AreCellsSoFar l.format l.fields l.columns l.col-index (seen_cells l.cells)
