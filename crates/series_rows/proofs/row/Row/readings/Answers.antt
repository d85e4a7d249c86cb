use Rattle.std.proofs.Common.{length, ap, arith}
use Rattle.series_rows.proofs.CellOf.{readings_few}
use Rattle.series_rows.proofs.row.Row.readings.Goals as goal

pub returns-clause-most : goal.returns-clause-most
returns-clause-most c = omega (arith, ap length c.as_slice.ensures, readings_few _ c.self.invariant)
