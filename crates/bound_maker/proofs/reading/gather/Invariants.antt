use Rattle.std.proofs.Common.{◌≡◌, suc, ◌++◌, drop}
use Rattle.bound_maker.specs.Readings.{readings_from}
use Rattle.bound_maker.proofs.reading.gather.Given as goal

abbrev pub invariant-loop-row : goal.invariant-loop-row
invariant-loop-row l = record {
  number : l.number ≡ l.row-index;
  readings : readings_from 1 l.col l.rows ≡ l.readings ++ readings_from (suc l.row-index) l.col (drop l.row-index l.rows);
}
