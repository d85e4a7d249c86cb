use Rattle.std.proofs.Common.{take}
use Rattle.std.specs.List.{AllByRecursion}
use Rattle.bound_maker.specs.Written.{HasWritableColumns}
use Rattle.bound_maker.proofs.written.columns_are_few.Given as goal

abbrev pub invariant-loop-row : goal.invariant-loop-row
invariant-loop-row l = AllByRecursion HasWritableColumns (take l.row-index l.rows)
