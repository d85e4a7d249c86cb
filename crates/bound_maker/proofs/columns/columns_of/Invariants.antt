use Rattle.std.specs.List.{AllByRecursion}
use Rattle.bound_maker.specs.Columns.{IsColumn}
use Rattle.bound_maker.proofs.columns.columns_of.Given as goal

abbrev pub invariant-loop-col : goal.invariant-loop-col
invariant-loop-col l = AllByRecursion (IsColumn l.table.rows) l.columns.items
