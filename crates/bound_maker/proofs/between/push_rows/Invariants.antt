use Rattle.std.proofs.Common.{◌≡◌, suc, ◌++◌, drop}
use Rattle.pair_bounds.specs.Pairs.{between_bound}
use Rattle.bound_maker.specs.Bounds.{bounds_in_rows}
use Rattle.bound_maker.proofs.between.push_rows.Given as goal

abbrev pub invariant-loop-row : goal.invariant-loop-row
invariant-loop-row l = record {
  number : l.row_number ≡ l.row-index;
  bounds : l.fn.bounds ++ bounds_in_rows (between_bound l.number l.rule) l.first_col l.second_col 1 l.rows
      ≡ l.bounds ++ bounds_in_rows (between_bound l.number l.rule) l.first_col l.second_col (suc l.row-index) (drop l.row-index l.rows);
}
