use Rattle.std.proofs.Common.{◌≡◌, ◌+◌}
use Rattle.bound_maker.proofs.Stays.{CoverAlike}
use Rattle.bound_maker.proofs.weigher.last_covered.Given as goal

abbrev pub invariant-loop-rule : goal.invariant-loop-rule
invariant-loop-rule l = record {
  place : l.place ≡ l.first + l.rule-index;
  alike : CoverAlike l.first l.header.sensor_cols l.weights l.col l.ticks l.until l.rule-index;
}
