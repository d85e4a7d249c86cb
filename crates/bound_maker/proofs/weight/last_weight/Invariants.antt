use Rattle.std.proofs.Common.{◌≡◌, ◌+◌, drop}
use Rattle.bound_maker.specs.Weighed.{covering, last_or}
use Rattle.bound_maker.proofs.weight.last_weight.Given as goal

abbrev pub invariant-loop-rule : goal.invariant-loop-rule
invariant-loop-rule l = record {
  place : l.place ≡ l.first + l.rule-index;
  weight : last_or 1 (covering l.first l.header.sensor_cols l.weights l.col l.ticks) ≡ last_or l.weight (covering (l.first + l.rule-index) l.header.sensor_cols (drop l.rule-index l.weights) l.col l.ticks);
}
