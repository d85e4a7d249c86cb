use Rattle.std.proofs.Common.{◌≡◌, length, map, reverse, take}
use Rattle.neg_cycle.specs.Forest.{parent_at}
use Rattle.neg_cycle.specs.Labels.{parent_arc}
use Rattle.neg_cycle.proofs.cycle.write_cycle.Given as goal

abbrev pub invariant-loop-place : goal.invariant-loop-place
invariant-loop-place l = record {
  arcs : take l.place l.cycle.items ≡ map (λ node. parent_arc (parent_at l.parents node)) (take l.place (reverse l.nodes));
  room : length l.cycle.items ≡ length l.initial.cycle.items;
}
