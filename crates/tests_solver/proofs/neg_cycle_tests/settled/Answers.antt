use Rattle.std.proofs.Common.{ℤ, ◌≤◌, ◌*◌, ◌^◌, List, length, unsigned_abs, to_z, of_z, w64, ap, ◌∙◌, rules}
use Rattle.std.proofs.lemmas.List.{length-set}
use Rattle.std.proofs.lemmas.List.Elements.{All-same, All-set}
use Rattle.tests_solver.proofs.neg_cycle_tests.settled.Goals as goal

pub loop-node-preserved : goal.loop-node-preserved
loop-node-preserved g c =
    let was = c.loop-node.room.distances in
    let start : ℤ = to_z w64 (of_z w64 c.from.result) in
    let size : unsigned_abs start ≤ 4 * 10 ^ 15 = search rules in
    record {
      nodes = ap (λ (l : List ℤ). length l) c.start.ensures.distances ∙ length-set was c.loop-node.node start ∙ c.loop-node.invariant.nodes;
      small = All-same (λ (x : ℤ). unsigned_abs x ≤ 4 * 10 ^ 15) c.start.new.self.distances _ c.start.ensures.distances (All-set (λ (x : ℤ). unsigned_abs x ≤ 4 * 10 ^ 15) was c.loop-node.node start size c.loop-node.invariant.small);
    }
