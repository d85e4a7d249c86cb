use Rattle.std.proofs.Common.{arith}
use Rattle.bound_graph.specs.Arcs.{IsArc}
use Rattle.words.proofs.Lists.{all_push}
use Rattle.tests_solver.proofs.both_ways_tests.push_valid.Goals as goal

pub returns-in_ok-push : goal.returns-in_ok-push
returns-in_ok-push c =
    rw c.in_ok-push.ensures.ok (all_push (IsArc c.args.nodes) c.args.arcs.now _ c.requires
    (record { tail = c.if-tail-nodes.true; head = c.if-head-nodes.true; cost = omega (arith, c.unsigned_abs.ensures.value) }))
