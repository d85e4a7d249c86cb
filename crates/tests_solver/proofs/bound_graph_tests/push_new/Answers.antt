use Rattle.std.proofs.Common.{◌≢◌, subst}
use Rattle.std.specs.List.{AllByRecursion}
use Rattle.words.proofs.Lists.{distinct_push}
use Rattle.tests_solver.proofs.bound_graph_tests.push_new.Goals as goal

pub returns-in_ok-push : goal.returns-in_ok-push
returns-in_ok-push c =
    let new = subst (AllByRecursion (λ other. c.args.place ≢ other)) c.as_slice.ensures (c.is_new.ensures c.if-is_new.true) in
    rw c.in_ok-push.ensures.ok (distinct_push c.args.places.now c.args.place new c.requires)
