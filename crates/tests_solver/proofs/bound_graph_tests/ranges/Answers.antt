use Rattle.screen_model.specs.Obeys.{HasEnds}
use Rattle.words.proofs.Lists.{all_push}
use Rattle.tests_solver.proofs.Members.{contains_at}
use Rattle.tests_solver.proofs.bound_graph_tests.ranges.Goals as goal

pub loop-place-preserved : goal.loop-place-preserved
loop-place-preserved c =
    let places = c.args.places.now in
    let at = contains_at places c.loop-place.place-index _ c.loop-place-test.true in
    rw c.in_ok-push-2.ensures.ok (all_push (HasEnds places) _ _
    (rw c.in_ok-push.ensures.ok (all_push (HasEnds places) _ _ c.loop-place.invariant (rw c.range_bound.ensures (tt, at))))
    (rw c.range_bound-in-loop-place.ensures (at, tt)))
