use Rattle.std.proofs.Common.{ℕ, ◌+◌, ◌*◌, ◌/◌, ◌%◌, ◌^◌, ◌<◌, ◌≤◌, length, unsigned_abs, arith}
use Rattle.std.proofs.lemmas.List.{length_push}
use Rattle.screen_model.specs.declared.place.Place.{Place}
use Rattle.screen_model.specs.Obeys.{HasEnds}
use Rattle.words.proofs.Lists.{all_push}
use Rattle.tests_solver.proofs.Members.{contains_at}
use Rattle.tests_solver.proofs.bound_graph_tests.ring.Goals as goal

pub loop-i-preserved : goal.loop-i-preserved
loop-i-preserved c =
    let before = c.loop-i.invariant in
    let places = c.args.places.now in
    let i = c.loop-i.i in
    rw c.in_ok-push.ensures.ok (record {
      ends = all_push (HasEnds places) c.loop-i.bounds c.range_bound.result before.ends
          (rw c.range_bound.ensures (contains_at places (i % length places) _ (omega arith), contains_at places ((i + i / length places + 1) % length places) _ (omega arith)));
      limits = all_push (λ bound. unsigned_abs bound.limit ≤ 4 * 10 ^ 15) c.loop-i.bounds c.range_bound.result before.limits (rw c.range_bound.ensures (omega arith));
      size = omega (arith, length_push c.loop-i.bounds c.range_bound.result, before.size);
    })
