use Rattle.std.proofs.Common.{◌*◌, ◌^◌, ◌≤◌, ℤ, pos, length, unsigned_abs, replicate, arith}
use Rattle.std.proofs.lemmas.Int.{ints}
use Rattle.std.proofs.lemmas.List.Elements.{All-set, All-replicate}
use Rattle.tests_solver.proofs.neg_cycle_tests.large.settled_from.Goals as goal

pub settle-outcome-requires-clause-starts : goal.settle-outcome-requires-clause-starts
settle-outcome-requires-clause-starts g c =
    let far : unsigned_abs (pos 1000000000) ≤ 4 * 10 ^ 15 = omega (arith, ints) in
    let near : unsigned_abs (pos 0) ≤ 4 * 10 ^ 15 = omega (arith, ints) in
    let IsSmall = λ (x : ℤ). unsigned_abs x ≤ 4 * 10 ^ 15 in
    let all = All-replicate IsSmall (length c.in_ok-room.room.distances) (pos 1000000000) far in
    rw (c.start.ensures.distances, c.start_all.ensures.distances)
    (All-set IsSmall (replicate (length c.in_ok-room.room.distances) (pos 1000000000)) c.args.near (pos 0) near all)
