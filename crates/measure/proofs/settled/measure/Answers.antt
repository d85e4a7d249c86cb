use Rattle.std.proofs.Common.{◌*◌, ◌^◌, ◌≤◌, ℤ, pos, unsigned_abs, arith}
use Rattle.std.proofs.lemmas.Int.{ints}
use Rattle.std.proofs.lemmas.List.Elements.{All-replicate}
use Rattle.measure.proofs.settled.measure.Goals as goal

pub start_all-requires-clause-small : goal.start_all-requires-clause-small
start_all-requires-clause-small g c =
    let none : unsigned_abs (pos 0) ≤ 4 * 10 ^ 15 = omega (arith, ints) in
    rw c.in_ok-room.ensures (All-replicate (λ (start : ℤ). unsigned_abs start ≤ 4 * 10 ^ 15) 400000 (pos 0) none)
