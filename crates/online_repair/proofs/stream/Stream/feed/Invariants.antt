use Rattle.std.proofs.Common.{length}
use Rattle.online_repair.proofs.Left.{AreLeft}
use Rattle.online_repair.proofs.stream.Stream.feed.Given as goal

abbrev pub invariant-loop-rest : goal.invariant-loop-rest
invariant-loop-rest l = AreLeft l.fn.self l.self l.bytes l.rest l.fn.out.items l.out.items

abbrev pub decreases-loop-rest : goal.decreases-loop-rest
decreases-loop-rest l = length l.rest
