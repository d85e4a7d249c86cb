-- Only one list is the greatest, and only one the least.
use Rattle.std.proofs.Common.{◌≡◌, ℤ, pos, List, arith}
use Rattle.std.proofs.lemmas.Int.{ints}
use Rattle.std.proofs.lemmas.List.{ext_get_or}
use Rattle.neg_cycle.specs.Distances.{AreAtMost, GreatestIsOne, LeastIsOne}

-- lists, each at most the other, are one list
same : (ones twos : List ℤ) → AreAtMost ones twos → AreAtMost twos ones → ones ≡ twos
same ones twos low high = ext_get_or (pos 0) ones twos low.nodes (λ i l. omega (arith, ints, low.each i (omega (arith, low.nodes)), high.each i l))

pub greatest : GreatestIsOne
greatest arcs starts distances others one two = same distances others (two.greatest distances one.below one.respects) (one.greatest others two.below two.respects)

pub least : LeastIsOne
least arcs starts distances others one two = same distances others (one.least others two.above two.respects) (two.least distances one.above one.respects)
