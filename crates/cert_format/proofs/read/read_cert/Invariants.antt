use Rattle.std.proofs.Common.{◌≡◌, ◌+◌, length}
use Rattle.cert_format.proofs.Drafts.{so_far}
use Rattle.cert_format.proofs.Refusals.{IsReadTo}
use Rattle.cert_format.proofs.read.read_cert.Given as goal

abbrev pub invariant-loop-line : goal.invariant-loop-line
invariant-loop-line l = IsReadTo l.bytes l.draft l.rest × (l.number ≡ length (so_far l.draft) + 1)

abbrev pub decreases-loop-line : goal.decreases-loop-line
decreases-loop-line l = length l.rest
