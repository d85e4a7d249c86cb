use Rattle.std.proofs.Common.{◌-◌, length}
use Rattle.online_repair.specs.Tracks.{IsLike, IsLooking}
use Rattle.online_repair.proofs.track.look.Given as goal

abbrev pub invariant-rows : goal.invariant-rows
invariant-rows l = record { looking : IsLooking l.col l.fn.ticks l.track l.held.items; like : IsLike l.fn.track l.track }

abbrev pub decreases-rows : goal.decreases-rows
decreases-rows l = length l.held.items - l.track.next
