use Rattle.std.proofs.Common.{◌≡◌, false, take}
use Rattle.record_cut.specs.Row.{holds_special}
use Rattle.record_cut.proofs.bytes.before_special.Given as goal

abbrev pub invariant-loop-i : goal.invariant-loop-i
invariant-loop-i l = holds_special l.sep (take l.i l.bytes) ≡ false
