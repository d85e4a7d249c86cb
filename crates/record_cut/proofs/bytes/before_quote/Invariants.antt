use Rattle.std.proofs.Common.{◌≡◌, false, take}
use Rattle.record_cut.specs.Quotes.{holds_quote}
use Rattle.record_cut.proofs.bytes.before_quote.Given as goal

abbrev pub invariant-loop-i : goal.invariant-loop-i
invariant-loop-i l = holds_quote (take l.i l.bytes) ≡ false
