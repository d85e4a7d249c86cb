use Rattle.std.proofs.Common.{arith}
use Rattle.record_cut.proofs.Runs.{no_quote-more}
use Rattle.record_cut.proofs.bytes.before_quote.Goals as goal

pub loop-i-preserved : goal.loop-i-preserved
loop-i-preserved c = no_quote-more c.args.bytes.now c.loop-i.i (omega arith) c.loop-i.invariant c.if-byte-eq-QUOTE.false
