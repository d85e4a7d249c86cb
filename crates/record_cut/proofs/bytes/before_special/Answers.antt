use Rattle.std.proofs.Common.{◌∙◌, sym, arith}
use Rattle.record_cut.proofs.Runs.{no_special-more, special-at, special-none}
use Rattle.record_cut.proofs.bytes.before_special.Goals as goal

pub loop-i-preserved : goal.loop-i-preserved
loop-i-preserved c = no_special-more c.args.sep c.args.bytes.now c.loop-i.i (omega arith) c.loop-i.invariant (sym c.is_special.ensures ∙ c.if-is_special.false)

pub returns-then-is_special-clause-some : goal.returns-then-is_special-clause-some
returns-then-is_special-clause-some c = special-at c.args.sep c.args.bytes.now c.loop-i.i (omega arith) (sym c.is_special.ensures ∙ c.if-is_special.true)

pub returns-clause-some : goal.returns-clause-some
returns-clause-some c = special-none c.args.sep c.args.bytes.now c.loop-i.i _ (omega arith) (omega arith) c.loop-i.invariant
