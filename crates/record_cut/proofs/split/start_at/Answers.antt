use Rattle.std.proofs.Common.{sym, arith}
use Rattle.record_cut.proofs.Splits.{starts_at-zero, starts_at-before}
use Rattle.record_cut.proofs.split.start_at.Goals as goal

pub returns-then-i-eq0 : goal.returns-then-i-eq0
returns-then-i-eq0 c = rw c.if-i-eq0.true (sym (starts_at-zero 0 c.args.ends.now))

pub returns-else-i-eq0 : goal.returns-else-i-eq0
returns-else-i-eq0 c = sym (starts_at-before 0 c.args.ends.now c.args.i c.if-i-eq0.false (omega arith))
