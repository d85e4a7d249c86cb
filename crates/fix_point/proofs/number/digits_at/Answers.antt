use Rattle.std.proofs.Common.{arith}
use Rattle.fix_point.proofs.Run.{past_at, IsCount, count_at_end, count_at_other}
use Rattle.fix_point.proofs.number.digits_at.Goals as goal
use Rattle.fix_point.proofs.number.digits_at.Goals.{in_default, in-len1-up+then-not-is_ascii_digit}

pub loop-rest-preserved : goal.loop-rest-preserved
loop-rest-preserved c = past_at c.args.bytes.now c.args.before c.loop-rest.rest.now c.loop-rest.value c.loop-rest.invariant c.in-len1-up.len_at_least (cc) c.if-value-lt-FULL.false

pub overflow_sub-count : goal.overflow_sub-count
overflow_sub-count c =
    let count : IsCount c.args.bytes.now c.loop-rest.rest.now =
    elim c.if-rest-lt1.branch as (λ _. IsCount c.args.bytes.now c.loop-rest.rest.now) [
      | in_default w ↦ count_at_end c.args.bytes.now c.args.before c.loop-rest.rest.now c.loop-rest.value c.loop-rest.invariant (omega arith)
      | in-len1-up+then-not-is_ascii_digit w ↦ count_at_other c.args.bytes.now c.args.before c.loop-rest.rest.now c.loop-rest.value c.loop-rest.invariant w.in-len1-up.len_at_least (cc)
    ]
    in
    count.inside

pub returns-clause-count : goal.returns-clause-count
returns-clause-count c =
    let count : IsCount c.args.bytes.now c.loop-rest.rest.now =
    elim c.if-rest-lt1.branch as (λ _. IsCount c.args.bytes.now c.loop-rest.rest.now) [
      | in_default w ↦ count_at_end c.args.bytes.now c.args.before c.loop-rest.rest.now c.loop-rest.value c.loop-rest.invariant (omega arith)
      | in-len1-up+then-not-is_ascii_digit w ↦ count_at_other c.args.bytes.now c.args.before c.loop-rest.rest.now c.loop-rest.value c.loop-rest.invariant w.in-len1-up.len_at_least (cc)
    ]
    in
    count.count
