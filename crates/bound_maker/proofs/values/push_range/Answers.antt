use Rattle.bound_maker.proofs.InTime.{in_time_more}
use Rattle.bound_maker.proofs.values.push_range.Goals as goal

pub loop-reading-preserved : goal.loop-reading-preserved
loop-reading-preserved c =
    let rule = c.args.rule.now in
    in_time_more c.args.number c.args.col rule.from rule.to (λ value. rule.min) (λ value. rule.max) c.args.readings.now c.loop-reading.reading-index _ c.limits_of_range-limits.result c.args.bounds.now c.loop-reading.bounds c.push_in_time.new.bounds c.loop-reading-test.true
    (record { from_is = c.limits_of_range-limits.ensures.from; to_is = c.limits_of_range-limits.ensures.to; least_is = c.limits_of_range-limits.ensures.least; most_is = c.limits_of_range-limits.ensures.most })
    c.loop-reading.invariant c.in_ok-push_in_time.ensures
