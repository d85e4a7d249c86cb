use Rattle.rule_file.proofs.Facts.{price_held, range_price, range_min, range_max, range_from, range_to, units_held, ordered_held, period_held, moment_from_units}
use Rattle.rule_file.proofs.typed.range_from.Goals as goal

pub invariant_of-result : goal.invariant_of-result
invariant_of-result c =
    let min = range_min c.args.entries.now c.requires.fit in
    let max = range_max c.args.entries.now c.requires.fit in
    record {
      least = units_held _ _ c.number.ensures min;
      most = units_held _ _ c.number-2.ensures max;
      ordered = ordered_held _ _ _ _ c.number.ensures c.number-2.ensures (moment_from_units _ min) (moment_from_units _ max) c.requires.values;
      period = period_held _ _ _ _ c.number-3.ensures c.number-4.ensures (range_from c.args.entries.now c.requires.fit) (range_to c.args.entries.now c.requires.fit) c.requires.times;
      price_most = price_held _ _ c.small_number.ensures (range_price c.args.entries.now c.requires.fit);
    }
