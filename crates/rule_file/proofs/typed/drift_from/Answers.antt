use Rattle.rule_file.proofs.Facts.{price_held, drift_price, are_rates, drift_rates, drift_over, drift_window, span_held, ordered_held, moment_from_span}
use Rattle.rule_file.proofs.typed.drift_from.Goals as goal

pub invariant_of-result : goal.invariant_of-result
invariant_of-result c =
    let over = drift_over c.args.entries.now c.requires.fit in
    let window = drift_window c.args.entries.now c.requires.fit in
    record {
      rates = are_rates c.args.entries.now _ _ (drift_rates c.args.entries.now c.requires.fit) c.rate_from.ensures c.rate_from-2.ensures c.requires.rates;
      least = (span_held _ _ c.number.ensures over).0;
      ordered = ordered_held _ _ _ _ c.number.ensures c.number-2.ensures (moment_from_span _ over) (moment_from_span _ window) c.requires.times;
      span = span_held _ _ c.number-2.ensures window;
      price_most = price_held _ _ c.small_number.ensures (drift_price c.args.entries.now c.requires.fit);
    }
