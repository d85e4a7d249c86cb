use Rattle.std.proofs.Common.{FitsSigned, ap, arith}
use Rattle.std.specs.Int.{w64}
use Rattle.std.proofs.lemmas.Int.{ints, to_z-of_z}
use Rattle.rule_file.specs.Numbers.{seen_rule}
use Rattle.bound_maker.proofs.KindCounts.{between_counted, drift_counted, range_counted, speed_counted, swing_counted, trust_counted, weight_counted}
use Rattle.bound_maker.proofs.count.count_spoken.Goals as goal

pub returns-in-Range : goal.returns-in-Range
returns-in-Range c = λ d.
    let ruled = c.args.ruled.now in
    let rule = c.in-Range.rule.now in
    let from : FitsSigned w64 rule.from = omega (arith, ints, rule.period.0.0, rule.period.0.1) in
    let to : FitsSigned w64 rule.to = omega (arith, ints, rule.period.1.0, rule.period.1.1) in
    range_counted d c.args.rows.now ruled.number ruled.col ruled.second 4000001 c.capped.result (seen_rule ruled.rule) rule _ _ c.args.readings.now c.count_in_time.result (ap seen_rule c.in-Range.is) (to_z-of_z w64 rule.from from) (to_z-of_z w64 rule.to to) c.requires.readings c.count_in_time.ensures c.capped.ensures

pub returns-in-Trust : goal.returns-in-Trust
returns-in-Trust c = λ d.
    let ruled = c.args.ruled.now in
    let rule = c.in-Trust.rule.now in
    let from : FitsSigned w64 rule.from = omega (arith, ints, rule.period.0.0, rule.period.0.1) in
    let to : FitsSigned w64 rule.to = omega (arith, ints, rule.period.1.0, rule.period.1.1) in
    trust_counted d c.args.rows.now ruled.number ruled.col ruled.second 4000001 c.capped-in-Trust.result (seen_rule ruled.rule) rule _ _ c.args.readings.now c.count_in_time-in-Trust.result (ap seen_rule c.in-Trust.is) (to_z-of_z w64 rule.from from) (to_z-of_z w64 rule.to to) c.requires.readings c.count_in_time-in-Trust.ensures c.capped-in-Trust.ensures

pub returns-in-Between : goal.returns-in-Between
returns-in-Between c = λ d.
    let ruled = c.args.ruled.now in
    between_counted d c.args.rows.now ruled.number ruled.col ruled.second 4000001 c.capped-in-Between.result (seen_rule ruled.rule) c.in-Between.field-0.now c.count_rows.result (ap seen_rule c.in-Between.is) c.count_rows.ensures c.capped-in-Between.ensures

pub returns-in-Weight : goal.returns-in-Weight
returns-in-Weight c = λ d.
    let ruled = c.args.ruled.now in
    weight_counted d c.args.rows.now ruled.number ruled.col ruled.second 4000001 0 (seen_rule ruled.rule) c.in-Weight.field-0.now (ap seen_rule c.in-Weight.is)

pub returns-in-Speed : goal.returns-in-Speed
returns-in-Speed c = λ d.
    let ruled = c.args.ruled.now in
    speed_counted d c.args.rows.now ruled.number ruled.col ruled.second 4000001 c.count_of_pairs.result (seen_rule ruled.rule) c.in-Speed.field-0.now c.args.readings.now (ap seen_rule c.in-Speed.is) c.requires.readings (c.count_of_pairs.ensures ruled.number d ruled.col)

pub returns-in-Swing : goal.returns-in-Swing
returns-in-Swing c = λ d.
    let ruled = c.args.ruled.now in
    swing_counted d c.args.rows.now ruled.number ruled.col ruled.second 4000001 c.count_of_pairs-in-Swing.result (seen_rule ruled.rule) c.in-Swing.field-0.now c.args.readings.now (ap seen_rule c.in-Swing.is) c.requires.readings (c.count_of_pairs-in-Swing.ensures ruled.number d ruled.col)

pub returns-in-Drift : goal.returns-in-Drift
returns-in-Drift c = λ d.
    let ruled = c.args.ruled.now in
    drift_counted d c.args.rows.now ruled.number ruled.col ruled.second 4000001 c.count_of_pairs-in-Drift.result (seen_rule ruled.rule) c.in-Drift.field-0.now c.args.readings.now (ap seen_rule c.in-Drift.is) c.requires.readings (c.count_of_pairs-in-Drift.ensures ruled.number d ruled.col)
