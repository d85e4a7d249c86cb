use Rattle.std.proofs.Common.{◌+◌, ◌-◌, ◌/◌, ◌%◌, sym, arith}
use Rattle.rule_file.specs.Numbers.{seen_rule}
use Rattle.rule_file.proofs.Numbered.{sensor_found, sensor_pair, sensor_beyond}
use Rattle.rule_file.proofs.rules.Rules.sensor.Goals as goal

pub returns-then-i-single : goal.returns-then-i-single
returns-then-i-single c =
    sensor_found c.args.self.now c.args.i (c.args.i + 1) c.single_count-single.result (seen_rule c.in_ok-rule.rule) _ c.if-i-single.true c.single_count-single.ensures (omega arith)
    c.in_ok-rule.ensures c.first_sensor.ensures

pub returns-in_default : goal.returns-in_default
returns-in_default c =
    sym (sensor_beyond c.args.self.now c.args.i ((c.args.i - c.single_count-single.result) / 2) (omega (arith, c.single_count-single.ensures)) (sym c.in_default.ensures))

pub returns : goal.returns
returns c =
    rw c.sensor_between.ensures
    (sym (sensor_pair c.args.self.now c.args.i _ ((c.args.i - c.single_count-single.result) / 2) ((c.args.i - c.single_count-single.result) % 2) c.in-Some.rule.now
    (omega (arith, c.single_count-single.ensures)) (omega arith) (omega (arith, c.single_count-single.ensures)) (sym c.in-Some.ensures)))
