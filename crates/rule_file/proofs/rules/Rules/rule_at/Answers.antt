use Rattle.std.proofs.Common.{◌-◌, arith, rules}
use Rattle.rule_file.specs.Numbers.{speed, swing, drift, range, trust, weight}
use Rattle.rule_file.proofs.Numbered.{speed_at, swing_at, drift_at, range_at, trust_at, weight_at, is_numbered, last_rule}
use Rattle.rule_file.proofs.rules.Rules.rule_at.Goals as goal

pub returns-in-Ok : goal.returns-in-Ok
returns-in-Ok c =
    is_numbered c.args.self.now speed c.args.self.now.speeds c.args.number (c.args.number - 1) (c.args.number - 1) c.in-Ok.rule.now (omega arith)
    (speed_at c.args.self.now (c.args.number - 1) (c.args.number - 1) (omega arith)) c.in-Ok.ensures

pub returns-in-Ok-at : goal.returns-in-Ok-at
returns-in-Ok-at c =
    is_numbered c.args.self.now swing c.args.self.now.swings c.args.number (c.args.number - 1) c.in-Err.past c.in-Ok-at.rule.now (omega arith)
    (swing_at c.args.self.now (c.args.number - 1) c.in-Err.past (omega (arith, c.in-Err.ensures))) c.in-Ok-at.ensures

pub returns-in-Ok-at-2 : goal.returns-in-Ok-at-2
returns-in-Ok-at-2 c =
    is_numbered c.args.self.now drift c.args.self.now.drifts c.args.number (c.args.number - 1) c.in-Err-at.past c.in-Ok-at-2.rule.now (omega arith)
    (drift_at c.args.self.now (c.args.number - 1) c.in-Err-at.past (omega (arith, c.in-Err.ensures, c.in-Err-at.ensures))) c.in-Ok-at-2.ensures

pub returns-in-Ok-at-3 : goal.returns-in-Ok-at-3
returns-in-Ok-at-3 c =
    is_numbered c.args.self.now range c.args.self.now.ranges c.args.number (c.args.number - 1) c.in-Err-at-2.past c.in-Ok-at-3.rule.now (omega arith)
    (range_at c.args.self.now (c.args.number - 1) c.in-Err-at-2.past (omega (arith, c.in-Err.ensures, c.in-Err-at.ensures, c.in-Err-at-2.ensures))) c.in-Ok-at-3.ensures

pub returns-in-Ok-at-4 : goal.returns-in-Ok-at-4
returns-in-Ok-at-4 c =
    is_numbered c.args.self.now trust c.args.self.now.trusts c.args.number (c.args.number - 1) c.in-Err-at-3.past c.in-Ok-at-4.rule.now (omega arith)
    (trust_at c.args.self.now (c.args.number - 1) c.in-Err-at-3.past (omega (arith, c.in-Err.ensures, c.in-Err-at.ensures, c.in-Err-at-2.ensures, c.in-Err-at-3.ensures))) c.in-Ok-at-4.ensures

pub returns-in-Ok-at-5 : goal.returns-in-Ok-at-5
returns-in-Ok-at-5 c =
    is_numbered c.args.self.now weight c.args.self.now.weights c.args.number (c.args.number - 1) c.in-Err-at-4.past c.in-Ok-at-5.rule.now (omega arith)
    (weight_at c.args.self.now (c.args.number - 1) c.in-Err-at-4.past (omega (arith, c.in-Err.ensures, c.in-Err-at.ensures, c.in-Err-at-2.ensures, c.in-Err-at-3.ensures, c.in-Err-at-4.ensures))) c.in-Ok-at-5.ensures

pub returns-in-Err-at-5 : goal.returns-in-Err-at-5
returns-in-Err-at-5 c =
    last_rule c.args.self.now c.args.number (c.args.number - 1) c.in-Err-at-5.past c.get.result _ (omega arith)
    (omega (arith, c.in-Err.ensures, c.in-Err-at.ensures, c.in-Err-at-2.ensures, c.in-Err-at-3.ensures, c.in-Err-at-4.ensures, c.in-Err-at-5.ensures)) c.get.ensures (search rules)
