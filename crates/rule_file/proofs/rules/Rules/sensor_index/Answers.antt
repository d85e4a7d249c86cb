use Rattle.std.proofs.Common.{◌-◌, arith}
use Rattle.rule_file.proofs.Numbered.{index_stands}
use Rattle.rule_file.proofs.rules.Rules.sensor_index.Goals as goal

pub returns : goal.returns
returns c =
    rw c.saturating_sub.ensures
    (index_stands c.args.self.now c.args.number (c.args.number - 1) c.single_count.result (omega arith) (omega (arith, c.count.ensures)) c.single_count.ensures)
