use Rattle.std.proofs.Common.{arith}
use Rattle.rule_file.proofs.Numbered.{sensors_length}
use Rattle.rule_file.proofs.rules.Rules.sensor_count.Goals as goal

pub returns : goal.returns
returns c = omega (arith, sensors_length c.args.self.now, c.single_count.ensures, c.len.ensures)
