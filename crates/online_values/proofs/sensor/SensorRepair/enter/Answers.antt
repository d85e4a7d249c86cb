use Rattle.online_values.proofs.Repair.{entered}
use Rattle.online_values.proofs.sensor.SensorRepair.enter.Goals as goal

pub returns : goal.returns
returns c = entered c.self.inside.window c.insert.new.self c.self.inside.last c.args.key c.args.self.now c.self.view_is c.insert.ensures.kept c.insert.ensures.added c.requires.later
