use Rattle.path_flow.proofs.Carrying.{few_covered}
use Rattle.path_flow.proofs.carry.carry_in_rounds.Goals as goal

pub units_at_readings-left-requires-clause-few : goal.units_at_readings-left-requires-clause-few
units_at_readings-left-requires-clause-few c = few_covered c.args.purse.now c.args.net.now c.requires.network c.requires.covered

pub units_at_readings-left-requires-in-loop-round-clause-few : goal.units_at_readings-left-requires-in-loop-round-clause-few
units_at_readings-left-requires-in-loop-round-clause-few c = few_covered c.carry_both_ways.new.purse c.carry_both_ways.new.net c.carry_both_ways.ensures.network c.carry_both_ways.ensures.covered
