use Rattle.bound_maker.proofs.Found.{got}
use Rattle.bound_maker.proofs.rule.sensor_col.Goals as goal

pub returns : goal.returns
returns c = let e = got c.args.header.now.sensor_cols c.args.place 0 in cc
