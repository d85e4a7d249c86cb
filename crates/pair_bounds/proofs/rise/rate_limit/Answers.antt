use Rattle.std.specs.Int.{w64}
use Rattle.std.proofs.lemmas.Int.{to_z-of_z}
use Rattle.pair_bounds.proofs.Limits.{up_is, down_is}
use Rattle.pair_bounds.proofs.rise.rate_limit.Goals as goal

pub returns-in-Up : goal.returns-in-Up
returns-in-Up c = up_is c.args.min c.args.max c.args.d c.args.dt _ c.floor_rate.result c.args.side c.requires.max.limited.per_least (to_z-of_z w64 c.args.dt c.ranges.dt) c.floor_rate.ensures.floor c.floor_rate.ensures.small c.in-Up.is

pub returns-in-Down : goal.returns-in-Down
returns-in-Down c = down_is c.args.min c.args.max c.args.d c.args.dt _ c.ceil_rate.result c.opposite.result c.args.side c.requires.min.limited.per_least (to_z-of_z w64 c.args.dt c.ranges.dt) c.ceil_rate.ensures.ceil c.ceil_rate.ensures.small c.opposite.ensures c.in-Down.is
