use Rattle.std.specs.Int.{w64}
use Rattle.std.proofs.lemmas.Int.{to_z-of_z}
use Rattle.pair_bounds.proofs.Limits.{up_is, down_is}
use Rattle.bound_maker.proofs.pairs.step_limit.Goals as goal

pub returns-in-Up-clause-limit : goal.returns-in-Up-clause-limit
returns-in-Up-clause-limit c =
    let steps = c.args.steps.now in
    up_is steps.min steps.max steps.decimals c.args.dt _ c.step-step.result.greatest c.args.side c.requires.max.limited.per_least (to_z-of_z w64 c.args.dt c.ranges.dt) c.step-step.ensures.steps.floor c.step-step.ensures.greatest_small c.in-Up.is

pub returns-in-Down-clause-limit : goal.returns-in-Down-clause-limit
returns-in-Down-clause-limit c =
    let steps = c.args.steps.now in
    down_is steps.min steps.max steps.decimals c.args.dt _ c.step-step.result.least c.opposite.result c.args.side c.requires.min.limited.per_least (to_z-of_z w64 c.args.dt c.ranges.dt) c.step-step.ensures.steps.ceil c.step-step.ensures.least_small c.opposite.ensures c.in-Down.is
