use Rattle.std.proofs.Common.{FitsSigned, to_z, of_z, refl, sym, rules}
use Rattle.std.specs.Int.{w64}
use Rattle.std.proofs.lemmas.Int.{to_z-of_z}
use Rattle.fix_point.specs.RateLimits.{RateLimits}
use Rattle.fix_point.proofs.RateLimits.{stored_alike, same_steps, least_small, greatest_small, stored_steps}
use Rattle.fix_point.proofs.steps.Steps.step.Goals as goal

pub returns-then-dt-self-clause-steps : goal.returns-then-dt-self-clause-steps
returns-then-dt-self-clause-steps c =
    let fits : FitsSigned w64 c.self.inside.dt = search rules in
    same_steps _ c.args.self.now c.self.inside.dt c.args.dt c.self.inside.last.least c.self.inside.last.greatest c.self.view_is
    (stored_alike c.args.dt c.self.inside.dt c.ranges.dt fits c.if-dt-self.true) c.self.invariant

pub returns-then-dt-self-clause-least_small : goal.returns-then-dt-self-clause-least_small
returns-then-dt-self-clause-least_small c =
    least_small c.args.self.now c.args.dt c.self.inside.last.least c.self.inside.last.greatest c.requires (returns-then-dt-self-clause-steps c)

pub returns-then-dt-self-clause-greatest_small : goal.returns-then-dt-self-clause-greatest_small
returns-then-dt-self-clause-greatest_small c =
    greatest_small c.args.self.now c.args.dt c.self.inside.last.least c.self.inside.last.greatest c.requires (returns-then-dt-self-clause-steps c)

pub invariant_of-self : goal.invariant_of-self
invariant_of-self c =
    let limits : RateLimits = record { min = c.self.inside.lower; max = c.self.inside.upper; decimals = c.self.inside.d } in
    same_steps limits limits c.args.dt (to_z w64 (of_z w64 c.args.dt)) _ _ refl (sym (to_z-of_z w64 c.args.dt c.ranges.dt))
    (stored_steps limits c.args.dt c.ceil_rate.result c.floor_rate.result c.ranges.dt c.ceil_rate.ensures.small c.floor_rate.ensures.small c.ceil_rate.ensures.ceil c.floor_rate.ensures.floor)

pub returns-clause-steps : goal.returns-clause-steps
returns-clause-steps c =
    let limits : RateLimits = record { min = c.self.inside.lower; max = c.self.inside.upper; decimals = c.self.inside.d } in
    same_steps limits c.args.self.now c.args.dt c.args.dt _ _ c.self.view_is refl
    (stored_steps limits c.args.dt c.ceil_rate.result c.floor_rate.result c.ranges.dt c.ceil_rate.ensures.small c.floor_rate.ensures.small c.ceil_rate.ensures.ceil c.floor_rate.ensures.floor)
