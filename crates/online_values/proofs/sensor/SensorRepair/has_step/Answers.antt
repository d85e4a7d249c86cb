use Rattle.std.proofs.Common.{ℤ, FitsSigned, rules, sym, subst}
use Rattle.std.specs.Int.{w64}
use Rattle.fix_point.specs.RateLimits.{RateLimits, AreSteps, AreWithinReach}
use Rattle.online_values.specs.Results.{Speed}
use Rattle.online_values.specs.Sensor.{HasStep, SensorView}
use Rattle.std.proofs.Common.{◌≡◌, true, ◌↔◌, ◌-ℤ◌, ◌≤ℤ◌, ap, to_z, of_z}
use Rattle.online_values.proofs.Repair.{has_step_by, speed_in, steps_read, time_read, time_reach}
use Rattle.online_values.proofs.Steps.{HaveTimes}
use Rattle.online_values.proofs.sensor.SensorRepair.has_step.Goals as goal

pub step-requires : goal.step-requires
step-requires c =
    let span : FitsSigned w64 c.self.inside.span = search rules in
    let S : ℤ → Type 0 = λ t. AreWithinReach c.self.inside.window.rates t in
    let reach = subst S (sym c.self.invariant.span_is) c.self.invariant.reach in
    let R : RateLimits → Type 0 = λ rates. AreWithinReach rates (to_z w64 (of_z w64 c.in-Some.dt)) in
    subst R (sym c.self.invariant.steps_are) (time_reach c.self.inside.window.rates c.self.inside.span c.args.before c.args.now c.in-Some.dt span c.ranges.before c.ranges.now reach c.in-Some.ensures)

pub returns-in-Some-clause-step : goal.returns-in-Some-clause-step
returns-in-Some-clause-step c =
    let span : FitsSigned w64 c.self.inside.span = search rules in
    let S : ℤ → Type 0 = λ t. AreWithinReach c.self.inside.window.rates t in
    let reach = subst S (sym c.self.invariant.span_is) c.self.invariant.reach in
    let times : HaveTimes (speed_in c.self.inside.window) = record { min = c.self.invariant.reach.min.limited.per_least; max = c.self.invariant.reach.max.limited.per_least } in
    let A : RateLimits → Type 0 = λ rates. AreSteps rates (to_z w64 (of_z w64 c.in-Some.dt)) c.step.result.least c.step.result.greatest in
    let steps = subst A c.self.invariant.steps_are c.step.ensures.steps in
    let are = steps_read (speed_in c.self.inside.window) c.self.inside.span c.args.before c.args.now c.in-Some.dt c.step.result.least c.step.result.greatest times span c.ranges.before c.ranges.now reach c.in-Some.ensures steps in
    let time = time_read c.self.inside.span c.args.before c.args.now c.in-Some.dt span c.ranges.before c.ranges.now c.in-Some.ensures in
    let W : ℤ → Type 0 = λ t. t ≤ℤ c.self.inside.span in
    let T : ℤ → Type 0 = λ t. (c.args.now -ℤ c.args.before) ≤ℤ t in
    let P : Speed → Type 0 = λ speed. (c.is_a_step.result ≡ true) ↔ HasStep speed c.args.before c.args.now in
    subst P (ap (λ (v : SensorView). v.speed) c.self.view_is)
    (has_step_by (speed_in c.self.inside.window) c.args.before c.args.now c.step.result.least c.step.result.greatest c.is_a_step.result are
    (subst T c.self.invariant.span_is (subst W time.0 time.1)) c.is_a_step.ensures)
