use Rattle.std.proofs.Common.{ℤ, FitsSigned, rules, sym, subst}
use Rattle.std.specs.Int.{w64}
use Rattle.fix_point.specs.RateLimits.{RateLimits, AreSteps, AreWithinReach}
use Rattle.std.proofs.Common.{to_z, of_z, ◌∙◌, ◌-ℤ◌, ◌≤ℤ◌, ◌<ℤ◌}
use Rattle.std.proofs.lemmas.Int.{to_z-of_z}
use Rattle.online_values.proofs.Repair.{beyond_read, clamped_read, result_beyond, result_first, result_within, speed_in, steps_read, time_read, time_reach, units_read}
use Rattle.online_values.proofs.Steps.{HaveTimes}
use Rattle.online_values.proofs.sensor.SensorRepair.result.Goals as goal

pub returns-in_default-clause-result : goal.returns-in_default-clause-result
returns-in_default-clause-result c =
    let times : HaveTimes (speed_in c.self.inside.window) = record { min = c.self.invariant.reach.min.limited.per_least; max = c.self.invariant.reach.max.limited.per_least } in
    let m : FitsSigned w64 c.median-median.result = search rules in
    to_z-of_z w64 c.median-median.result m ∙ result_first c.self.inside.window c.self.inside.last c.args.own c.median-median.result c.args.self.now c.self.view_is c.in_default.is times c.median-median.ensures

pub step-requires : goal.step-requires
step-requires c =
    let span : FitsSigned w64 c.self.inside.span = search rules in
    let before : FitsSigned w64 c.in-Some.last.ticks = search rules in
    let now : FitsSigned w64 c.args.own.ticks = search rules in
    let S : ℤ → Type 0 = λ t. AreWithinReach c.self.inside.window.rates t in
    let reach = subst S (sym c.self.invariant.span_is) c.self.invariant.reach in
    let R : RateLimits → Type 0 = λ rates. AreWithinReach rates (to_z w64 (of_z w64 c.in-Some-within.dt)) in
    subst R (sym c.self.invariant.steps_are) (time_reach c.self.inside.window.rates c.self.inside.span c.in-Some.last.ticks c.args.own.ticks c.in-Some-within.dt span before now reach c.in-Some-within.ensures)

pub clamped_to-requires-clause-last : goal.clamped_to-requires-clause-last
clamped_to-requires-clause-last c =
    let value : FitsSigned w64 c.in-Some.last.value = search rules in
    units_read c.in-Some.last.value value (c.self.invariant.small c.in-Some.last c.in-Some.is)

pub returns-in-Some-within-clause-result : goal.returns-in-Some-within-clause-result
returns-in-Some-within-clause-result c =
    let span : FitsSigned w64 c.self.inside.span = search rules in
    let before : FitsSigned w64 c.in-Some.last.ticks = search rules in
    let now : FitsSigned w64 c.args.own.ticks = search rules in
    let value : FitsSigned w64 c.in-Some.last.value = search rules in
    let m : FitsSigned w64 c.median-median.result = search rules in
    let v : FitsSigned w64 c.clamped_to.result = search rules in
    let S : ℤ → Type 0 = λ t. AreWithinReach c.self.inside.window.rates t in
    let reach = subst S (sym c.self.invariant.span_is) c.self.invariant.reach in
    let times : HaveTimes (speed_in c.self.inside.window) = record { min = c.self.invariant.reach.min.limited.per_least; max = c.self.invariant.reach.max.limited.per_least } in
    let A : RateLimits → Type 0 = λ rates. AreSteps rates (to_z w64 (of_z w64 c.in-Some-within.dt)) c.step.result.least c.step.result.greatest in
    let steps = subst A c.self.invariant.steps_are c.step.ensures.steps in
    let are = steps_read (speed_in c.self.inside.window) c.self.inside.span c.in-Some.last.ticks c.args.own.ticks c.in-Some-within.dt c.step.result.least c.step.result.greatest times span before now reach c.in-Some-within.ensures steps in
    let time = time_read c.self.inside.span c.in-Some.last.ticks c.args.own.ticks c.in-Some-within.dt span before now c.in-Some-within.ensures in
    let W : ℤ → Type 0 = λ t. t ≤ℤ c.self.inside.span in
    let T : ℤ → Type 0 = λ t. (c.args.own.ticks -ℤ c.in-Some.last.ticks) ≤ℤ t in
    result_within c.self.inside.window c.self.inside.last c.args.own c.in-Some.last c.median-median.result c.step.result.least c.step.result.greatest _ c.args.self.now c.self.view_is c.in-Some.is times c.median-median.ensures
    (subst T c.self.invariant.span_is (subst W time.0 time.1)) are
    (clamped_read c.in-Some.last.value c.step.result.least c.step.result.greatest c.median-median.result c.clamped_to.result value m v c.clamped_to.ensures)

pub returns-in-None-clause-result : goal.returns-in-None-clause-result
returns-in-None-clause-result c =
    let span : FitsSigned w64 c.self.inside.span = search rules in
    let before : FitsSigned w64 c.in-Some.last.ticks = search rules in
    let now : FitsSigned w64 c.args.own.ticks = search rules in
    let m : FitsSigned w64 c.median-median.result = search rules in
    let times : HaveTimes (speed_in c.self.inside.window) = record { min = c.self.invariant.reach.min.limited.per_least; max = c.self.invariant.reach.max.limited.per_least } in
    let B : ℤ → Type 0 = λ t. t <ℤ (c.args.own.ticks -ℤ c.in-Some.last.ticks) in
    to_z-of_z w64 c.median-median.result m
    ∙ result_beyond c.self.inside.window c.self.inside.last c.args.own c.in-Some.last c.median-median.result c.args.self.now c.self.view_is c.in-Some.is times c.median-median.ensures
    (subst B c.self.invariant.span_is (beyond_read c.self.inside.span c.in-Some.last.ticks c.args.own.ticks span before now c.in-None.ensures))
