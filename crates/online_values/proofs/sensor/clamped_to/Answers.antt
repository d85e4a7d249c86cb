use Rattle.std.proofs.Common.{FitsSigned, rules}
use Rattle.std.specs.Int.{w64}
use Rattle.online_values.proofs.Repair.{clamp_read, sum_of}
use Rattle.online_values.proofs.sensor.clamped_to.Goals as goal

pub overflow_add-low : goal.overflow_add-low
overflow_add-low c = (sum_of c.args.last c.args.step.least c.ranges.last c.requires.last c.requires.least).fits

pub overflow_add-high : goal.overflow_add-high
overflow_add-high c = (sum_of c.args.last c.args.step.greatest c.ranges.last c.requires.last c.requires.greatest).fits

pub returns : goal.returns
returns c =
    let mn : FitsSigned w64 c.min.result = search rules in
    let mx : FitsSigned w64 c.max.result = search rules in
    clamp_read _ _ c.args.number c.min.result c.max.result _ _
    (sum_of c.args.last c.args.step.least c.ranges.last c.requires.last c.requires.least).same
    (sum_of c.args.last c.args.step.greatest c.ranges.last c.requires.last c.requires.greatest).same
    c.ranges.number mn mx c.min.ensures.value c.max.ensures.value
