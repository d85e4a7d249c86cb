use Rattle.std.proofs.Common.{ℤ, FitsSigned, rules, sym, subst}
use Rattle.std.specs.Int.{w64}
use Rattle.fix_point.specs.Rates.{IsWithinReach}
use Rattle.order_window.proofs.Candidates.{ceil_candidate, ticks_between, value_before}
use Rattle.order_window.proofs.selection.under_ceil.Goals as goal

pub ceil_rate-step-requires : goal.ceil_rate-step-requires
ceil_rate-step-requires c =
    let own : FitsSigned w64 c.args.own.ticks = search rules in
    let key : FitsSigned w64 c.args.key.ticks = search rules in
    let R : ℤ → Type 0 = λ dt. IsWithinReach c.args.rate c.args.d dt in
    subst R (sym (ticks_between c.args.rate c.args.d c.args.own c.args.key own key c.requires.reach).same) c.requires.reach

pub returns : goal.returns
returns c =
    let own : FitsSigned w64 c.args.own.ticks = search rules in
    let key : FitsSigned w64 c.args.key.ticks = search rules in
    let value : FitsSigned w64 c.args.key.value = search rules in
    ceil_candidate c.args.rate c.args.d c.args.own c.args.key _ c.ceil_rate-step.result _ c.requires.reach.limited.per_least
    (ticks_between c.args.rate c.args.d c.args.own c.args.key own key c.requires.reach).same
    c.ceil_rate-step.ensures.ceil
    (value_before c.args.key.value c.ceil_rate-step.result value c.requires.units c.ceil_rate-step.ensures.small).same
