use Rattle.std.proofs.Common.{◌≡◌, ◌/◌, true, false, sym, ap, ◌∙◌, rules, arith, w64, of_z, to_z}
use Rattle.std.specs.Prelude.{FitsSigned}
use Rattle.std.specs.Int.{is_positive}
use Rattle.std.proofs.lemmas.Int.{to_z-of_z}
use Rattle.bound_graph.specs.Reverses.{is_back}
use Rattle.flow_core.specs.State.{residual_of}
use Rattle.flow_core.proofs.BothWays.{residual_past, residual_there, residual_away}
use Rattle.flow_core.proofs.views.residual_arc.Goals as goal

pub returns-then-arc-arcs-clause-found : goal.returns-then-arc-arcs-clause-found
returns-then-arc-arcs-clause-found c = residual_past c.args.net.now c.args.number (omega arith)

pub returns-then-is_above_zero-clause-found : goal.returns-then-is_above_zero-clause-found
returns-then-is_above_zero-clause-found c =
    let fits : FitsSigned w64 c.residual.result = search rules in
    let residual : to_z w64 (of_z w64 c.residual.result) ≡ residual_of c.args.net.now (c.args.number / 2) (is_back c.args.number) = to_z-of_z w64 c.residual.result fits ∙ c.residual.ensures in
    let room : is_positive (residual_of c.args.net.now (c.args.number / 2) (is_back c.args.number)) ≡ true = ap is_positive (sym residual) ∙ sym c.is_above_zero.ensures ∙ c.if-is_above_zero.true in
    residual_there c.args.net.now c.args.number c.both_ways.result room c.both_ways.ensures.found

pub returns-else-is_above_zero-clause-found : goal.returns-else-is_above_zero-clause-found
returns-else-is_above_zero-clause-found c =
    let fits : FitsSigned w64 c.residual.result = search rules in
    let residual : to_z w64 (of_z w64 c.residual.result) ≡ residual_of c.args.net.now (c.args.number / 2) (is_back c.args.number) = to_z-of_z w64 c.residual.result fits ∙ c.residual.ensures in
    let full : is_positive (residual_of c.args.net.now (c.args.number / 2) (is_back c.args.number)) ≡ false = ap is_positive (sym residual) ∙ sym c.is_above_zero.ensures ∙ c.if-is_above_zero.false in
    residual_away c.args.net.now c.args.number full
