use Rattle.std.proofs.Common.{◌≡◌, get_or, sym, ◌∙◌, arith}
use Rattle.std.proofs.lemmas.Bool.{eqb-true}
use Rattle.flow_core.proofs.Sizes.{length-arcs_of}
use Rattle.path_flow.proofs.Saturating.{empty_done, kept}
use Rattle.path_flow.proofs.saturate.saturate_bound.Goals as goal

pub saturate_if_negative-requires-clause-arc : goal.saturate_if_negative-requires-clause-arc
saturate_if_negative-requires-clause-arc c = omega (arith, c.requires.bound, length-arcs_of c.args.net.now.network)

pub returns-else-not-is_unpriced-clause-saturated : goal.returns-else-not-is_unpriced-clause-saturated
returns-else-not-is_unpriced-clause-saturated c =
    let net = c.args.net.now in
    let free : get_or net.network.prices c.args.bound 1 ≡ 0 = eqb-true (get_or net.network.prices c.args.bound 1) 0 (sym c.is_unpriced.ensures.value ∙ c.if-not-is_unpriced.false) in
    kept net c.args.bound (empty_done net c.args.bound c.requires.empty (c.requires.obeys free))
