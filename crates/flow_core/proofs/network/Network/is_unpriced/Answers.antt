use Rattle.std.proofs.Common.{◌≡◌, eqb, get_or, ap, sym, ◌∙◌, subst, arith}
use Rattle.std.specs.Prelude.{unwrap_or}
use Rattle.std.proofs.lemmas.Option.{unwrap_or-slice_get}
use Rattle.flow_core.specs.Layout.{is_unpriced}
use Rattle.flow_core.specs.State.{NetworkState, IsNetwork}
use Rattle.flow_core.proofs.BothWays.{unpriced_below}
use Rattle.flow_core.proofs.network.Network.is_unpriced.Goals as goal

pub returns-clause-value : goal.returns-clause-value
returns-clause-value c =
    let read : c.unwrap_or.result ≡ get_or c.self.inside.prices c.args.arc 1 =
    c.unwrap_or.ensures ∙ ap (λ found. unwrap_or found 1) c.get.ensures ∙ unwrap_or-slice_get c.self.inside.prices c.args.arc 1 in
    ap (λ price. eqb price 0) read ∙ ap (λ (net : NetworkState). is_unpriced net.network c.args.arc) c.self.view_is

pub returns-clause-bound : goal.returns-clause-bound
returns-clause-bound c =
    let read : c.unwrap_or.result ≡ get_or c.self.inside.prices c.args.arc 1 =
    c.unwrap_or.ensures ∙ ap (λ found. unwrap_or found 1) c.get.ensures ∙ unwrap_or-slice_get c.self.inside.prices c.args.arc 1 in
    let value = ap (λ price. eqb price 0) read ∙ ap (λ (net : NetworkState). is_unpriced net.network c.args.arc) c.self.view_is in
    let is : IsNetwork c.args.self.now = subst IsNetwork c.self.view_is c.self.invariant.network in
    λ free. omega (arith, unpriced_below c.args.self.now.network c.args.arc (sym value ∙ free), is.layout.priced)
