use Rattle.std.proofs.Common.{◌≡◌, ◌<◌, ◌-◌, ◌/◌, ℕ, pos, List, Some, eqb, length, get_or, sym, ap, ◌∙◌, subst, rules, arith, w64}
use Rattle.std.specs.Prelude.{FitsSigned, slice_get}
use Rattle.std.proofs.lemmas.Bool.{cond-false, ne_eqb}
use Rattle.std.proofs.lemmas.Int.{to_z-of_z}
use Rattle.std.proofs.lemmas.List.{get_or_read}
use Rattle.flow_core.specs.Layout.{arcs_of, capacity_numbered, unpriced_capacity}
use Rattle.flow_core.specs.State.{NetworkState}
use Rattle.flow_core.specs.Stored.{IsStored}
use Rattle.flow_core.proofs.Sizes.{arcs_counted, capacity_at, none_is_past, reading_capacity}
use Rattle.flow_core.proofs.network.Network.capacity.Goals as goal

pub index-requires : goal.index-requires
index-requires c =
    let layout = c.self.invariant.network.layout in
    let same = ap (λ (net : NetworkState). length (arcs_of net.network)) c.self.view_is in
    let after = none_is_past c.self.inside.prices c.args.arc (sym c.get.ensures ∙ c.in-None.is) in
    omega (arith, arcs_counted _ layout)

pub returns-in-Some-eq0 : goal.returns-in-Some-eq0
returns-in-Some-eq0 c =
    let net = c.args.self.now in
    let is = subst (IsStored c.self.inside.graph c.self.inside.unpriced_capacity) c.self.view_is c.self.invariant in
    let prices : net.network.prices ≡ c.self.inside.prices = ap (λ (n : NetworkState). n.network.prices) (sym c.self.view_is) in
    let found : slice_get net.network.prices c.args.arc ≡ Some 0 = ap (λ (list : List ℕ). slice_get list c.args.arc) prices ∙ sym c.get.ensures ∙ c.in-Some-eq0.is ∙ ap Some c.in-Some-eq0.field-0-test in
    let fits : FitsSigned w64 c.self.inside.unpriced_capacity = search rules in
    to_z-of_z w64 c.self.inside.unpriced_capacity fits ∙ is.unpriced ∙ ap pos (sym (capacity_at net.network c.args.arc 0 found))

pub returns-in-Some : goal.returns-in-Some
returns-in-Some c =
    let net = c.args.self.now in
    let price = c.in-Some.price in
    let prices : net.network.prices ≡ c.self.inside.prices = ap (λ (n : NetworkState). n.network.prices) (sym c.self.view_is) in
    let found : slice_get net.network.prices c.args.arc ≡ Some price = ap (λ (list : List ℕ). slice_get list c.args.arc) prices ∙ sym c.get.ensures ∙ c.in-Some.is in
    let fits : FitsSigned w64 c.from.result = search rules in
    to_z-of_z w64 c.from.result fits ∙ c.from.ensures
    ∙ ap pos (sym (capacity_at net.network c.args.arc price found ∙ cond-false (eqb price 0) (unpriced_capacity net.network) price (ne_eqb price 0 c.in-Some.price-test.1)))

pub returns-in-None : goal.returns-in-None
returns-in-None c =
    let layout = c.self.invariant.network.layout in
    let same = ap (λ (net : NetworkState). length (arcs_of net.network)) c.self.view_is in
    let prices = c.self.inside.prices in
    let weights = c.self.inside.weights.items in
    let weight = c.index.result.now in
    let place = (c.args.arc - c.len.result) / 2 in
    let after = none_is_past prices c.args.arc (sym c.get.ensures ∙ c.in-None.is) in
    let below : place < length weights = omega (arith, arcs_counted _ layout) in
    let read : weight ≡ get_or weights place 0 = get_or_read weights place weight below c.index.ensures 0 in
    let fits : FitsSigned w64 c.from-in-None.result = search rules in
    to_z-of_z w64 c.from-in-None.result fits
    ∙ c.from-in-None.ensures
    ∙ ap pos (read ∙ ap (λ n. get_or weights ((c.args.arc - n) / 2) 0) c.len.ensures ∙ sym (reading_capacity _ c.args.arc layout after))
    ∙ ap (λ (net : NetworkState). pos (capacity_numbered net.network c.args.arc)) c.self.view_is
