use Rattle.std.proofs.Common.{◌≡◌, ℕ, ◌+◌, ◌<◌, ◌++◌, [], ◌∷◌, List, length, get_or, take, sym, ap, ◌∙◌}
use Rattle.std.proofs.lemmas.List.{map-append, take_more, take_all}
use Rattle.screen_model.specs.declared.bound.Bound.{Bound}
use Rattle.rule_file.specs.declared.rules.Rules.{Rules}
use Rattle.flow_core.proofs.Optimality.{no_bound}
use Rattle.bound_maker.specs.Bounds.{price_of_number}
use Rattle.global_repair.specs.Lists.{prices_of}
use Rattle.global_repair.proofs.lists.prices.Goals as goal

one_more : (rules : Rules) (bounds : List Bound) (old new : List ℕ) (k price : ℕ) → k < length bounds → old ≡ prices_of rules (take k bounds)
    → price ≡ price_of_number rules (get_or bounds k no_bound.bound).name.rule → new ≡ old ++ price ∷ [] → new ≡ prices_of rules (take (k + 1) bounds)
one_more rules bounds old new k price below so_far price_is added =
    let price_at : Bound → ℕ = λ bound. price_of_number rules bound.name.rule in
    added ∙ (λ i. so_far i ++ price_is i ∷ []) ∙ sym (map-append price_at (take k bounds) (get_or bounds k no_bound.bound ∷ [])) ∙ ap (prices_of rules) (sym (take_more bounds k no_bound.bound below))

pub loop-bound-preserved : goal.loop-bound-preserved
loop-bound-preserved c = record {
  bounds = c.loop-bound.invariant.bounds;
  prices = one_more c.args.rules.now c.as_slice-bound-items.result.now c.loop-bound.list.items c.push.new.self.items c.loop-bound.bound-index c.price_of.result c.loop-bound-test.true c.loop-bound.invariant.prices c.price_of.ensures c.in_ok-push.ensures.items;
}

pub returns : goal.returns
returns c =
    c.loop-bound.invariant.prices ∙ ap (prices_of c.args.rules.now) (take_all c.loop-bound.bound-index c.as_slice-bound-items.result.now c.loop-bound-test.false ∙ c.loop-bound.invariant.bounds)
