use Rattle.std.proofs.Common.{true≢false, get_or, sym, ◌∙◌}
use Rattle.std.proofs.lemmas.Bool.{eq-eqb, eqb-true}
use Rattle.path_flow.proofs.Weighing.{price_is}
use Rattle.path_flow.proofs.units.price.Goals as goal

pub returns-then-is_unpriced : goal.returns-then-is_unpriced
returns-then-is_unpriced c = sym (eqb-true (get_or c.args.net.now.network.prices c.args.bound 1) 0 (sym c.is_unpriced.ensures.value ∙ c.if-is_unpriced.true))

pub returns-else-is_unpriced : goal.returns-else-is_unpriced
returns-else-is_unpriced c =
    let network = c.args.net.now.network in
    c.capacity.ensures
    ∙ price_is network c.args.bound c.requires.network.layout c.requires.bound
    (λ free. true≢false (sym (eq-eqb (get_or network.prices c.args.bound 1) 0 free) ∙ sym c.is_unpriced.ensures.value ∙ c.if-is_unpriced.false))
