use Rattle.std.proofs.Common.{ℤ, List, length, sym, ap, ◌∙◌, subst, arith}
use Rattle.std.specs.Prelude.{◌≤◌, unsigned_abs}
use Rattle.std.specs.List.{All}
use Rattle.flow_core.specs.State.{NetworkState}
use Rattle.flow_core.specs.Layout.{nodes_of}
use Rattle.path_flow.proofs.Views.{all_get}
use Rattle.path_flow.proofs.starts.settle_from_potentials.Goals as goal

pub settle-requires-clause-nodes : goal.settle-requires-clause-nodes
settle-requires-clause-nodes c =
    ap (λ (l : List ℤ). length l) c.start_all.ensures.starts ∙ c.start_all.ensures.network.potential_each ∙ ap (λ (net : NetworkState). nodes_of net.network) (sym c.bound_arcs.ensures)

pub settle-requires-clause-starts : goal.settle-requires-clause-starts
settle-requires-clause-starts c =
    subst (λ (l : List ℤ). All (λ start. unsigned_abs start ≤ 4000000000000000) l) (sym c.start_all.ensures.starts)
    (λ k d below. let small = all_get _ c.args.net.now.potentials k d c.start_all.ensures.network.potentials below in omega arith)

pub returns-clause-size : goal.returns-clause-size
returns-clause-size c =
    c.settle.ensures.size ∙ ap (λ (l : List ℤ). length l) c.start_all.ensures.starts ∙ c.start_all.ensures.network.potential_each ∙ sym c.requires.room
