-- To be believed: the arcs of a network both ways, of which some are there.
use Rattle.std.specs.Prelude.{ℕ, suc, ◌/◌, ◌&&◌, ◌||◌, not, Bool, true, false, if◌then◌else◌, List, [], ◌∷◌, Option, Some, None}
use Rattle.std.specs.Int.{is_positive}
use Rattle.bound_graph.specs.declared.arc.Arc.{Arc}
use Rattle.bound_graph.specs.Reverses.{reversed, turned, is_back}
use Rattle.flow_core.specs.Layout.{FlowNetwork, is_unpriced, arcs_of, arc_numbered}
use Rattle.flow_core.specs.State.{NetworkState, residual_of}

-- the arc or reverse of a number: number 2 * k is arc k, and number 2 * k + 1 its reverse
abbrev pub arc_both_ways : FlowNetwork → ℕ → Arc
arc_both_ways network number = turned (is_back number) (arc_numbered network (number / 2))

-- the arcs and reverses that are there, by a test of an arc's number and of whether it is the reverse; the first arc has the
-- number that is given
abbrev pub there_from : ℕ → (ℕ → Bool → Bool) → List Arc → List (Option Arc)
there_from number is_there [] = []
there_from number is_there (arc ∷ arcs) =
    (if is_there number false then Some arc else None) ∷ ((if is_there number true then Some (reversed arc) else None) ∷ there_from (suc number) is_there arcs)

abbrev pub is_residual : NetworkState → ℕ → Bool → Bool
is_residual net arc back = is_positive (residual_of net arc back)

abbrev pub is_bare : NetworkState → ℕ → Bool → Bool
is_bare net arc back = not back && is_unpriced net.network arc

-- residual arcs: those on which more can flow
abbrev pub residual_arcs : NetworkState → List (Option Arc)
residual_arcs net = there_from 0 (is_residual net) (arcs_of net.network)

-- the residual arcs, and all bounds without a price, also where no more can flow on them
abbrev pub tight_arcs : NetworkState → List (Option Arc)
tight_arcs net = there_from 0 (λ arc back. is_bare net arc back || is_residual net arc back) (arcs_of net.network)

-- the bounds without a price alone
abbrev pub bare_arcs : NetworkState → List (Option Arc)
bare_arcs net = there_from 0 (is_bare net) net.network.bounds
