-- The numbers of arcs and reverses, and those that leave a node.
use Rattle.std.proofs.Common.{◌≡◌, ℕ, zero, suc, ◌+◌, ◌*◌, ◌/◌, ◌%◌, ◌<◌, Bool, true, false, if◌then◌else◌, List, [], ◌∷◌, length, get_or, refl, sym, ap, ◌∙◌, subst, arith}
use Rattle.std.specs.Prelude.{Contains}
use Rattle.std.proofs.lemmas.Bool.{eq-eqb, ne_eqb}
use Rattle.std.proofs.lemmas.Option.{slice_get-get_or, slice_get_within, get_or_from_slice_get}
use Rattle.bound_graph.specs.declared.arc.Arc.{Arc}
use Rattle.bound_graph.specs.Graph.{leaving}
use Rattle.bound_graph.specs.Arcs.{no_arc}
use Rattle.bound_graph.specs.Reverses.{with_reverses, turned, is_back}
use Rattle.bound_graph.proofs.Leaving.{exactly}
use Rattle.bound_graph.proofs.Reverses.{length-with_reverses, both_ways_at}
use Rattle.flow_core.specs.Layout.{FlowNetwork, arcs_of, arc_numbered}
use Rattle.flow_core.specs.Views.{arc_both_ways}

-- the number of an arc or of its reverse
abbrev pub number_of : ℕ → Bool → ℕ
number_of arc back = if back then 2 * arc + 1 else 2 * arc

pub number_half : (arc : ℕ) (back : Bool) → number_of arc back / 2 ≡ arc
number_half arc true = omega arith
number_half arc false = omega arith

pub number_back : (arc : ℕ) (back : Bool) → is_back (number_of arc back) ≡ back
number_back arc true = eq-eqb ((2 * arc + 1) % 2) 1 (omega arith)
number_back arc false = ne_eqb ((2 * arc) % 2) 1 (λ e. absurd (omega (arith, e)))

pub arc_of_number : (network : FlowNetwork) (arc : ℕ) (back : Bool) → arc_both_ways network (number_of arc back) ≡ turned back (arc_numbered network arc)
arc_of_number network arc back = λ i. turned (number_back arc back i) (arc_numbered network (number_half arc back i))

-- a number among those that leave a node
pub record IsLeaving (network : FlowNetwork) (node number : ℕ) : Type 0 where
  pub below : number / 2 < length (arcs_of network)
  pub tail : (arc_both_ways network number).tail ≡ node

pub leaving_is : (network : FlowNetwork) (node number : ℕ) → Contains (leaving (with_reverses (arcs_of network)) node) number → IsLeaving network node number
leaving_is network node number has =
    let arcs = arcs_of network in
    let leaves = (exactly (with_reverses arcs) node number).0 has in
    let within = slice_get_within (with_reverses arcs) number leaves.0 leaves.1 in
    let long = length-with_reverses arcs in
    let below : number / 2 < length arcs = omega (arith, within, long) in
    let arc : arc_both_ways network number ≡ leaves.0 = sym (both_ways_at arcs number within) ∙ get_or_from_slice_get (with_reverses arcs) number leaves.0 no_arc leaves.1 in
    record { below = below; tail = ap (λ (a : Arc). a.tail) arc ∙ leaves.2 }

default_at : (xs : List ℕ) (i d : ℕ) → i < length xs → get_or xs i d ≡ get_or xs i 0
default_at [] i d below = absurd (omega (arith, below))
default_at (x ∷ xs) zero d below = refl
default_at (x ∷ xs) (suc i) d below = default_at xs i d (omega (arith, below))

pub leaving_at : (network : FlowNetwork) (node i : ℕ) (items : List ℕ) → items ≡ leaving (with_reverses (arcs_of network)) node → i < length items → IsLeaving network node (get_or items i 0)
leaving_at network node i items same below =
    leaving_is network node (get_or items i 0) (subst (λ (l : List ℕ). Contains l (get_or items i 0)) same (i, below, default_at items i (get_or items i 0) below))

-- and each step from the node has its number among them
pub is_leaving : (network : FlowNetwork) (node arc : ℕ) (back : Bool) → arc < length (arcs_of network) → (turned back (arc_numbered network arc)).tail ≡ node → Contains (leaving (with_reverses (arcs_of network)) node) (number_of arc back)
is_leaving network node arc back below tail =
    let arcs = arcs_of network in
    let number = number_of arc back in
    let long = length-with_reverses arcs in
    let half = number_half arc back in
    let within : number < length (with_reverses arcs) = omega (arith, below, long, half) in
    let there = both_ways_at arcs number within in
    let same = arc_of_number network arc back in
    (exactly (with_reverses arcs) node number).1
    (get_or (with_reverses arcs) number no_arc, slice_get-get_or (with_reverses arcs) number no_arc within, ap (λ (a : Arc). a.tail) (there ∙ same) ∙ tail)
