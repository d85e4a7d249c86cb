-- The flow of one arc raised, and a potential set: what holds of every network still holds.
use Rattle.std.proofs.Common.{◌≡◌, ℕ, zero, suc, ◌+◌, ◌-◌, ◌^◌, ◌<◌, ◌≤◌, min, Bool, true, false, eqb, ℤ, pos, ◌+ℤ◌, ◌-ℤ◌, ◌*ℤ◌, ◌≤ℤ◌, List, [], ◌∷◌, length, map, get_or, set, refl, sym, ap, ◌∙◌, subst, arith}
use Rattle.std.specs.Prelude.{unsigned_abs}
use Rattle.std.proofs.lemmas.Int.{ints}
use Rattle.std.proofs.lemmas.List.{length-set, length-map, get_or-map}
use Rattle.std.proofs.lemmas.List.Sums.{count_by-le-length}
use Rattle.std.proofs.Math.IntN.{*ℤ-zero, *ℤ-one}
use Rattle.words.specs.Lists.{inner_product}
use Rattle.words.proofs.InnerProducts.{inner_product-set}
use Rattle.words.proofs.Products.{mul_minus, zero_minus_mul, size_within, within_size}
use Rattle.bound_graph.specs.declared.arc.Arc.{Arc}
use Rattle.bound_graph.specs.Graph.{Digraph}
use Rattle.bound_graph.specs.Values.{value_of}
use Rattle.bound_graph.specs.Arcs.{no_arc}
use Rattle.flow_core.specs.declared.limits.TheConstants.{MOST_VALUE}
use Rattle.flow_core.specs.Layout.{arcs_of, arc_numbered, capacities_of, capacity_numbered}
use Rattle.flow_core.specs.State.{NetworkState, IsNetwork, IsWithin, is_flowing, one_if, unit_balance, balance, flow_on, residual_of, added, rise_by, raised, pushed}
use Rattle.flow_core.specs.Stored.{IsStored}
use Rattle.flow_core.proofs.Elements.{zip_set, all_set, count_by_set, added_at}
use Rattle.flow_core.proofs.Sizes.{few_arcs, arc_valid, capacity_small, length-flows, flow_within, flow_small, excess_small}

balance_raised : (arcs : List Arc) (flows : List ℤ) (arc : ℕ) (rise : ℤ) (node : ℕ) → arc < length flows → arc < length arcs
    → balance arcs (added flows arc rise) node ≡ balance arcs flows node +ℤ (rise *ℤ unit_balance node (get_or arcs arc no_arc))
balance_raised arcs flows arc rise node flowing below =
    let units = map (unit_balance node) arcs in
    let old = get_or flows arc (pos 0) in
    let sum = inner_product flows units in
    let by : (old +ℤ rise) -ℤ old ≡ rise = omega (arith, ints) in
    inner_product-set flows units arc (old +ℤ rise) flowing (omega (arith, length-map arcs (unit_balance node)))
    ∙ ap (λ z. sum +ℤ (z *ℤ get_or units arc (pos 0))) by
    ∙ ap (λ z. sum +ℤ (rise *ℤ z)) (get_or-map (unit_balance node) arcs arc no_arc (pos 0) below)

excess_raised : (excesses : List ℤ) (tail head : ℕ) (rise : ℤ) (node : ℕ) → tail < length excesses → head < length excesses
    → value_of (added (added excesses tail (pos 0 -ℤ rise)) head rise) node ≡ value_of excesses node +ℤ (rise *ℤ (one_if (eqb head node) -ℤ one_if (eqb tail node)))
excess_raised excesses tail head rise node out into =
    let taken = added excesses tail (pos 0 -ℤ rise) in
    let less = added_at excesses tail node (pos 0 -ℤ rise) out in
    let more = added_at taken head node rise (omega (arith, length-set excesses tail (value_of excesses tail +ℤ (pos 0 -ℤ rise)))) in
    omega (arith, ints, less, more, mul_minus rise (one_if (eqb head node)) (one_if (eqb tail node)), zero_minus_mul rise (one_if (eqb tail node)))

pub network_raised : (net : NetworkState) (arc : ℕ) (rise : ℤ) → IsNetwork net → arc < length (arcs_of net.network) → IsWithin (capacity_numbered net.network arc) (flow_on net arc +ℤ rise) → IsNetwork (raised net arc rise)
network_raised net arc rise is below within =
    let ends = arc_numbered net.network arc in
    let valid = arc_valid net.network arc is.layout below in
    let long = length-flows net is in
    let few = few_arcs net.network is.layout in
    let nodes = is.excess_each in
    let flowing : arc < length net.flows = omega (arith, long) in
    let taken = added net.excesses ends.tail (pos 0 -ℤ rise) in
    record {
      layout = is.layout;
      flows = zip_set IsWithin (capacities_of net.network) net.flows arc 0 (flow_on net arc +ℤ rise) is.flows within;
      excess_each = length-set taken ends.head (value_of taken ends.head +ℤ rise) ∙ length-set net.excesses ends.tail (value_of net.excesses ends.tail +ℤ (pos 0 -ℤ rise)) ∙ is.excess_each;
      excesses = λ node inside.
          excess_raised net.excesses ends.tail ends.head rise node (omega (arith, valid.tail, nodes)) (omega (arith, valid.head, nodes))
          ∙ ap (λ z. z +ℤ (rise *ℤ unit_balance node ends)) (is.excesses node inside)
          ∙ sym (balance_raised (arcs_of net.network) net.flows arc rise node flowing below);
      potential_each = is.potential_each;
      potentials = is.potentials;
      potential_zero = is.potential_zero;
      changes = omega (
        arith,
        count_by_set is_flowing net.flows arc (flow_on net arc +ℤ rise) (pos 0) flowing,
        count_by-le-length is_flowing (added net.flows arc rise),
        length-set net.flows arc (flow_on net arc +ℤ rise),
        is.changes,
        long,
        few,
      );
    }

-- an amount that is at most the residual leaves the flow within the capacity
pub within_pushed : (net : NetworkState) (arc : ℕ) (back : Bool) (amount : ℤ) → IsNetwork net → arc < length (arcs_of net.network) → pos 1 ≤ℤ amount → amount ≤ℤ residual_of net arc back
    → IsWithin (capacity_numbered net.network arc) (flow_on net arc +ℤ rise_by back amount)
within_pushed net arc true amount is below some room =
    let within = flow_within net arc is below in
    (omega (arith, ints, some, room, within.0), omega (arith, ints, some, within.1))
within_pushed net arc false amount is below some room =
    let within = flow_within net arc is below in
    (omega (arith, ints, some, within.0), omega (arith, ints, room))

pub network_pushed : (net : NetworkState) (arc : ℕ) (back : Bool) (amount : ℤ) → IsNetwork net → arc < length (arcs_of net.network) → pos 1 ≤ℤ amount → amount ≤ℤ residual_of net arc back
    → IsNetwork (pushed net arc back amount)
network_pushed net arc back amount is below some room = network_raised net arc (rise_by back amount) is below (within_pushed net arc back amount is below some room)

zero_stays : (potentials : List ℤ) (node : ℕ) (potential : ℤ) → (node ≡ 0 → potential ≡ pos 0) → value_of potentials 0 ≡ pos 0 → value_of (set potentials node potential) 0 ≡ pos 0
zero_stays [] node potential zero_there is = is
zero_stays (p ∷ potentials) zero potential zero_there is = zero_there refl
zero_stays (p ∷ potentials) (suc node) potential zero_there is = is

with_potential : (net : NetworkState) (node : ℕ) (potential : ℤ) → IsNetwork net → unsigned_abs potential ≤ MOST_VALUE → (node ≡ 0 → potential ≡ pos 0)
    → IsNetwork (record net { potentials = set net.potentials node potential })
with_potential net node potential is small zero_there = record {
  layout = is.layout;
  flows = is.flows;
  excess_each = is.excess_each;
  excesses = is.excesses;
  potential_each = length-set net.potentials node potential ∙ is.potential_each;
  potentials = all_set (λ p. unsigned_abs p ≤ MOST_VALUE) net.potentials node potential is.potentials small;
  potential_zero = zero_stays net.potentials node potential zero_there is.potential_zero;
  changes = is.changes;
}

-- the same where the potential is written in another way
pub network_with_potential : (net : NetworkState) (node : ℕ) (potential written : ℤ) → IsNetwork net → written ≡ potential → unsigned_abs potential ≤ MOST_VALUE → (node ≡ 0 → potential ≡ pos 0)
    → IsNetwork (record net { potentials = set net.potentials node written })
network_with_potential net node potential written is same small zero_there =
    subst (λ (p : ℤ). IsNetwork (record net { potentials = set net.potentials node p })) (sym same) (with_potential net node potential is small zero_there)

pub rise_small : (net : NetworkState) (arc : ℕ) (back : Bool) (amount : ℤ) → IsNetwork net → arc < length (arcs_of net.network) → pos 1 ≤ℤ amount → amount ≤ℤ residual_of net arc back
    → unsigned_abs (rise_by back amount) ≤ 5000000000
rise_small net arc true amount is below some room =
    let within = flow_within net arc is below in
    let few = capacity_small net.network arc is.layout below in
    size_within (pos 0 -ℤ amount) 5000000000 (omega (arith, ints, room, few, within.1)) (omega (arith, ints, some))
rise_small net arc false amount is below some room =
    let within = flow_within net arc is below in
    let few = capacity_small net.network arc is.layout below in
    size_within amount 5000000000 (omega (arith, ints, some)) (omega (arith, ints, room, few, within.0))

-- ---- what is written when flow is pushed

-- how great the numbers are that are added
pub record IsReady (net : NetworkState) (arc : ℕ) (ends : Arc) (rise : ℤ) : Type 0 where
  pub place : arc < length net.flows
  pub flow : unsigned_abs (flow_on net arc) ≤ 5000000000
  pub amount : unsigned_abs rise ≤ 5000000000
  pub tail : ends.tail < length net.excesses
  pub head : ends.head < length net.excesses
  pub excess_tail : unsigned_abs (value_of net.excesses ends.tail) ≤ 24000000000000000
  pub excess_head : unsigned_abs (value_of (added net.excesses ends.tail (pos 0 -ℤ rise)) ends.head) ≤ 24000005000000000
  pub network : IsNetwork (raised net arc rise)

taken_or_not : (b : Bool) (x rise : ℤ) → unsigned_abs rise ≤ 5000000000 → unsigned_abs x ≤ 24000000000000000 → unsigned_abs (x +ℤ ((pos 0 -ℤ rise) *ℤ one_if b)) ≤ 24000005000000000
taken_or_not true x rise few small =
    let taken : x +ℤ ((pos 0 -ℤ rise) *ℤ pos 1) ≡ x -ℤ rise = omega (arith, ints, *ℤ-one (pos 0 -ℤ rise)) in
    let p = within_size x 24000000000000000 small in
    let q = within_size rise 5000000000 few in
    subst (λ (z : ℤ). unsigned_abs z ≤ 24000005000000000) (sym taken) (size_within (x -ℤ rise) 24000005000000000 (omega (arith, ints, p.0, q.1)) (omega (arith, ints, p.1, q.0)))
taken_or_not false x rise few small =
    let same : x +ℤ ((pos 0 -ℤ rise) *ℤ pos 0) ≡ x = omega (arith, ints, *ℤ-zero (pos 0 -ℤ rise)) in
    subst (λ (z : ℤ). unsigned_abs z ≤ 24000005000000000) (sym same) (omega (arith, small))

pub ready : (net : NetworkState) (arc : ℕ) (back : Bool) (amount : ℤ) → IsNetwork net → arc < length (arcs_of net.network) → pos 1 ≤ℤ amount → amount ≤ℤ residual_of net arc back
    → IsReady net arc (arc_numbered net.network arc) (rise_by back amount)
ready net arc back amount is below some room =
    let ends = arc_numbered net.network arc in
    let rise = rise_by back amount in
    let valid = arc_valid net.network arc is.layout below in
    let few = rise_small net arc back amount is below some room in
    let out : ends.tail < length net.excesses = omega (arith, valid.tail, is.excess_each) in
    let at_head = added_at net.excesses ends.tail ends.head (pos 0 -ℤ rise) out in
    record {
      place = omega (arith, length-flows net is);
      flow = flow_small net arc is below;
      amount = few;
      tail = out;
      head = omega (arith, valid.head, is.excess_each);
      excess_tail = excess_small net ends.tail is valid.tail;
      excess_head = subst (λ (z : ℤ). unsigned_abs z ≤ 24000005000000000) (sym at_head) (taken_or_not (eqb ends.tail ends.head) (value_of net.excesses ends.head) rise few (excess_small net ends.head is valid.head));
      network = network_pushed net arc back amount is below some room;
    }

-- the same of a network as it is stored, from what is known of the network that contracts see
pub ready_from : (state now : NetworkState) (arc : ℕ) (ends : Arc) (back : Bool) (amount : ℤ) → state ≡ now → IsNetwork state → ends ≡ arc_numbered now.network arc → arc < length (arcs_of now.network) → pos 1 ≤ℤ amount → amount ≤ℤ residual_of now arc back
    → IsReady state arc ends (rise_by back amount)
ready_from state now arc ends back amount same is at below some room =
    let here = ready state arc back amount is (subst (λ (net : NetworkState). arc < length (arcs_of net.network)) (sym same) below) some (subst (λ (net : NetworkState). amount ≤ℤ residual_of net arc back) (sym same) room) in
    subst (λ (e : Arc). IsReady state arc e (rise_by back amount)) (ap (λ (net : NetworkState). arc_numbered net.network arc) same ∙ sym at) here

-- what a push leaves in memory
pub record IsWritten (net : NetworkState) (arc : ℕ) (ends : Arc) (rise : ℤ) (flows taken excesses : List ℤ) (changes : ℕ) : Type 0 where
  pub ends_are : ends ≡ arc_numbered net.network arc
  pub flows_are : flows ≡ added net.flows arc rise
  pub taken_are : taken ≡ added net.excesses ends.tail (pos 0 -ℤ rise)
  pub excesses_are : excesses ≡ added taken ends.head rise
  pub changes_are : changes ≡ min (net.changes + 1) (2 ^ 64 - 1)

pub written_is_raised : (net : NetworkState) (arc : ℕ) (ends : Arc) (rise : ℤ) (flows taken excesses : List ℤ) (changes : ℕ) → IsWritten net arc ends rise flows taken excesses changes
    → record net { flows = flows; excesses = excesses; changes = changes } ≡ raised net arc rise
written_is_raised net arc ends rise flows taken excesses changes written =
    let excesses_is : excesses ≡ added (added net.excesses (arc_numbered net.network arc).tail (pos 0 -ℤ rise)) (arc_numbered net.network arc).head rise =
    written.excesses_are ∙ (λ i. added (written.taken_are i) ends.head rise) ∙ (λ i. added (added net.excesses (written.ends_are i).tail (pos 0 -ℤ rise)) (written.ends_are i).head rise) in
    λ i. record { network = net.network; flows = written.flows_are i; excesses = excesses_is i; potentials = net.potentials; changes = written.changes_are i }

pub written_stored : (graph : Digraph) (capacity : ℤ) (net : NetworkState) (arc : ℕ) (ends : Arc) (rise : ℤ) (flows taken excesses : List ℤ) (changes : ℕ) → IsStored graph capacity net → IsReady net arc ends rise → IsWritten net arc ends rise flows taken excesses changes
    → IsStored graph capacity (record net { flows = flows; excesses = excesses; changes = changes })
written_stored graph capacity net arc ends rise flows taken excesses changes stored is_ready written =
    let new : IsStored graph capacity (raised net arc rise) = record { nodes = stored.nodes; arcs = stored.arcs; unpriced = stored.unpriced; network = is_ready.network } in
    subst (IsStored graph capacity) (sym (written_is_raised net arc ends rise flows taken excesses changes written)) new
