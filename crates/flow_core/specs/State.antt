-- To be believed: what flows in a network, the excesses that this leaves at its nodes, and the potentials of the nodes.
use Rattle.std.specs.Prelude.{◌≡◌, ℕ, ◌+◌, ◌-◌, ◌^◌, ◌<◌, ◌≤◌, ◌==◌, min, Bool, true, false, if◌then◌else◌, ℤ, pos, zero, suc, negsuc, ◌+ℤ◌, ◌-ℤ◌, ◌≤ℤ◌, List, length, map, take, replicate, get_or, slice_set, count_by, unsigned_abs}
use Rattle.std.specs.List.{AllByRecursion, AllZip}
use Rattle.words.specs.Lists.{inner_product}
use Rattle.bound_graph.specs.declared.arc.Arc.{Arc}
use Rattle.bound_graph.specs.Values.{value_of}
use Rattle.flow_core.specs.declared.limits.TheConstants.{MOST_VALUE}
use Rattle.flow_core.specs.Layout.{FlowNetwork, IsLayout, nodes_of, arcs_of, arc_numbered, capacities_of, capacity_numbered}

-- A network, with a flow for each arc, an excess and a potential for each node, and how often flow was changed.
pub record NetworkState : Type 0 where
  pub network : FlowNetwork
  pub flows : List ℤ
  pub excesses : List ℤ
  pub potentials : List ℤ
  pub changes : ℕ

-- nothing flows, and all potentials are 0
abbrev pub new_state : FlowNetwork → NetworkState
new_state network = record {
  network = network;
  flows = replicate (length (arcs_of network)) (pos 0);
  excesses = replicate (nodes_of network) (pos 0);
  potentials = replicate (nodes_of network) (pos 0);
  changes = 0;
}

abbrev pub IsNew : NetworkState → Type 0
IsNew net = net ≡ new_state net.network

abbrev pub one_if : Bool → ℤ
one_if b = if b then pos 1 else pos 0

-- what a flow of 1 on an arc brings to a node: 1 where the arc enters it, less 1 where the arc leaves it
abbrev pub unit_balance : ℕ → Arc → ℤ
unit_balance node arc = one_if (arc.head == node) -ℤ one_if (arc.tail == node)

-- the balance of flows at a node: what enters it, less what leaves it
abbrev pub balance : List Arc → List ℤ → ℕ → ℤ
balance arcs flows node = inner_product flows (map (unit_balance node) arcs)

abbrev pub IsWithin : ℕ → ℤ → Type 0
IsWithin capacity flow = (pos 0 ≤ℤ flow) × (flow ≤ℤ pos capacity)

abbrev pub is_flowing : ℤ → Bool
is_flowing (pos zero) = false
is_flowing (pos (suc n)) = true
is_flowing (negsuc n) = true

-- What holds of every network: flows lie between 0 and the capacities; each excess is the balance of the flows at its
-- node; node 0 has the potential 0, and no potential is too great; and at most as many arcs have a flow other than 0 as
-- flow was changed.
pub record IsNetwork (net : NetworkState) : Type 0 where
  pub layout : IsLayout net.network
  pub flows : AllZip IsWithin (capacities_of net.network) net.flows
  pub excess_each : length net.excesses ≡ nodes_of net.network
  pub excesses : (node : ℕ) → node < nodes_of net.network → value_of net.excesses node ≡ balance (arcs_of net.network) net.flows node
  pub potential_each : length net.potentials ≡ nodes_of net.network
  pub potentials : AllByRecursion (λ potential. unsigned_abs potential ≤ MOST_VALUE) net.potentials
  pub potential_zero : value_of net.potentials 0 ≡ pos 0
  pub changes : count_by is_flowing net.flows ≤ net.changes

abbrev pub flow_on : NetworkState → ℕ → ℤ
flow_on net arc = get_or net.flows arc (pos 0)

-- how much more can flow on an arc, or back on it, which takes from its flow
abbrev pub residual_of : NetworkState → ℕ → Bool → ℤ
residual_of net arc back = if back then flow_on net arc else (pos (capacity_numbered net.network arc) -ℤ flow_on net arc)

-- the flows on the arcs of the bounds
abbrev pub bound_flows : NetworkState → List ℤ
bound_flows net = take (length net.network.bounds) net.flows

-- what the flows cost, negated: the sum of cost times flow over all arcs, less than 0 where that is above it
abbrev pub value : NetworkState → ℤ
value net = pos 0 -ℤ inner_product net.flows (map (λ arc. arc.cost) (arcs_of net.network))

-- the numbers with an amount added to one of them
abbrev pub added : List ℤ → ℕ → ℤ → List ℤ
added numbers i amount = slice_set numbers i (get_or numbers i (pos 0) +ℤ amount)

-- by how much the flow of an arc rises
abbrev pub rise_by : Bool → ℤ → ℤ
rise_by back amount = if back then pos 0 -ℤ amount else amount

-- the flow of one arc raised, which takes from the excess at its tail and adds to that at its head; one change more,
-- up to the last number of changes
abbrev pub raised : NetworkState → ℕ → ℤ → NetworkState
raised net arc rise = record net {
  flows = added net.flows arc rise;
  excesses = added (added net.excesses (arc_numbered net.network arc).tail (pos 0 -ℤ rise)) (arc_numbered net.network arc).head rise;
  changes = min (net.changes + 1) (2 ^ 64 - 1);
}

-- an amount pushed along an arc, or back along it
abbrev pub pushed : NetworkState → ℕ → Bool → ℤ → NetworkState
pushed net arc back amount = raised net arc (rise_by back amount)
