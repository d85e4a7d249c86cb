-- To be believed: what the steps of the solver change of a network, and what they leave.
use Rattle.std.specs.Prelude.{◌≡◌, ℕ, ◌<◌, false, ℤ, pos, ◌+ℤ◌, ◌-ℤ◌, ◌≤ℤ◌, length}
use Rattle.bound_graph.specs.Values.{value_of}
use Rattle.flow_core.specs.Layout.{arc_numbered, arcs_of}
use Rattle.flow_core.specs.State.{NetworkState, flow_on, residual_of}

-- nothing but potentials is another one
pub record ChangesPotentials (old new : NetworkState) : Type 0 where
  pub network : new.network ≡ old.network
  pub flows : new.flows ≡ old.flows
  pub excesses : new.excesses ≡ old.excesses
  pub changes : new.changes ≡ old.changes

-- nothing but flows, excesses and the number of changes is another one
pub record ChangesFlows (old new : NetworkState) : Type 0 where
  pub network : new.network ≡ old.network
  pub potentials : new.potentials ≡ old.potentials

-- the reduced cost of an arc: its cost, and what the potential at its tail is above that at its head
abbrev pub reduced_cost : NetworkState → ℕ → ℤ
reduced_cost net arc =
    (arc_numbered net.network arc).cost +ℤ (value_of net.potentials (arc_numbered net.network arc).tail -ℤ value_of net.potentials (arc_numbered net.network arc).head)

-- neither the arc nor its reverse is a residual arc of negative reduced cost
pub record HasNoNegative (net : NetworkState) (arc : ℕ) : Type 0 where
  pub ahead : pos 1 ≤ℤ residual_of net arc false → pos 0 ≤ℤ reduced_cost net arc
  pub back : pos 1 ≤ℤ flow_on net arc → reduced_cost net arc ≤ℤ pos 0

-- No residual arc has a negative reduced cost.
abbrev pub HasNoNegatives : NetworkState → Type 0
HasNoNegatives net = (arc : ℕ) → arc < length (arcs_of net.network) → HasNoNegative net arc
