-- For proofs: balanced networks, and the room on arcs and reverses by their numbers.
use Rattle.std.specs.Prelude.{◌≡◌, ℕ, ◌/◌, ◌<◌, ℤ, pos, ◌≤ℤ◌, List, length, get_or}
use Rattle.bound_graph.specs.Values.{value_of}
use Rattle.bound_graph.specs.Reverses.{is_back}
use Rattle.flow_core.specs.Layout.{arcs_of}
use Rattle.flow_core.specs.State.{NetworkState, residual_of}

-- no node has an excess
abbrev pub IsBalanced : NetworkState → Type 0
IsBalanced net = (node : ℕ) → value_of net.excesses node ≡ pos 0

-- nothing but potentials is another one
pub record ChangesPotentials (old new : NetworkState) : Type 0 where
  pub network : new.network ≡ old.network
  pub flows : new.flows ≡ old.flows
  pub excesses : new.excesses ≡ old.excesses
  pub changes : new.changes ≡ old.changes

-- how much more can flow on the arc or reverse of a number
abbrev pub room_of : NetworkState → ℕ → ℤ
room_of net number = residual_of net (number / 2) (is_back number)

-- there is an arc or reverse of the number, and as much more can flow on it
pub record HasRoom (net : NetworkState) (amount : ℤ) (number : ℕ) : Type 0 where
  pub below : number / 2 < length (arcs_of net.network)
  pub room : amount ≤ℤ room_of net number

abbrev pub HaveRoom : NetworkState → ℤ → List ℕ → Type 0
HaveRoom net amount numbers = (i : ℕ) → i < length numbers → HasRoom net amount (get_or numbers i 0)
