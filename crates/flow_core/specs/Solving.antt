-- To be believed: when a network is solved, and how many changes of flow a solver may promise to need.
use Rattle.std.specs.Prelude.{◌≡◌, ℕ, ◌≤◌, pos, length, sum, Option, IfSome}
use Rattle.bound_graph.specs.Values.{value_of, RespectsArcs}
use Rattle.flow_core.specs.Layout.{FlowNetwork, priced_count}
use Rattle.flow_core.specs.State.{NetworkState}
use Rattle.flow_core.specs.Views.{tight_arcs}

-- No node has an excess, and the potentials respect every bound without a price and every residual arc.
pub record IsSolved (net : NetworkState) : Type 0 where
  pub balanced : (node : ℕ) → value_of net.excesses node ≡ pos 0
  pub obeyed : RespectsArcs net.potentials (tight_arcs net)

-- a number by the readings, the sum of their weights, the bounds with a price, and the sum of the prices
abbrev pub by_size : {A : Type 0} → (ℕ → ℕ → ℕ → ℕ → A) → FlowNetwork → A
by_size f network = f (length network.values) (sum network.weights) (priced_count network) (sum network.prices)

-- Where the most changes are told, there are no more.
abbrev pub AreAtMost : (ℕ → ℕ → ℕ → ℕ → Option ℕ) → NetworkState → Type 0
AreAtMost most net = IfSome (by_size most net.network) (λ bound. net.changes ≤ bound)
