-- For proofs: arcs that are saturated.
use Rattle.std.specs.Prelude.{◌≡◌, ◌≢◌, ℕ, ◌+◌, ◌<◌, ◌≤◌, pos, ◌≤ℤ◌, get_or}
use Rattle.words.specs.Lists.{total}
use Rattle.flow_core.specs.Layout.{capacity_numbered}
use Rattle.flow_core.specs.State.{NetworkState, flow_on}
use Rattle.path_flow.specs.Flow.{excess_units}
use Rattle.path_flow.specs.Steps.{HasNoNegative, reduced_cost}

-- The flow of one arc may be another one, and that arc has none of negative reduced cost.
pub record Saturates (arc : ℕ) (old new : NetworkState) : Type 0 where
  pub network : new.network ≡ old.network
  pub potentials : new.potentials ≡ old.potentials
  pub others : (k : ℕ) → k ≢ arc → flow_on new k ≡ flow_on old k
  pub done : HasNoNegative new arc
  pub changes : new.changes ≤ old.changes + 1
  pub kept : pos 0 ≤ℤ reduced_cost old arc → new ≡ old
  pub units : excess_units new ≤ excess_units old + capacity_numbered old.network arc
  pub whole : total new.excesses ≡ total old.excesses

-- The arcs below a count are saturated where their reduced cost is negative; on the others, and on bounds without a price,
-- nothing flows.
pub record IsSaturated (count : ℕ) (old new : NetworkState) : Type 0 where
  pub network : new.network ≡ old.network
  pub potentials : new.potentials ≡ old.potentials
  pub done : (k : ℕ) → k < count → HasNoNegative new k
  pub rest : (k : ℕ) → count ≤ k → flow_on new k ≡ pos 0
  pub free : (k : ℕ) → get_or new.network.prices k 1 ≡ 0 → flow_on new k ≡ pos 0
