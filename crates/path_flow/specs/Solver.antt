-- To be believed: what contracts see of the solver.
use Rattle.std.specs.Prelude.{ℕ, ◌+◌, ◌*◌, Option, Some, None, length}
use Rattle.path_flow.specs.Reach.{Reach}
use Rattle.path_flow.specs.declared.solver.PathSolver.{PathSolver}

-- the changes of flow in the network that was solved last
abbrev pub last_of : PathSolver → ℕ
last_of solver = solver.last

-- At most as many changes: one for each reading and each bound with a price, and a path over all readings for each unit
-- of the weights and the prices.
abbrev pub most_changes : PathSolver → ℕ → ℕ → ℕ → ℕ → Option ℕ
most_changes solver readings weights priced prices = Some (readings + priced + (weights + prices) * readings)

abbrev pub nodes_in : Option Reach → ℕ
nodes_in (Some reach) = length reach.labels
nodes_in None = 0

abbrev pub nodes_prepared : PathSolver → ℕ
nodes_prepared solver = nodes_in solver.labels

abbrev pub arcs_prepared : PathSolver → ℕ
arcs_prepared solver = solver.arcs
