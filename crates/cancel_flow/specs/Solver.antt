-- To be believed: what contracts see of the solver.
use Rattle.std.specs.Prelude.{ℕ, Option, None}
use Rattle.cancel_flow.specs.declared.solver.CancelSolver.{CancelSolver}

-- the changes of flow in the network that was solved last
abbrev pub last_of : CancelSolver → ℕ
last_of solver = solver.last

-- it tells no most changes
abbrev pub most_changes : CancelSolver → ℕ → ℕ → ℕ → ℕ → Option ℕ
most_changes solver readings weights priced prices = None

abbrev pub nodes_prepared : CancelSolver → ℕ
nodes_prepared solver = solver.nodes

abbrev pub arcs_prepared : CancelSolver → ℕ
arcs_prepared solver = solver.arcs
