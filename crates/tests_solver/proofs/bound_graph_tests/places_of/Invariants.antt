use Rattle.words.specs.Lists.{Distinct}
use Rattle.tests_solver.proofs.bound_graph_tests.places_of.Given as goal

abbrev pub invariant-loop-cell : goal.invariant-loop-cell
invariant-loop-cell l = Distinct l.places
