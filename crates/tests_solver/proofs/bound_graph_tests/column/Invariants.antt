use Rattle.std.proofs.Common.{◌≡◌, ◌≤◌, length}
use Rattle.std.specs.List.{AllByRecursion}
use Rattle.words.specs.Lists.{Distinct}
use Rattle.tests_solver.proofs.bound_graph_tests.column.Given as goal

abbrev pub invariant-loop-i : goal.invariant-loop-i
invariant-loop-i l = record { rows : AllByRecursion (λ p. p.row ≤ l.i) l.places; distinct : Distinct l.places; size : length l.places ≡ l.i }
