use Rattle.path_flow.specs.Steps.{ChangesPotentials}
use Rattle.path_flow.proofs.starts.raise_to_least.Given as goal

abbrev pub invariant-loop-node : goal.invariant-loop-node
invariant-loop-node l = ChangesPotentials l.fn.net l.net
