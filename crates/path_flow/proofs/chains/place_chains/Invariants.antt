use Rattle.path_flow.specs.Steps.{ChangesPotentials}
use Rattle.path_flow.proofs.chains.place_chains.Given as goal

abbrev pub invariant-loop-place : goal.invariant-loop-place
invariant-loop-place l = ChangesPotentials l.fn.net l.net
