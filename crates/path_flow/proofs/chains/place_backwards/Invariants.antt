use Rattle.std.proofs.Common.{◌<◌}
use Rattle.flow_core.specs.Layout.{nodes_of}
use Rattle.path_flow.specs.Steps.{ChangesPotentials}
use Rattle.path_flow.proofs.chains.place_backwards.Given as goal

abbrev pub invariant-loop-before : goal.invariant-loop-before
invariant-loop-before l = (l.node < nodes_of l.fn.net.network) × ChangesPotentials l.fn.net l.net

abbrev pub decreases-loop-before : goal.decreases-loop-before
decreases-loop-before l = l.node
