use Rattle.std.proofs.Common.{◌≡◌, ◌++◌, take}
use Rattle.flow_core.specs.Layout.{reading_arcs}
use Rattle.flow_core.proofs.build.push_readings.Given as goal

abbrev pub invariant-loop-reading : goal.invariant-loop-reading
invariant-loop-reading l = l.table ≡ l.initial.table ++ reading_arcs 1 (take l.reading l.values)
