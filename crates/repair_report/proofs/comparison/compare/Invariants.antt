use Rattle.std.proofs.Common.{◌≡◌, filter, take}
use Rattle.repair_report.specs.Readings.{is_changed}
use Rattle.repair_report.specs.Repairs.{repaired}
use Rattle.repair_report.specs.Tallies.{AreTallies}
use Rattle.repair_report.proofs.comparison.compare.Given as goal

abbrev pub invariant-loop-i : goal.invariant-loop-i
invariant-loop-i l = record {
  tallied : AreTallies (take l.i (repaired l.rules l.table l.series)) l.tallies.items;
  changes : l.changes ≡ filter is_changed (take l.i (repaired l.rules l.table l.series));
}
