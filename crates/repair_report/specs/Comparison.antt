-- For proofs: readings compared with the values of a series.
use Rattle.std.specs.Prelude.{◌≡◌, List, filter}
use Rattle.repair_report.specs.declared.comparison.Comparison.{Comparison}
use Rattle.repair_report.specs.declared.reading.Repaired.{Repaired}
use Rattle.repair_report.specs.Readings.{is_changed}
use Rattle.repair_report.specs.Tallies.{AreTallies}

-- the tallies of these readings, and those of them that changed
pub record IsComparison (readings : List Repaired) (comparison : Comparison) : Type 0 where
  pub tallied : AreTallies readings comparison.tallies.items
  pub changes : comparison.changes ≡ filter is_changed readings
