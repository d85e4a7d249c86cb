-- For proofs: what is told of the readings of each column, counted one by one.
use Rattle.std.specs.Prelude.{◌≡◌, ℕ, ◌+◌, ◌^◌, ◌<◌, ◌≤◌, if◌then◌else◌, List, length, map, filter, sum, get_or}
use Rattle.std.specs.List.{AllByRecursion}
use Rattle.screen_model.specs.declared.limits.TheConstants.{MOST_COLUMNS, MOST_READINGS}
use Rattle.repair_report.specs.declared.reading.Repaired.{Repaired}
use Rattle.repair_report.specs.declared.tally.Tally.{Tally}
use Rattle.repair_report.specs.Readings.{in_column, is_changed, weighted}

abbrev pub tally_of : List Repaired → Tally
tally_of readings = record { readings = length readings; changed = length (filter is_changed readings); change = sum (map weighted readings) }

abbrev pub with_reading : Tally → Repaired → Tally
with_reading tally reading = record {
  readings = tally.readings + 1;
  changed = if is_changed reading then tally.changed + 1 else tally.changed;
  change = tally.change + weighted reading;
}

-- There is a tally for each column up to the last that a table may have, and no reading counts too much.
pub record AreTallies (readings : List Repaired) (tallies : List Tally) : Type 0 where
  pub long : length tallies ≡ MOST_COLUMNS + 1
  pub each : (col : ℕ) (d : Tally) → col ≤ MOST_COLUMNS → get_or tallies col d ≡ tally_of (in_column col readings)
  pub light : AllByRecursion (λ reading. weighted reading ≤ 2 ^ 74) readings

-- tallies of some readings, of which there may be one more
abbrev pub MayCount : List Tally → Type 0
MayCount tallies = (readings : List Repaired) × AreTallies readings tallies × (length readings < MOST_READINGS)
