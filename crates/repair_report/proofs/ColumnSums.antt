-- The columns of sensors, and the sums of each.
use Rattle.std.proofs.Common.{◌≡◌, ℕ, zero, suc, ◌+◌, ◌*◌, ◌^◌, ◌<◌, ◌≤◌, Bool, List, length, filter, get_or, ap, ◌∙◌, arith}
use Rattle.std.specs.List.{AllByRecursion, range_with_len}
use Rattle.words.proofs.Parts.{part_all, part_filter}
use Rattle.screen_model.specs.declared.limits.TheConstants.{MOST_COLUMNS}
use Rattle.repair_report.specs.declared.reading.Repaired.{Repaired}
use Rattle.repair_report.specs.declared.tally.Tally.{Tally}
use Rattle.repair_report.specs.Readings.{in_column}
use Rattle.repair_report.specs.Tallies.{AreTallies, tally_of}
use Rattle.repair_report.proofs.Tallying.{change_small, changed_few, column_few, light_in}

range_within : (a n most : ℕ) → a + n ≤ most + 1 → AllByRecursion (λ col. col ≤ most) (range_with_len a n)
range_within a zero most h = tt
range_within a (suc n) most h = (omega (arith, h), range_within (a + 1) n most (omega (arith, h)))

pub columns_within : (test : ℕ → Bool) (width : ℕ) → width ≤ MOST_COLUMNS → AllByRecursion (λ col. col ≤ MOST_COLUMNS) (filter test (range_with_len 1 width))
columns_within test width h = part_all (λ col. col ≤ MOST_COLUMNS) (part_filter test (range_with_len 1 width)) (range_within 1 width MOST_COLUMNS (omega (arith, h)))

pub column_fits : (readings : List Repaired) (tallies : List Tally) (col : ℕ) (d : Tally) → AreTallies readings tallies → col ≤ MOST_COLUMNS → length readings ≤ 400000 → (get_or tallies col d).change ≤ 10 ^ 30
column_fits readings tallies col d are within few =
    let is = ap (λ (t : Tally). t.change) (are.each col d within) in
    omega (arith, is, change_small (in_column col readings) (light_in col readings are.light), column_few col readings, few)

-- ---- the tally of one column

module _ (readings : List Repaired) (tallies : List Tally) (col : ℕ) (d tally : Tally) (are : AreTallies readings tallies) (within : col ≤ MOST_COLUMNS) (is : tally ≡ get_or tallies col d) where
  tally_is : tally ≡ tally_of (in_column col readings)
  tally_is = is ∙ are.each col d within

  pub tally_few : (n : ℕ) → length readings ≤ n → n < 400000 → tally.readings < 400000
  tally_few n h few = omega (arith, ap (λ (t : Tally). t.readings) tally_is, column_few col readings, h, few)

  pub tally_changed : tally.changed ≤ tally.readings
  tally_changed = omega (arith, ap (λ (t : Tally). t.readings) tally_is, ap (λ (t : Tally). t.changed) tally_is, changed_few (in_column col readings))

  pub tally_small : tally.change ≤ tally.readings * 2 ^ 74
  tally_small = omega (arith, ap (λ (t : Tally). t.readings) tally_is, ap (λ (t : Tally). t.change) tally_is, change_small (in_column col readings) (light_in col readings are.light))
