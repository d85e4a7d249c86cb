use Rattle.std.proofs.Common.{◌≡◌, length}
use Rattle.std.specs.List.{AllByRecursion}
use Rattle.series_csv.specs.Readings.{IsSmall}
use Rattle.tests_readings.proofs.room_tests.all_of.Given as goal

abbrev pub invariant-loop : goal.invariant-loop
invariant-loop l = record {
  count : length l.series ≡ l.counter;
  small : AllByRecursion IsSmall l.series;
}
