use Rattle.series_csv.specs.StandsFor.{HasEnded}
use Rattle.tests_readings.proofs.row_reader_tests.feed_slice.Given as goal

abbrev pub invariant-loop : goal.invariant-loop
invariant-loop l = ¬ HasEnded l.reader
