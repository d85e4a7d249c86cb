use Rattle.series_csv.specs.StandsFor.{HasEnded}
use Rattle.tests_readings.proofs.row_reader_tests.by_bytes.Given as goal

abbrev pub invariant-loop-byte : goal.invariant-loop-byte
invariant-loop-byte g l = ¬ HasEnded l.reader
