use Rattle.std.proofs.Common.{◌≡◌, drop, length}
use Rattle.series_csv.specs.Readings.{places, values}
use Rattle.cert_format.specs.Sets.{series_set}
use Rattle.cert_check.proofs.sets.series_with.Given as goal

abbrev pub invariant-loop-line : goal.invariant-loop-line
invariant-loop-line l = record {
  long : length l.series ≡ length (places l.table);
  rest : series_set (places l.table) l.series (drop l.line-index l.sets) ≡ series_set (places l.table) (values l.table) l.sets;
}
