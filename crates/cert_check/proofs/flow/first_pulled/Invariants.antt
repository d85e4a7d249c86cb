use Rattle.std.proofs.Common.{◌≡◌, drop}
use Rattle.series_csv.specs.Readings.{places}
use Rattle.bound_maker.specs.Costs.{weights}
use Rattle.cert_check.specs.Repair.{first_pulled}
use Rattle.cert_check.proofs.flow.first_pulled.Given as goal

abbrev pub invariant-loop-pull : goal.invariant-loop-pull
invariant-loop-pull l = record {
  place : l.i ≡ l.pull-index;
  rest : first_pulled (drop l.pull-index l.pulls) (drop l.pull-index (weights l.rules l.table)) (drop l.pull-index (places l.table)) ≡ first_pulled l.pulls (weights l.rules l.table) (places l.table);
}
