use Rattle.std.proofs.Common.{◌≡◌, ◌+◌, drop}
use Rattle.series_csv.specs.Readings.{places}
use Rattle.cert_check.specs.declared.cycle.TheConstants.{BEFORE_STEPS}
use Rattle.cert_check.proofs.Steps.{IsOpenSoFar}
use Rattle.cert_check.proofs.cycle.first_open.Given as goal

abbrev pub invariant-loop-bound : goal.invariant-loop-bound
invariant-loop-bound l = record {
  number : l.number ≡ BEFORE_STEPS + l.bound-index;
  open_so_far : IsOpenSoFar (places l.table) l.cycle l.marks l.last l.number (drop l.bound-index l.cycle);
}
