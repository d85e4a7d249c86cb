use Rattle.std.proofs.Common.{◌≡◌, ◌+◌, ◌*◌, ◌^◌, ◌≤◌, drop}
use Rattle.series_csv.specs.Readings.{places}
use Rattle.bound_maker.proofs.Payments.{paid_for}
use Rattle.bound_maker.proofs.cost.payments.Given as goal

abbrev pub invariant-loop-bound : goal.invariant-loop-bound
invariant-loop-bound l = record {
  value : l.paid + paid_for l.rules (places l.table) l.series (drop l.bound-index l.bounds) ≡ paid_for l.rules (places l.table) l.series l.bounds;
  small : l.paid ≤ l.bound-index * 2 ^ 98;
}
