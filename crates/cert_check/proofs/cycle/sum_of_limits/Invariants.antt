use Rattle.std.proofs.Common.{◌≡◌, ◌*◌, ◌^◌, ◌≤◌, ◌+ℤ◌, drop, map}
use Rattle.std.specs.Prelude.{unsigned_abs}
use Rattle.words.specs.Lists.{total}
use Rattle.screen_model.specs.declared.bound.Bound.{Bound}
use Rattle.cert_check.proofs.cycle.sum_of_limits.Given as goal

abbrev pub invariant-loop-bound : goal.invariant-loop-bound
invariant-loop-bound l = record {
  value : (l.sum +ℤ total (map (λ (bound : Bound). bound.limit) (drop l.bound-index l.cycle))) ≡ total (map (λ (bound : Bound). bound.limit) l.cycle);
  small : unsigned_abs l.sum ≤ l.bound-index * 2 ^ 63;
}
