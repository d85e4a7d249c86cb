use Rattle.std.proofs.Common.{◌≡◌, ◌*◌, ◌^◌, ◌≤◌, ◌+ℤ◌, drop}
use Rattle.std.specs.Prelude.{unsigned_abs}
use Rattle.words.specs.Lists.{inner_product}
use Rattle.cert_check.proofs.flow.pulled_values.Given as goal

abbrev pub invariant-loop-i : goal.invariant-loop-i
invariant-loop-i l = record {
  value : (l.sum +ℤ inner_product (drop l.i l.values) (drop l.i l.pulls)) ≡ inner_product l.values l.pulls;
  small : unsigned_abs l.sum ≤ l.i * 2 ^ 96;
}
