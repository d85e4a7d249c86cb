use Rattle.std.proofs.Common.{◌≡◌, true, false, ℤ, pos, ◌+ℤ◌, ◌-ℤ◌, ◌≤ℤ◌, FitsSigned, to_z, of_z, ◌∙◌, arith}
use Rattle.std.specs.Prelude.{int_lt}
use Rattle.std.specs.Int.{w128}
use Rattle.std.proofs.lemmas.Int.{ints, by_lt_z, to_z-of_z}
use Rattle.window_median.specs.declared.cost.Near.{Near}
use Rattle.window_median.specs.LocalCost.{HasSteps, excess}
use Rattle.window_median.proofs.Costs.{excess_short, excess_none, excess_beyond}
use Rattle.window_median.proofs.cost.step_excess.Goals as goal

pub overflow_sub-result : goal.overflow_sub-result
overflow_sub-result c = omega (arith, ints)

pub overflow_sub-result-then-most-value : goal.overflow_sub-result-then-most-value
overflow_sub-result-then-most-value c = omega (arith, ints)

pub returns-then-value-least-clause-value : goal.returns-then-value-least-clause-value
returns-then-value-least-clause-value c = omega (arith, ints, excess_beyond c.args.v c.args.near c.requires (omega (arith, ints)))

-- a number as the code holds it
abbrev as_i128 : ℤ → ℤ
as_i128 z = to_z w128 (of_z w128 z)

-- what the tests of the code say of the value and the steps
over : (v most value sum x : ℤ) → sum ≡ v +ℤ most → x ≡ value → int_lt sum x ≡ true → v ≤ℤ (value -ℤ most)
over v most value sum x e f test = by_lt_z sum x (λ less. omega (arith, ints, e, f)) (λ more. grind (arith, ints))

excess_over : (v : ℤ) (near : Near) (sum x : ℤ) → HasSteps near → sum ≡ v +ℤ near.most → x ≡ near.value → v ≤ℤ (near.value -ℤ near.most) → (x -ℤ sum) ≡ pos (excess v near)
excess_over v near sum x steps e f short = omega (arith, ints, e, f, excess_short v near steps short)

not_over : (v most value sum x : ℤ) → sum ≡ v +ℤ most → x ≡ value → int_lt sum x ≡ false → (value -ℤ most) ≤ℤ v
not_over v most value sum x e f test = by_lt_z sum x (λ less. grind (arith, ints)) (λ more. omega (arith, ints, e, f))

not_under : (v least value sum x : ℤ) → sum ≡ v +ℤ least → x ≡ value → int_lt x sum ≡ false → v ≤ℤ (value -ℤ least)
not_under v least value sum x e f test = by_lt_z x sum (λ less. grind (arith, ints)) (λ more. omega (arith, ints, e, f))

pub returns-then-most-value-clause-value : goal.returns-then-most-value-clause-value
returns-then-most-value-clause-value c =
    let value = as_i128 c.from-value.result in
    let most = as_i128 c.sum-most.result in
    let fits : FitsSigned w128 (value -ℤ most) = omega (arith, ints) in
    let short = over c.args.v c.args.near.most c.args.near.value most value (omega (arith, ints)) (omega (arith, ints)) c.if-most-value.true in
    to_z-of_z w128 (value -ℤ most) fits ∙ excess_over c.args.v c.args.near most value c.requires (omega (arith, ints)) (omega (arith, ints)) short

pub returns-then-value-least-clause-small : goal.returns-then-value-least-clause-small
returns-then-value-least-clause-small c = omega (arith, ints, excess_beyond c.args.v c.args.near c.requires (omega (arith, ints)))

pub returns-then-most-value-clause-small : goal.returns-then-most-value-clause-small
returns-then-most-value-clause-small c = omega (arith, ints, excess_short c.args.v c.args.near c.requires (over c.args.v c.args.near.most c.args.near.value (as_i128 c.sum-most.result) (as_i128 c.from-value.result) (omega (arith, ints)) (omega (arith, ints)) c.if-most-value.true))

pub returns-else-most-value-clause-value : goal.returns-else-most-value-clause-value
returns-else-most-value-clause-value c =
    omega (
      arith,
      ints,
      excess_none c.args.v c.args.near
          (not_over c.args.v c.args.near.most c.args.near.value (as_i128 c.sum-most.result) (as_i128 c.from-value.result) (omega (arith, ints)) (omega (arith, ints)) c.if-most-value.false)
          (not_under c.args.v c.args.near.least c.args.near.value (as_i128 c.sum-least.result) (as_i128 c.from-value.result) (omega (arith, ints)) (omega (arith, ints)) c.if-value-least.false),
    )

pub returns-else-most-value-clause-small : goal.returns-else-most-value-clause-small
returns-else-most-value-clause-small c =
    omega (
      arith,
      ints,
      excess_none c.args.v c.args.near
          (not_over c.args.v c.args.near.most c.args.near.value (as_i128 c.sum-most.result) (as_i128 c.from-value.result) (omega (arith, ints)) (omega (arith, ints)) c.if-most-value.false)
          (not_under c.args.v c.args.near.least c.args.near.value (as_i128 c.sum-least.result) (as_i128 c.from-value.result) (omega (arith, ints)) (omega (arith, ints)) c.if-value-least.false),
    )
