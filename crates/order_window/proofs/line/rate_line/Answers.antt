use Rattle.std.proofs.Common.{ℕ, ◌*◌, ◌^◌, ◌≤◌, ◌≡◌, ℤ, pos, ◌*ℤ◌, FitsSigned, to_z, of_z, lit<, sym, ap, ◌∙◌, subst, arith}
use Rattle.std.specs.Int.{w128}
use Rattle.std.proofs.lemmas.Int.{fits_signed_from_abs}
use Rattle.fix_point.proofs.Rates.{change_fits, power_small, product_of, whole_wide, wide, wide_pos}
use Rattle.order_window.specs.declared.line.Line.{Line}
use Rattle.order_window.proofs.line.rate_line.Goals as goal

run_fits : (per : ℕ) (r : ℤ) → per ≤ 10 ^ 7 → r ≡ pos per → FitsSigned w128 (to_z w128 (of_z w128 r) *ℤ pos (10 ^ 15))
run_fits per r h e =
    let P : ℤ → Type 0 = λ z. FitsSigned w128 (z *ℤ pos (10 ^ 15)) in
    subst P (sym (wide_pos per r (omega (arith, h)) e)) (fits_signed_from_abs w128 (pos (per * 10 ^ 15)) (omega (arith, h)))

pub overflow_mul-run : goal.overflow_mul-run
overflow_mul-run c = run_fits c.args.rate.per c.from-run.result c.requires.rate.per_most c.from-run.ensures

pub overflow_mul-rise : goal.overflow_mul-rise
overflow_mul-rise c =
    let power = power_small c.args.d c.requires.decimals in
    let product = product_of (to_z w128 (of_z w128 c.from.result)) (to_z w128 (of_z w128 c.pow.result)) c.args.rate.millionths (pos (10 ^ c.args.d)) (10 ^ 15) (10 ^ 6) (wide c.args.rate.millionths c.from.result (change_fits c.args.rate.millionths c.requires.rate.size) c.from.ensures) (wide_pos (10 ^ c.args.d) c.pow.result (omega (arith, power)) c.pow.ensures) c.requires.rate.size power (lit< tt) in
    product.fits

pub returns : goal.returns
returns c =
    let power = power_small c.args.d c.requires.decimals in
    let product = product_of (to_z w128 (of_z w128 c.from.result)) (to_z w128 (of_z w128 c.pow.result)) c.args.rate.millionths (pos (10 ^ c.args.d)) (10 ^ 15) (10 ^ 6) (wide c.args.rate.millionths c.from.result (change_fits c.args.rate.millionths c.requires.rate.size) c.from.ensures) (wide_pos (10 ^ c.args.d) c.pow.result (omega (arith, power)) c.pow.ensures) c.requires.rate.size power (lit< tt) in
    let of_run : ℤ → Line = λ run. record { run = run; rise = to_z w128 (of_z w128 (to_z w128 (of_z w128 c.from.result) *ℤ to_z w128 (of_z w128 c.pow.result))) } in
    let of_rise : ℤ → Line = λ rise. record { run = pos (c.args.rate.per * 10 ^ 15); rise = rise } in
    ap of_run (whole_wide c.args.rate.per c.from-run.result c.requires.rate.per_most c.from-run.ensures) ∙ ap of_rise product.same
