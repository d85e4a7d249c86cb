use Rattle.std.proofs.Common.{List, ℤ, drop, pos, slice_index_or, ap, arith, rules, w64}
use Rattle.std.proofs.lemmas.Int.{to_z-of_z}
use Rattle.std.proofs.lemmas.List.{drop_all}
use mir.Val.{SFits}
use Rattle.screen_tool.specs.Sample.{changed}
use Rattle.screen_tool.proofs.Changed.{at_most_one, count_on}
use Rattle.screen_tool.proofs.sample.changed.Goals as goal

pub overflow_add-count : goal.overflow_add-count
overflow_add-count c = omega (arith, c.loop-i.invariant.1, at_most_one _ _ c.one_if_changed-count.ensures, c.loop-i-test.true, c.requires.few)

pub loop-i-preserved : goal.loop-i-preserved
loop-i-preserved c =
    let value = slice_index_or c.args.values.now c.loop-i.i (pos 0) in
    let x = slice_index_or c.args.series.now c.loop-i.i (pos 0) in
    let value_fits : SFits w64 value = search rules in
    let x_fits : SFits w64 x = search rules in (
      count_on c.args.values.now c.args.series.now c.loop-i.i (pos 0) (pos 0) _ _ c.loop-i.count c.one_if_changed-count.result c.requires.series c.loop-i-test.true
          (to_z-of_z w64 value value_fits) (to_z-of_z w64 x x_fits) c.loop-i.invariant.0 c.one_if_changed-count.ensures,
      omega (arith, c.loop-i.invariant.1, at_most_one _ _ c.one_if_changed-count.ensures),
    )

pub returns : goal.returns
returns c =
    let none = drop_all c.loop-i.i c.args.values.now c.loop-i-test.false in
    omega (arith, c.loop-i.invariant.0, ap (λ (values : List ℤ). changed values (drop c.loop-i.i c.args.series.now)) none)
