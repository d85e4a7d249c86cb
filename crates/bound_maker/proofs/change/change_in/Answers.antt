use Rattle.std.proofs.Common.{rules, ◌∙◌, ap, ℤ, get_or, w64, arith, length}
use Rattle.std.specs.Prelude.{List}
use Rattle.std.proofs.lemmas.Int.{to_z-of_z}
use mir.Val.{SFits}
use Rattle.rule_file.specs.Numbers.{rules_in_order}
use Rattle.series_rows.specs.declared.cell.RowReading.{RowReading}
use Rattle.bound_maker.specs.Bounds.{with_columns}
use Rattle.bound_maker.proofs.Changes.{changed, changed_all, changed_step, no_reading, weigh}
use Rattle.bound_maker.proofs.change.change_in.Goals as goal

pub loop-index-preserved : goal.loop-index-preserved
loop-index-preserved c =
    let ruled = with_columns 1 (rules_in_order c.args.rules.now) c.args.header.now.sensor_cols in
    let long = ap (λ (rs : List RowReading). length rs) c.readings-readings.ensures.readings in
    let fits : SFits w64 c.ticks-ticks.result = search rules in
    let time = to_z-of_z w64 c.ticks-ticks.result fits ∙ c.ticks-ticks.ensures in
    let weighs = c.weight-weight.ensures.weight ∙ ap (λ (t : ℤ). weigh ruled t (get_or c.readings-readings.result.now c.loop-index.index no_reading)) time in
    record {
      stays = c.weight-weight.ensures.stays;
      value = changed_step (weigh ruled c.args.row.now.ticks) c.readings-readings.result.now c.args.series.now c.loop-index.index c.weight-weight.result c.weighted-change.result c.loop-index.change _
          c.loop-index-test.true (omega (arith, long, c.requires.long, c.loop-index-test.true)) weighs c.weighted-change.ensures.value c.loop-index.invariant.value;
      small = omega (arith, c.weighted-change.ensures.small, c.loop-index.invariant.small);
    }

pub returns-clause-value : goal.returns-clause-value
returns-clause-value c =
    let ruled = with_columns 1 (rules_in_order c.args.rules.now) c.args.header.now.sensor_cols in
    changed_all (weigh ruled c.args.row.now.ticks) c.readings-readings.result.now c.args.series.now c.loop-index.index c.loop-index.change _ c.loop-index-test.false c.loop-index.invariant.value
    ∙ ap (λ (rs : List RowReading). changed (weigh ruled c.args.row.now.ticks) rs c.args.series.now) c.readings-readings.ensures.readings
