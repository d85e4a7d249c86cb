use Rattle.std.proofs.Common.{get_or, sym, ap, ◌∙◌, rules, w64}
use Rattle.std.proofs.lemmas.Int.{to_z-of_z}
use mir.Val.{SFits}
use Rattle.series_rows.specs.declared.cell.Cell.TheVariants.{Reading}
use Rattle.series_rows.proofs.CellOf.{cell_here, cell_later, no_reading}
use Rattle.series_rows.proofs.row.sensor_cell.Goals as goal

pub returns-then-reading-col : goal.returns-then-reading-col
returns-then-reading-col c =
    let value = (get_or c.args.readings.now c.loop-reading.reading-index no_reading).value in
    let fits : SFits w64 value = search rules in
    ap Reading (to_z-of_z w64 value fits) ∙ sym (c.loop-reading.invariant ∙ cell_here c.args.readings.now c.args.missing.now c.loop-reading.reading-index c.args.col no_reading c.loop-reading-test.true c.if-reading-col.true)

pub loop-reading-preserved : goal.loop-reading-preserved
loop-reading-preserved c = c.loop-reading.invariant ∙ cell_later c.args.readings.now c.args.missing.now c.loop-reading.reading-index c.args.col no_reading c.loop-reading-test.true c.if-reading-col.false
