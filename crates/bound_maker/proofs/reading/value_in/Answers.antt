use Rattle.std.proofs.Common.{get_or, sym, ap, ◌∙◌, rules, Some, option_map, w64}
use Rattle.std.specs.Prelude.{◌==◌}
use Rattle.std.proofs.lemmas.Int.{to_z-of_z}
use mir.Val.{SFits}
use Rattle.series_rows.specs.declared.cell.RowReading.{RowReading}
use Rattle.bound_maker.proofs.Changes.{no_reading}
use Rattle.bound_maker.proofs.Found.{found_here, found_later, eqb_yes, eqb_no}
use Rattle.bound_maker.proofs.reading.value_in.Goals as goal

pub returns-then-reading-col : goal.returns-then-reading-col
returns-then-reading-col c =
    let xs = c.args.readings.now in
    let i = c.loop-reading.reading-index in
    let value = (get_or xs i no_reading).value in
    let fits : SFits w64 value = search rules in
    ap Some (to_z-of_z w64 value fits)
    ∙ sym (ap (option_map (λ (reading : RowReading). reading.value)) (c.loop-reading.invariant ∙ found_here (λ (reading : RowReading). reading.col == c.args.col) xs i no_reading c.loop-reading-test.true (eqb_yes _ _ c.if-reading-col.true)))

pub loop-reading-preserved : goal.loop-reading-preserved
loop-reading-preserved c =
    c.loop-reading.invariant ∙ found_later (λ (reading : RowReading). reading.col == c.args.col) c.args.readings.now c.loop-reading.reading-index no_reading c.loop-reading-test.true (eqb_no _ _ c.if-reading-col.false)
