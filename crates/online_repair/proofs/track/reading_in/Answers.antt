use Rattle.std.proofs.Common.{ℤ, pos, get_or, FitsSigned, rules, sym, ap, ◌∙◌}
use Rattle.std.specs.Prelude.{Some}
use Rattle.std.specs.Int.{w64}
use Rattle.std.proofs.lemmas.Int.{to_z-of_z}
use Rattle.online_repair.proofs.Readings.{reading_here}
use Rattle.series_rows.specs.declared.cell.RowReading.{RowReading}
use Rattle.online_repair.proofs.track.reading_in.Goals as goal

pub returns-then-reading-col : goal.returns-then-reading-col
returns-then-reading-col c =
    let d : RowReading = record { col = 0; value = pos 0 } in
    let fits : FitsSigned w64 (get_or c.args.readings.now c.loop-reading.reading-index d).value = search rules in
    ap (λ (z : ℤ). Some z) (to_z-of_z w64 (get_or c.args.readings.now c.loop-reading.reading-index d).value fits)
    ∙ sym (reading_here c.args.col c.args.readings.now c.loop-reading.reading-index d c.loop-reading-test.true c.if-reading-col.true)
    ∙ c.loop-reading.invariant
