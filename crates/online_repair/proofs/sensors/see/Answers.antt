use Rattle.std.proofs.Common.{pos, FitsSigned, rules, ◌∙◌}
use Rattle.std.specs.Int.{w64}
use Rattle.std.proofs.lemmas.Int.{to_z-of_z}
use Rattle.series_rows.specs.declared.cell.RowReading.{RowReading}
use Rattle.online_repair.proofs.Rounds.{see_preserved}
use Rattle.online_repair.proofs.sensors.see.Goals as goal

pub loop-reading-preserved : goal.loop-reading-preserved
loop-reading-preserved c =
    let d : RowReading = record { col = 0; value = pos 0 } in
    let fits : FitsSigned w64 c.ticks.result = search rules in
    see_preserved c.args.row.now.ticks _ c.args.row.now.readings c.readings-reading-items.result.now c.loop-reading.reading-index d c.loop-reading.tracks.items c.see_at.new.tracks.items _
    c.readings-reading-items.ensures.readings c.loop-reading-test.true (to_z-of_z w64 c.ticks.result fits ∙ c.ticks.ensures) c.see_at.ensures c.loop-reading.invariant
