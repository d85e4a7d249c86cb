use Rattle.std.proofs.Common.{ℤ, List, get_or, pos, FitsSigned, rules, sym, ap, ◌∙◌}
use Rattle.std.specs.Int.{w64}
use Rattle.std.proofs.lemmas.Int.{to_z-of_z}
use Rattle.series_rows.specs.declared.cell.RowReading.{RowReading}
use Rattle.online_repair.specs.Sensors.{lacks_step_at, place_in}
use Rattle.online_repair.specs.declared.track.Track.{Track}
use Rattle.online_repair.proofs.Rounds.{find_preserved}
use Rattle.online_repair.proofs.sensors.without_step.Goals as goal

pub loop-reading-preserved : goal.loop-reading-preserved
loop-reading-preserved c =
    let d : RowReading = record { col = 0; value = pos 0 } in
    let items = c.readings-reading-items.result.now in
    let col = (get_or items c.loop-reading.reading-index d).col in
    let fits : FitsSigned w64 c.ticks.result = search rules in
    let start = c.args.tracks.now.items in
    let missed =
    ap (λ (ts : List Track). lacks_step_at (place_in col ts) ts c.args.row.now.ticks) (sym c.loop-reading.invariant.kept)
    ∙ ap (λ (t : ℤ). lacks_step_at (place_in col c.loop-reading.tracks.items) c.loop-reading.tracks.items t) (sym (to_z-of_z w64 c.ticks.result fits ∙ c.ticks.ensures))
    ∙ sym c.lacks_step.ensures.step
    ∙ c.if-lacks_step.false in
    record {
      kept = c.lacks_step.ensures.kept ∙ c.loop-reading.invariant.kept;
      rest = find_preserved (λ (reading : RowReading). lacks_step_at (place_in reading.col start) start c.args.row.now.ticks) c.args.row.now.readings items c.loop-reading.reading-index d _
          c.readings-reading-items.ensures.readings c.loop-reading-test.true missed c.loop-reading.invariant.rest;
    }
