use Rattle.std.proofs.Common.{length, pos, FitsSigned, rules, ap, ◌≤◌, ◌∙◌, arith}
use Rattle.std.specs.Int.{w64}
use Rattle.std.proofs.lemmas.Int.{to_z-of_z}
use Rattle.series_rows.specs.declared.cell.RowReading.{RowReading}
use Rattle.online_repair.proofs.Rows.{next_ready, ready_preserved, row_done, row_preserved}
use Rattle.online_repair.proofs.sensors.repair_row.Goals as goal

pub value_of-value-requires : goal.value_of-value-requires
value_of-value-requires c =
    let d : RowReading = record { col = 0; value = pos 0 } in
    let fits : FitsSigned w64 c.ticks.result = search rules in
    let now = to_z-of_z w64 c.ticks.result fits ∙ c.ticks.ensures in
    let items = c.readings-reading-items.result.now in
    next_ready c.loop-reading.tracks.items c.args.held.now.items c.args.row.now.ticks _ c.args.row.now.readings items c.loop-reading.reading-index d c.readings-reading-items.ensures.readings c.loop-reading-test.true now c.loop-reading.invariant.ready

pub loop-reading-preserved : goal.loop-reading-preserved
loop-reading-preserved c =
    let d : RowReading = record { col = 0; value = pos 0 } in
    let fits : FitsSigned w64 c.ticks.result = search rules in
    let now = to_z-of_z w64 c.ticks.result fits ∙ c.ticks.ensures in
    let items = c.readings-reading-items.result.now in
    let value : FitsSigned w64 c.value_of-value.result = search rules in
    record {
      ready = ready_preserved c.loop-reading.tracks.items c.value_of-value.new.tracks.items c.args.held.now.items c.args.row.now.ticks _ c.args.row.now.readings items c.loop-reading.reading-index d c.value_of-value.result _
          c.readings-reading-items.ensures.readings c.loop-reading-test.true now c.readings-reading-items.ensures.rise c.value_of-value.ensures c.loop-reading.invariant.ready;
      row = row_preserved _ c.loop-reading.tracks.items c.value_of-value.new.tracks.items c.args.held.now.items c.args.row.now.ticks _ c.args.row.now.readings items c.loop-reading.reading-index d c.value_of-value.result _ c.loop-reading.values.items c.push.new.self.items
          c.readings-reading-items.ensures.readings c.loop-reading-test.true now (to_z-of_z w64 c.value_of-value.result value) c.value_of-value.ensures c.in_ok-push.ensures.items c.loop-reading.invariant.row;
    }

pub returns : goal.returns
returns c =
    let end : length c.args.row.now.readings ≤ c.loop-reading.reading-index = omega (arith, ap length c.readings-reading-items.ensures.readings) in
    row_done _ c.loop-reading.tracks.items c.args.held.now.items c.args.row.now.ticks c.args.row.now.readings c.loop-reading.reading-index c.loop-reading.values.items end c.loop-reading.invariant.row
