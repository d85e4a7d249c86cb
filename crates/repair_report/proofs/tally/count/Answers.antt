use Rattle.std.proofs.Common.{length, set, refl, ap, ◌∙◌, arith}
use Rattle.repair_report.specs.declared.tally.Tally.{Tally}
use Rattle.repair_report.specs.Tallies.{with_reading}
use Rattle.repair_report.proofs.ColumnSums.{tally_changed, tally_few, tally_small}
use Rattle.repair_report.proofs.Tallying.{counted}
use Rattle.repair_report.proofs.tally.count.Goals as goal

pub with_reading-requires-clause-few : goal.with_reading-requires-clause-few
with_reading-requires-clause-few c =
    let some = c.requires.more in
    tally_few some.0 c.args.tallies.now.items c.args.reading.place.col c.index.result.now c.index.result.now some.1 c.requires.column c.index.ensures (length some.0) (omega arith) (omega (arith, some.2))

pub with_reading-requires-clause-changed : goal.with_reading-requires-clause-changed
with_reading-requires-clause-changed c =
    let some = c.requires.more in
    tally_changed some.0 c.args.tallies.now.items c.args.reading.place.col c.index.result.now c.index.result.now some.1 c.requires.column c.index.ensures

pub with_reading-requires-clause-small : goal.with_reading-requires-clause-small
with_reading-requires-clause-small c =
    let some = c.requires.more in
    tally_small some.0 c.args.tallies.now.items c.args.reading.place.col c.index.result.now c.index.result.now some.1 c.requires.column c.index.ensures

pub returns : goal.returns
returns c = λ readings are.
    let reading = c.args.reading in
    let old = c.args.tallies.now.items in
    let new = set old reading.place.col c.with_reading.result in
    let is = c.with_reading.ensures ∙ ap (λ (t : Tally). with_reading t reading) c.index.ensures in
    counted readings reading old new c.with_reading.result c.index.result.now are c.requires.column c.requires.light is refl
