use Rattle.std.proofs.Common.{sym, ◌∙◌, rules, w64}
use Rattle.std.proofs.lemmas.Int.{to_z-of_z}
use mir.Val.{SFits}
use Rattle.series_csv.specs.Readings.{places}
use Rattle.bound_maker.proofs.Found.{no_value, value_found}
use Rattle.bound_maker.proofs.cost.reading_at.Goals as goal

pub returns-in-Some : goal.returns-in-Some
returns-in-Some c =
    let fits : SFits w64 c.value_of.result = search rules in
    to_z-of_z w64 c.value_of.result fits
    ∙ (c.value_of.ensures ∙ sym (value_found (places c.args.table.now) c.args.series.now c.in-Some.i c.args.place c.places-places.ensures.distinct c.in-Some.ensures))

pub returns-in-None : goal.returns-in-None
returns-in-None c = sym (no_value (places c.args.table.now) c.args.series.now c.args.place c.in-None.ensures)
