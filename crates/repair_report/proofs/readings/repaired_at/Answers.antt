use Rattle.std.proofs.Common.{◌≡◌, Some, sym, ap, ◌∙◌, rules, w64}
use Rattle.std.specs.Prelude.{slice_get}
use Rattle.std.proofs.lemmas.Int.{to_z-of_z}
use mir.Val.{SFits}
use Rattle.series_csv.specs.Readings.{places, values}
use Rattle.bound_maker.specs.Costs.{weights}
use Rattle.repair_report.proofs.Zipped.{repaired_there}
use Rattle.repair_report.proofs.readings.repaired_at.Goals as goal

pub returns-clause-reading : goal.returns-clause-reading
returns-clause-reading c =
    let table = c.args.table.now in
    let place = c.place_at-place.result in
    let weight = c.weight_at-weight.result in
    let from = c.value_at-from.result in
    let to = c.value_at-to.result in
    let from_fits : SFits w64 from = search rules in
    let to_fits : SFits w64 to = search rules in
    let from_there : slice_get (values table) c.args.i ≡ Some from = sym (ap (λ vs. slice_get vs c.args.i) c.series.ensures.values) ∙ c.value_at-from.ensures in
    let parts = c.light_reading.ensures.parts ∙ (λ j. record { place = place; weight = weight; from = to_z-of_z w64 from from_fits j; to = to_z-of_z w64 to to_fits j }) in
    repaired_there (places table) (weights c.args.rules.now table) (values table) c.args.series.now c.args.i place weight from to c.place_at-place.ensures.place c.weight_at-weight.ensures.weight from_there c.value_at-to.ensures
    ∙ ap Some (sym parts)
