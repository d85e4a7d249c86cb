use Rattle.std.proofs.Common.{rules, ◌≡◌, ◌∙◌, ap, set, w64, of_z, to_z}
use Rattle.std.proofs.lemmas.Int.{to_z-of_z}
use Rattle.series_csv.specs.Readings.{places}
use Rattle.cert_check.proofs.Placed.{set_found, set_none}
use Rattle.cert_check.proofs.sets.set_value.Goals as goal

pub returns-in-Some : goal.returns-in-Some
returns-in-Some c =
    let line : to_z w64 (of_z w64 c.args.line.now.value) ≡ c.args.line.now.value = to_z-of_z w64 c.args.line.now.value (search rules) in
    c.set.ensures
    ∙ (ap (λ z. set c.args.series.now c.in-Some.i z) line
    ∙ set_found (places c.args.table.now) c.args.series.now c.in-Some.i c.args.line.now c.places-places.ensures.distinct c.requires c.in-Some.ensures)

pub returns-in_default : goal.returns-in_default
returns-in_default c = set_none (places c.args.table.now) c.args.series.now c.args.line.now c.requires c.in_default.ensures
