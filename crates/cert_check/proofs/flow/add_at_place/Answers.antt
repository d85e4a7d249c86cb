use Rattle.std.proofs.Common.{◌≡◌, ◌∙◌, ap, pos, ◌+ℤ◌, get_or, set, of_z, to_z}
use Rattle.std.specs.Int.{w128}
use Rattle.std.proofs.lemmas.Int.{to_z-of_z}
use Rattle.series_csv.specs.Readings.{places}
use Rattle.cert_check.proofs.Added.{added_found, added_none}
use Rattle.cert_check.proofs.flow.add_at_place.Goals as goal

pub returns-in-Some : goal.returns-in-Some
returns-in-Some c =
    let same : to_z w128 (of_z w128 c.args.amount) ≡ c.args.amount = to_z-of_z w128 c.args.amount c.ranges.amount in
    c.add_to.ensures
    ∙ (ap (λ z. set c.args.pulls.now c.in-Some.i (get_or c.args.pulls.now c.in-Some.i (pos 0) +ℤ z)) same
    ∙ added_found (places c.args.table.now) c.args.pulls.now c.in-Some.i c.args.place c.args.amount c.places-places.ensures.distinct c.requires.long c.in-Some.ensures)

pub returns-in-None : goal.returns-in-None
returns-in-None c = added_none (places c.args.table.now) c.args.pulls.now c.args.place c.args.amount c.requires.long c.in-None.ensures
