use Rattle.std.proofs.Common.{◌≡◌, ◌∙◌, ap, sym, of_z, to_z}
use Rattle.std.specs.Int.{w128}
use Rattle.std.proofs.lemmas.Int.{to_z-of_z}
use Rattle.screen_model.specs.declared.place.End.{End}
use Rattle.screen_model.specs.declared.place.End.TheVariants.{At}
use Rattle.series_csv.specs.Readings.{places}
use Rattle.cert_check.specs.Tally.{added_at}
use Rattle.cert_check.proofs.Added.{added_nowhere}
use Rattle.cert_check.proofs.flow.add_at.Goals as goal

pub returns-in-Zero : goal.returns-in-Zero
returns-in-Zero c =
    added_nowhere (places c.args.table.now) c.args.pulls.now c.args.amount c.requires.long
    ∙ ap (λ (end : End). added_at (places c.args.table.now) c.args.pulls.now end c.args.amount) (sym c.in-Zero.is)

pub returns-in-At : goal.returns-in-At
returns-in-At c =
    let same : to_z w128 (of_z w128 c.args.amount) ≡ c.args.amount = to_z-of_z w128 c.args.amount c.ranges.amount in
    c.add_at_place.ensures
    ∙ (ap (λ z. added_at (places c.args.table.now) c.args.pulls.now (At c.in-At.place) z) same
    ∙ ap (λ (end : End). added_at (places c.args.table.now) c.args.pulls.now end c.args.amount) (sym c.in-At.is))
