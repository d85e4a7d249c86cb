use Rattle.std.proofs.Common.{◌∙◌, ap, length}
use Rattle.std.specs.Prelude.{List, ℤ}
use Rattle.std.proofs.lemmas.List.{length-map}
use Rattle.screen_model.specs.Flow.{pull}
use Rattle.screen_model.specs.Names.{amounts_of}
use Rattle.series_csv.specs.Readings.{places}
use Rattle.bound_maker.specs.Costs.{whole_problem}
use Rattle.cert_check.proofs.repair.check_flow.Goals as goal

pub first_pulled-requires-clause-long : goal.first_pulled-requires-clause-long
first_pulled-requires-clause-long c =
    let bounds = (whole_problem c.args.rules.now c.args.table.now).bounds in
    ap (λ (xs : List ℤ). length xs) (c.as_slice.ensures ∙ c.requires.pulls) ∙ length-map (places c.args.table.now) (pull bounds (amounts_of c.args.claim.now.flow bounds))

pub dual_value-requires-clause-long : goal.dual_value-requires-clause-long
dual_value-requires-clause-long c =
    let bounds = (whole_problem c.args.rules.now c.args.table.now).bounds in
    ap (λ (xs : List ℤ). length xs) c.requires.pulls ∙ length-map (places c.args.table.now) (pull bounds (amounts_of c.args.claim.now.flow bounds))
