use Rattle.std.proofs.Common.{Err, ap, ◌∙◌}
use Rattle.std.proofs.lemmas.Result.{err_from_is_err_and}
use Rattle.series_csv.proofs.Reached.{first_refused}
use Rattle.series_csv.proofs.progress.Progress.read.Goals as goal

pub returns-in_err-header-in-None : goal.returns-in_err-header-in-None
returns-in_err-header-in-None c =
    let given = err_from_is_err_and c.from_residual.result c.from_residual.ensures.1 in
    first_refused c.args.rules.now c.args.limits c.args.self.now c.args.self.now c.args.fields c.from_residual.result c.in_err-header-in-None.field-0.0 c.in-None.is (given.1 ∙ ap Err given.2) c.in_err-header-in-None.ensures.refused
