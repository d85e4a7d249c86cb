use Rattle.std.proofs.Common.{ℕ, List, length, ◌≤◌, subst}
use Rattle.screen_model.specs.declared.limits.TheConstants.{MOST_COLUMNS}
use Rattle.bound_maker.proofs.Writing.{row_columns}
use Rattle.bound_maker.proofs.written.has_few_columns.Goals as goal

pub returns : goal.returns
returns c =
    row_columns c.args.row.now c.readings-readings.result.now c.readings-readings.ensures.readings
    (subst (λ (fields : List (List ℕ)). length fields ≤ MOST_COLUMNS) c.fields-fields.ensures.fields c.fields-fields.ensures.most) c.readings-readings.ensures.rise
