use Rattle.series_rows.specs.declared.limits.Limits.TheVariants.{Whole}
use Rattle.screen_steps.proofs.laws.files_are_one.Goals as goal

pub returns-clause-readings : goal.returns-clause-readings
returns-clause-readings c = λ rules bytes one other. (c.one_answer-2.ensures rules Whole bytes).table one other
