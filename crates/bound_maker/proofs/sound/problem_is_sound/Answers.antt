use Rattle.bound_maker.proofs.Soundness.{is_sound}
use Rattle.bound_maker.proofs.sound.problem_is_sound.Goals as goal

pub returns : goal.returns
returns c = is_sound c.args.rules.now c.args.table.now c.series-series.ensures.small
