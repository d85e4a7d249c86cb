use Rattle.sample_maker.proofs.Levels.{level_near}
use Rattle.sample_maker.proofs.walk.levels_move_slowly.Goals as goal

pub returns : goal.returns
returns c = level_near
