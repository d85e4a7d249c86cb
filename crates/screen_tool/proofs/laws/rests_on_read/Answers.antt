use Rattle.screen_tool.proofs.AnswerLaws.{rests}
use Rattle.screen_tool.proofs.laws.rests_on_read.Goals as goal

pub returns : goal.returns
returns c = rests
