use Rattle.screen_tool.proofs.AnswerLaws.{outcomes_one}
use Rattle.screen_tool.proofs.laws.one_outcome.Goals as goal

pub returns : goal.returns
returns c = outcomes_one c.files_are_one.ensures.rules c.files_are_one.ensures.readings c.files_are_one.ensures.certs c.outputs_are_one.ensures c.refusals_stay.ensures
