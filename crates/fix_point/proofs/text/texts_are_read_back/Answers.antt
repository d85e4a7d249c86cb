use Rattle.fix_point.proofs.Texts.{read_back}
use Rattle.fix_point.proofs.text.texts_are_read_back.Goals as goal

pub returns : goal.returns
returns c = read_back
