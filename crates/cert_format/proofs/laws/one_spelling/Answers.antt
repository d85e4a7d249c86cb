use Rattle.std.proofs.Common.{◌∙◌, sym}
use Rattle.cert_format.proofs.OneAnswer.{cert_of_text}
use Rattle.cert_format.proofs.laws.one_spelling.Goals as goal

pub returns : goal.returns
returns c = (cert_of_text, λ one other cert spells spells_other. spells.text ∙ sym spells_other.text)
