use Rattle.cert_format.proofs.Lengths.{short_texts}
use Rattle.cert_format.proofs.laws.short_texts.Goals as goal

pub returns : goal.returns
returns c = short_texts
