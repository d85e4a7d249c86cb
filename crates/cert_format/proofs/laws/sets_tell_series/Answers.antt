use Rattle.cert_format.proofs.Sets.{tells}
use Rattle.cert_format.proofs.laws.sets_tell_series.Goals as goal

pub returns : goal.returns
returns c = tells
