use Rattle.std.proofs.Common.{Ok, refl}
use Rattle.cert_format.specs.Cert.{text_of_cert}
use Rattle.cert_format.specs.Reads.{Spells}
use Rattle.cert_format.proofs.OneAnswer.{answer_one}
use Rattle.cert_format.proofs.laws.round_trip.Goals as goal

pub returns : goal.returns
returns c = λ cert has.
    let spells : Spells (text_of_cert cert) cert = record { has = has; text = refl } in
    (spells, λ answer reads. answer_one (text_of_cert cert) answer (Ok cert) reads spells)
