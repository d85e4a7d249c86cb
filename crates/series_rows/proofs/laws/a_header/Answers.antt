use Rattle.series_rows.proofs.AHeader.{header_answer}
use Rattle.series_rows.proofs.laws.a_header.Goals as goal

pub returns : goal.returns
returns c = λ rules fields. header_answer rules fields
