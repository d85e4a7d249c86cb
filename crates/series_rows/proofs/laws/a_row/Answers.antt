use Rattle.series_rows.proofs.ARow.{row_answer}
use Rattle.series_rows.proofs.laws.a_row.Goals as goal

pub returns : goal.returns
returns c = λ rules header limits before fields. row_answer rules header limits before fields c.an_answer.ensures c.an_answer-2.ensures
