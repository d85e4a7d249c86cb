use Rattle.series_rows.proofs.OneRow.{row_one}
use Rattle.series_rows.proofs.laws.one_row.Goals as goal

pub returns : goal.returns
returns c = λ rules header limits before fields one other p q. row_one rules header limits before fields c.one_answer.ensures c.one_answer-2.ensures one other p q
