use Rattle.series_csv.proofs.HaveAnswers.{answers}
use Rattle.series_csv.proofs.laws.files_have_answers.Goals as goal

pub returns : goal.returns
returns c = answers c.a_header.ensures c.a_row.ensures
