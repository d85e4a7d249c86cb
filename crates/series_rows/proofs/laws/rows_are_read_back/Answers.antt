use Rattle.series_rows.proofs.ReadAgain.{read_again}
use Rattle.series_rows.proofs.laws.rows_are_read_back.Goals as goal

pub returns : goal.returns
returns c = λ rules names header limits before fields row values is reads are.
    read_again c.texts_are_read_back.ensures c.row_texts_are_cut_back.ensures rules names header limits before fields row values is reads are
