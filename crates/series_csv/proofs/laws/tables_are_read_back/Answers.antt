use Rattle.series_csv.proofs.ReadingBack.{tables_back}
use Rattle.series_csv.proofs.laws.tables_are_read_back.Goals as goal

pub returns : goal.returns
returns c = tables_back c.row_texts_are_cut_back.ensures c.rows_are_read_back.ensures
