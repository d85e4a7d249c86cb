use Rattle.series_csv.proofs.Separators.{separates}
use Rattle.series_csv.proofs.Staying.{stays}
use Rattle.series_csv.proofs.laws.read_stays.Goals as goal

pub returns : goal.returns
returns c = λ rules limits bytes more read. stays c.one_header.ensures c.one_row.ensures c.faults_stay.ensures c.records_stay.ensures rules limits bytes more read (separates rules)
