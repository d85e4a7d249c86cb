use Rattle.record_cut.proofs.Within.{record-field, records-nil, records-line}
use Rattle.record_cut.proofs.laws.records_are_cut_by_lines.Goals as goal

pub returns : goal.returns
returns c = record { fields = record-field; none = records-nil; lines = records-line }
