use Rattle.std.proofs.Common.{arith}
use Rattle.record_cut.proofs.Openings.{record-at_line_feed, record-at_other}
use Rattle.record_cut.proofs.place.at_record.Goals as goal

pub returns-in-10 : goal.returns-in-10
returns-in-10 c = λ sep draft count is fits. record-at_line_feed sep c.args.byte count draft fits c.in-10.is

pub returns-in_default : goal.returns-in_default
returns-in_default c = λ sep draft count is fits. record-at_other sep c.args.byte count draft fits (λ e. omega arith) (λ e. omega arith)
