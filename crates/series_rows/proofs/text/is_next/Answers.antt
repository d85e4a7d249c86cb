use Rattle.std.proofs.Common.{sym, arith}
use Rattle.series_rows.proofs.CellOf.{no_reading}
use Rattle.series_rows.proofs.RowTexts.{head_none, head_some}
use Rattle.series_rows.proofs.text.is_next.Goals as goal

pub returns-then-next-readings : goal.returns-then-next-readings
returns-then-next-readings c = sym (head_none c.args.readings.now c.args.next c.args.col (omega arith))

pub returns : goal.returns
returns c = sym (head_some c.args.readings.now c.args.next c.args.col no_reading (omega arith))
