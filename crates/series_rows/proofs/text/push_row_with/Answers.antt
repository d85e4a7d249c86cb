use Rattle.std.proofs.Common.{arith}
use Rattle.series_rows.proofs.Kept.{cut_back}
use Rattle.series_rows.proofs.text.push_row_with.Goals as goal

pub returns-then-is_err-clause-err : goal.returns-then-is_err-clause-err
returns-then-is_err-clause-err c = cut_back c.push_fields_with-pushed.result c.args.text.now.items c.push_fields_with-pushed.new.text.items c.truncate.new.self.items c.len-len.result (omega (arith, c.len-len.ensures, c.args.text.now.ok.0)) c.push_fields_with-pushed.ensures.front c.truncate.ensures.items
