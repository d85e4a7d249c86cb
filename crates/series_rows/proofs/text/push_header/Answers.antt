use Rattle.std.proofs.Common.{arith}
use Rattle.series_rows.proofs.Kept.{cut_back}
use Rattle.series_rows.proofs.text.push_header.Goals as goal

pub push_row-pushed-requires : goal.push_row-pushed-requires
push_row-pushed-requires c = omega (arith, c.fields.ensures.least)

pub returns-then-is_err-clause-err : goal.returns-then-is_err-clause-err
returns-then-is_err-clause-err c = cut_back c.push_row-pushed.result c.args.text.now.items c.push_row-pushed.new.text.items c.truncate.new.self.items c.len-len.result (omega (arith, c.len-len.ensures, c.args.text.now.ok.0)) c.push_row-pushed.ensures.front c.truncate.ensures.items
