use Rattle.record_cut.proofs.Rows.{row-written}
use Rattle.record_cut.proofs.row.push_row.Goals as goal

pub returns-clause-text : goal.returns-clause-text
returns-clause-text c = row-written c.reserve.new.self.items c.args.text.now.items c.push_first_field.new.text.items c.push_others.new.text.items c.args.sep c.args.fields.now c.at.result.now c.width-2.result c.requires c.at.ensures c.width-2.ensures c.in_ok-reserve.ensures.items c.in_ok-push_first_field.ensures.text c.in_ok-push_others.ensures.text
