use Rattle.std.proofs.lemmas.Result.{on_ok_weaker}
use Rattle.fix_point.proofs.Texts.{point_more}
use Rattle.fix_point.proofs.text.push_decimals.Goals as goal

pub returns-clause-text : goal.returns-clause-text
returns-clause-text c = on_ok_weaker c.push_places.result (point_more c.args.text.now.items c.push.new.self.items c.push_places.new.text.items c.args.count c.args.size c.if-count-eq0.false c.in_ok-push.ensures.items) c.push_places.ensures.text
