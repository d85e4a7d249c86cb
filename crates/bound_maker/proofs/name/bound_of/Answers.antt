use Rattle.bound_maker.proofs.Among.{is_answer}
use Rattle.bound_maker.proofs.name.bound_of.Goals as goal

pub returns : goal.returns
returns c = is_answer c.args.rules.now c.args.table.now c.args.name c.bound_among.result c.bound_among.ensures
