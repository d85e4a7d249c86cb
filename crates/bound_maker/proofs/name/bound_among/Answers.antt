use Rattle.bound_maker.proofs.Among.{finds_size}
use Rattle.bound_maker.proofs.name.bound_among.Goals as goal

pub returns-then-name-eq0 : goal.returns-then-name-eq0
returns-then-name-eq0 c = finds_size c.args.rules.now c.args.table.now c.args.name c.size_bound.result c.if-name-eq0.true c.size_bound.ensures
