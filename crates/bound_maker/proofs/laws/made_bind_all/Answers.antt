use Rattle.bound_maker.proofs.Binding.{made_bind}
use Rattle.bound_maker.proofs.laws.made_bind_all.Goals as goal

pub returns : goal.returns
returns c = made_bind c.args.rules.now c.args.table.now c.all_rows-rows.ensures.times
