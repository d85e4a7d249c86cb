use Rattle.bound_maker.proofs.Distinct.{all_names_distinct}
use Rattle.bound_maker.proofs.laws.names_are_distinct.Goals as goal

pub returns : goal.returns
returns c = all_names_distinct c.args.rules.now c.args.table.now c.places-places.ensures.distinct
