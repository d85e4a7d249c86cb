use Rattle.std.proofs.Common.{◌≡◌}
use Rattle.bound_maker.specs.Broken.{first_broken}
use Rattle.bound_maker.proofs.Payments.{broken_or_obeys}
use Rattle.bound_maker.proofs.cost.first_broken.Goals as goal

pub returns-clause-none : goal.returns-clause-none
returns-clause-none c =
    let is : c.first_broken_of.result ≡ first_broken c.args.rules.now c.args.table.now c.args.bounds.now c.args.series.now = cc in
    broken_or_obeys c.args.rules.now c.args.table.now c.args.series.now c.args.bounds.now c.first_broken_of.result is
