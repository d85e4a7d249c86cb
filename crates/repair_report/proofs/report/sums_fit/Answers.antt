use Rattle.std.proofs.Common.{sym, arith}
use Rattle.repair_report.proofs.Sizes.{cost_fits, paid_fits}
use Rattle.repair_report.proofs.report.sums_fit.Goals as goal

pub returns-clause-cost : goal.returns-clause-cost
returns-clause-cost c =
    cost_fits c.args.rules.now c.args.table.now c.args.series.now c.requires.obeys c.problem_is_sound.ensures c.best_over_made.ensures c.requires.few (sym c.places-places.ensures.len)
    (omega (arith, c.len-count.ensures.len, c.len-count.ensures.most)) c.requires.counted.light

pub returns-clause-paid : goal.returns-clause-paid
returns-clause-paid c = omega (arith, paid_fits c.args.rules.now c.args.table.now c.args.series.now c.requires.obeys c.problem_is_sound.ensures c.best_over_made.ensures c.requires.few)
