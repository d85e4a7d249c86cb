use Rattle.repair_report.proofs.Cycles.{is_found}
use Rattle.repair_report.proofs.cycle.bound_named.Goals as goal

pub unwrap-requires : goal.unwrap-requires
unwrap-requires c = is_found c.args.rules.now c.args.table.now c.args.name c.bound_of.result c.bound_of.ensures c.requires
