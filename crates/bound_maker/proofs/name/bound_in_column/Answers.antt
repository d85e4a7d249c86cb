use Rattle.rule_file.specs.Numbers.{seen_rule}
use Rattle.bound_maker.proofs.Lookups.{kind_elsewhere}
use Rattle.bound_maker.proofs.name.bound_in_column.Goals as goal

pub returns-else-ruled-name : goal.returns-else-ruled-name
returns-else-ruled-name c =
    let ruled = c.args.ruled.now in
    kind_elsewhere c.args.d c.args.table.now.rows ruled.number ruled.col ruled.second (seen_rule ruled.rule) c.args.name c.if-ruled-name.false
