use Rattle.std.proofs.Common.{subst}
use Rattle.rule_file.specs.Numbers.{seen_rule}
use Rattle.series_rows.specs.Header.{HeaderView}
use Rattle.bound_maker.specs.Ruled.{IsRuled, named_before}
use Rattle.bound_maker.proofs.Among.{finds_of_rule, no_rule}
use Rattle.bound_maker.proofs.Making.{bounded_number}
use Rattle.bound_maker.proofs.name.ruled_bound.Goals as goal

pub bound_in_column-requires-clause-bounded : goal.bound_in_column-requires-clause-bounded
bound_in_column-requires-clause-bounded c = bounded_number c.args.rules.now c.args.name.rule (seen_rule c.in-Some.ruled.rule) c.in-Some.ensures.rule_is

pub returns-in-Some : goal.returns-in-Some
returns-in-Some c =
    let rules = c.args.rules.now in
    let table = c.args.table.now in
    let name = c.args.name in
    let ruled = c.in-Some.ruled in
    let is = subst (λ (header : HeaderView). IsRuled rules header.sensor_cols name.rule (named_before rules name.rule) (seen_rule ruled.rule) ruled.number ruled.col ruled.second) c.header.ensures c.in-Some.ensures in
    finds_of_rule rules table name (seen_rule ruled.rule) ruled.number ruled.col ruled.second c.bound_in_column.result is c.bound_in_column.ensures

pub returns-in-None : goal.returns-in-None
returns-in-None c = no_rule c.args.rules.now c.args.table.now c.args.name c.requires c.in-None.ensures
