use Rattle.bound_maker.specs.Readings.{readings_of}
use Rattle.bound_maker.proofs.Distinct.{rows_distinct}
use Rattle.bound_maker.proofs.Lookups.{finds_within, none_named_so}
use Rattle.bound_maker.proofs.name.bound_of_range.Goals as goal

pub returns-in-Some : goal.returns-in-Some
returns-in-Some c =
    let rule = c.args.rule.now in
    let name = c.args.name in
    let rows = c.args.table.now.rows in
    finds_within rule.from rule.to (λ value. rule.min) (λ value. rule.max) name (readings_of name.col rows) c.in-Some.reading c.limits_of_range.result c.bound_on_value.result (rows_distinct 1 name.col rows) c.in-Some.ensures.named
    (record { from_is = c.limits_of_range.ensures.from; to_is = c.limits_of_range.ensures.to; least_is = c.limits_of_range.ensures.least; most_is = c.limits_of_range.ensures.most }) c.bound_on_value.ensures

pub returns-in-None : goal.returns-in-None
returns-in-None c =
    let rule = c.args.rule.now in
    none_named_so c.args.name.rule c.args.name.col rule.from rule.to (λ value. rule.min) (λ value. rule.max) c.args.name (readings_of c.args.name.col c.args.table.now.rows) c.in-None.ensures.named
