use Rattle.std.proofs.Common.{List, subst}
use Rattle.rule_file.specs.Numbers.{seen_rule}
use Rattle.series_rows.specs.Row.{RowView}
use Rattle.bound_maker.specs.Readings.{readings_of}
use Rattle.bound_maker.specs.Windows.{StampsRise}
use Rattle.bound_maker.proofs.Distinct.{rows_distinct}
use Rattle.bound_maker.proofs.Finding.{finds_pair, no_first, no_second}
use Rattle.bound_maker.proofs.name.bound_of_pair.Goals as goal

pub returns-in-Some-reading_at : goal.returns-in-Some-reading_at
returns-in-Some-reading_at c =
    let name = c.args.name in
    let rows = c.args.table.now.rows in
    let rise = subst (λ (rs : List RowView). StampsRise (readings_of name.col rs)) c.rows_of-rows.ensures.rows (c.rows_of-rows.ensures.rise name.col) in
    finds_pair c.args.d (seen_rule c.args.rule) name (readings_of name.col rows) c.in-Some.from c.in-Some-reading_at.to c.bound_on_pair.result rise (rows_distinct 1 name.col rows)
    c.in-Some.ensures.found.0 c.in-Some-reading_at.ensures.found.0 c.in-Some.ensures.found.1 c.in-Some-reading_at.ensures.found.1 c.bound_on_pair.ensures

pub returns-in-None-reading_at : goal.returns-in-None-reading_at
returns-in-None-reading_at c = no_second c.args.d (seen_rule c.args.rule) c.args.name (readings_of c.args.name.col c.args.table.now.rows) c.in-None-reading_at.ensures.found

pub returns-in-None : goal.returns-in-None
returns-in-None c = no_first c.args.d (seen_rule c.args.rule) c.args.name (readings_of c.args.name.col c.args.table.now.rows) c.in-None.ensures.found
