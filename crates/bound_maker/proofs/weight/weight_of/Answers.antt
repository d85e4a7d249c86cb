use Rattle.std.proofs.Common.{◌∙◌, ap, sym, arith}
use Rattle.rule_file.specs.Numbers.{rules_in_order}
use Rattle.series_rows.specs.Header.{HeaderView}
use Rattle.series_csv.specs.Readings.{places}
use Rattle.series_csv.proofs.Indexing.{some_within}
use Rattle.bound_maker.specs.Bounds.{with_columns}
use Rattle.bound_maker.specs.Costs.{weight_of}
use Rattle.bound_maker.proofs.Changes.{has_row, weight_there}
use Rattle.bound_maker.proofs.weight.weight_of.Goals as goal

pub returns-in_default : goal.returns-in_default
returns-in_default c = absurd (some_within (places c.args.table.now) c.args.i (omega (arith, c.requires, c.places-places.ensures.len)) (sym c.place.ensures ∙ c.in_default.is))

pub returns-in_default-row : goal.returns-in_default-row
returns-in_default-row c = absurd (has_row c.args.table.now c.args.i c.in-Some.place (sym c.place.ensures ∙ c.in-Some.is) c.in_default-row.ensures)

pub returns : goal.returns
returns c =
    let table = c.args.table.now in
    weight_there (with_columns 1 (rules_in_order c.args.rules.now) table.header.sensor_cols) table c.args.i c.in-Some.place c.in-Some-row.row.now c.weight_in.result (sym c.place.ensures ∙ c.in-Some.is) c.in-Some-row.ensures
    (c.weight_in.ensures ∙ ap (λ (header : HeaderView). weight_of (with_columns 1 (rules_in_order c.args.rules.now) header.sensor_cols) c.in-Some.place.col c.in-Some-row.row.now.ticks) c.header.ensures)
