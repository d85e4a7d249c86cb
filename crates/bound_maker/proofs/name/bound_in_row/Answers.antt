use Rattle.std.proofs.Common.{ℕ, Option, ap, ◌∙◌}
use Rattle.pair_bounds.specs.Pairs.{between_bound}
use Rattle.bound_maker.specs.Bounds.{col_if_read}
use Rattle.bound_maker.proofs.Lookups.{finds_in_row, no_row_of_two, no_such_row}
use Rattle.bound_maker.proofs.name.bound_in_row.Goals as goal

pub returns-then-name : goal.returns-then-name
returns-then-name c = no_row_of_two c.args.rule.now c.args.second c.args.table.now c.args.name c.if-name.true

pub returns-in-Some : goal.returns-in-Some
returns-in-Some c =
    let name = c.args.name in
    let rule = c.args.rule.now in
    let row = c.in-Some.row.now in
    finds_in_row rule c.args.second c.args.table.now name row c.between_bound.result c.if-name.false c.in-Some.ensures
    (c.between_bound.ensures
    ∙ (ap (λ (o : Option ℕ). between_bound name.rule rule name.from_row o c.col_if_read-second_col.result name.side) c.col_if_read-first_col.ensures
    ∙ ap (λ (o : Option ℕ). between_bound name.rule rule name.from_row (col_if_read name.col row) o name.side) c.col_if_read-second_col.ensures))

pub returns-in-None : goal.returns-in-None
returns-in-None c = no_such_row c.args.rule.now c.args.second c.args.table.now c.args.name c.in-None.ensures
