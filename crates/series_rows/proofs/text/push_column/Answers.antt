use Rattle.std.proofs.Common.{◌≡◌, ◌++◌, true, false, length, drop, sym, ap, ◌∙◌}
use Rattle.series_rows.specs.Columns.{is_at, text_of_column}
use Rattle.series_rows.specs.Header.{field_at}
use Rattle.series_rows.proofs.RowTexts.{field_written, value_fits, value_written}
use Rattle.series_rows.proofs.text.push_column.Goals as goal

pub returns-then-is_next-clause-rest : goal.returns-then-is_next-clause-rest
returns-then-is_next-clause-rest c =
    let here : is_at (drop c.args.next c.args.row.now.readings) c.args.col ≡ true = ap (λ rs. is_at (drop c.args.next rs) c.args.col) (sym c.readings.ensures.readings) ∙ sym c.is_next.ensures ∙ c.if-is_next.true in
    value_written c.args.format.now c.args.row.now c.args.values.now c.args.col c.args.next _ c.args.text.now.items c.push_value.new.text.items c.requires.values.count c.requires.least c.requires.most here
    (value_fits c.args.row.now.readings c.args.values.now c.args.next c.args.col c.requires.values.count c.requires.values.small here) (c.in_ok-push_value.ensures.ok (length c.args.row.now.fields))

pub returns-clause-rest : goal.returns-clause-rest
returns-clause-rest c =
    let other : is_at (drop c.args.next c.args.row.now.readings) c.args.col ≡ false = ap (λ rs. is_at (drop c.args.next rs) c.args.col) (sym c.readings.ensures.readings) ∙ sym c.is_next.ensures ∙ c.if-is_next.false in
    field_written c.args.format.now c.args.row.now c.args.values.now c.args.col c.args.next c.args.text.now.items c.push_unchanged.new.text.items c.requires.values.count c.requires.least c.requires.most other
    (c.in_ok-push_unchanged.ensures.ok
    ∙ ap (λ w. c.args.text.now.items ++ text_of_column c.args.format.now.separator w c.args.col c.field_in.result.now) (c.width.ensures ∙ ap length c.fields-fields.ensures.fields)
    ∙ ap (λ field. c.args.text.now.items ++ text_of_column c.args.format.now.separator (length c.args.row.now.fields) c.args.col field) (c.field_in.ensures ∙ ap (λ fs. field_at fs c.args.col) c.fields-fields.ensures.fields))
