use Rattle.std.proofs.Common.{◌≡◌, ◌++◌, subst, arith, to_z, of_z}
use mir.Syntax.{w128}
use Rattle.std.specs.Prelude.{OnOk}
use Rattle.std.proofs.lemmas.Int.{ints}
use Rattle.fix_point.specs.Text.{text_of_value}
use Rattle.series_rows.specs.Columns.{text_of_column}
use Rattle.record_cut.proofs.Fronts.{front_stays}
use Rattle.series_rows.proofs.Kept.{front_added}
use Rattle.series_rows.proofs.Plain.{plain_text, in_first, in_later}
use Rattle.series_rows.proofs.RowTexts.{value_first, value_later}
use Rattle.series_rows.proofs.text.push_value.Goals as goal

pub returns-then-col-eq1-clause-ok : goal.returns-then-col-eq1-clause-ok
returns-then-col-eq1-clause-ok c = λ width.
    let same : to_z w128 (of_z w128 c.from.result) ≡ c.args.value = omega (arith, ints, c.from.ensures, c.requires.small) in
    let d = c.args.format.now.decimals in
    let text = text_of_value c.args.value d in
    let sep = c.args.format.now.separator in
    value_first c.push_text_of.result c.push_text_of.new.text.items c.args.text.now.items text (text_of_column sep width c.args.col text)
    (in_first sep width c.args.col text c.args.format.now.limits.separator (plain_text c.args.value d (omega (arith, c.requires.small))) c.if-col-eq1.true)
    (subst (λ v. OnOk c.push_text_of.result (c.push_text_of.new.text.items ≡ c.args.text.now.items ++ text_of_value v d)) same c.push_text_of.ensures.text)

pub returns-clause-ok : goal.returns-clause-ok
returns-clause-ok c = λ width.
    let same : to_z w128 (of_z w128 c.from-2.result) ≡ c.args.value = omega (arith, ints, c.from-2.ensures, c.requires.small) in
    let d = c.args.format.now.decimals in
    let text = text_of_value c.args.value d in
    let sep = c.args.format.now.separator in
    value_later c.push_text_of-2.result c.push_text_of-2.new.text.items c.args.text.now.items c.push.new.self.items text (text_of_column sep width c.args.col text) sep
    (in_later sep width c.args.col text c.args.format.now.limits.separator (plain_text c.args.value d (omega (arith, c.requires.small))) (omega (arith, c.requires.least, c.if-col-eq1.false)))
    c.in_ok-push.ensures.items
    (subst (λ v. OnOk c.push_text_of-2.result (c.push_text_of-2.new.text.items ≡ c.push.new.self.items ++ text_of_value v d)) same c.push_text_of-2.ensures.text)

pub returns-clause-front : goal.returns-clause-front
returns-clause-front c =
    front_stays c.push.new.self.items c.push_text_of-2.new.text.items c.args.text.now.items c.push_text_of-2.ensures.front
    (front_added c.args.text.now.items c.push.new.self.items _ c.in_ok-push.ensures.items)
