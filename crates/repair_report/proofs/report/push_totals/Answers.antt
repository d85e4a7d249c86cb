use Rattle.std.proofs.Common.{◌≡◌, ◌++◌, ◌∷◌, [], cond, false, sym, ap, ◌∙◌, length, rules}
use Rattle.std.specs.Prelude.{◌==◌, codes}
use Rattle.std.specs.Int.{w128}
use Rattle.std.proofs.lemmas.Int.{to_z-of_z}
use mir.Val.{SFits}
use Rattle.cert_format.specs.Words.{line_feed, text_of_lines}
use Rattle.repair_report.specs.Lines.{value_line}
use Rattle.repair_report.proofs.Joined.{framed, on_ok}
use Rattle.repair_report.proofs.report.push_totals.Goals as goal

pub returns-else-is_empty : goal.returns-else-is_empty
returns-else-is_empty c =
    let d = c.args.decimals in
    let before = c.args.text.now.items in
    let t1 = c.extend_from_slice.new.self.items in
    let t2 = c.push_value_line.new.text.items in
    let total = value_line (codes "total") d c.args.costs.0 in
    let paid = value_line (codes "paid") d c.args.costs.1 in
    let total_fits : SFits w128 c.args.costs.0 = search rules in
    let paid_fits : SFits w128 c.args.costs.1 = search rules in
    let some : (length c.args.priced.now == 0) ≡ false = sym c.is_empty.ensures ∙ c.if-is_empty.false in
    on_ok c.push_value_line-else-is_empty.result
    (λ e.
    framed before t1 t2 c.push_value_line-else-is_empty.new.text.items (codes "claim repair") paid (total ∷ []) c.in_ok-extend_from_slice.ensures.items
    (c.in_ok-push_value_line.ensures ∙ ap (λ v. t1 ++ (value_line (codes "total") d v ++ line_feed ∷ [])) (to_z-of_z w128 c.args.costs.0 total_fits))
    (e ∙ ap (λ v. t2 ++ (value_line (codes "paid") d v ++ line_feed ∷ [])) (to_z-of_z w128 c.args.costs.1 paid_fits))
    ∙ ap (λ b. before ++ text_of_lines (codes "claim repair" ∷ total ∷ cond b [] (paid ∷ []))) (sym some))
    c.push_value_line-else-is_empty.ensures
