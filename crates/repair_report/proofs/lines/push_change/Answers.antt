use Rattle.std.proofs.Common.{◌++◌, ◌∷◌, ◌∙◌, ap, rules, w64}
use Rattle.std.specs.Prelude.{codes, decimal}
use Rattle.std.proofs.lemmas.Int.{to_z-of_z}
use mir.Val.{SFits}
use Rattle.cert_format.specs.Words.{space}
use Rattle.fix_point.specs.Text.{text_of_value}
use Rattle.repair_report.proofs.Joined.{words_joined}
use Rattle.repair_report.proofs.lines.push_change.Goals as goal

pub returns : goal.returns
returns c =
    let reading = c.args.reading in
    let d = c.args.decimals in
    let from_fits : SFits w64 reading.from = search rules in
    let to_fits : SFits w64 reading.to = search rules in
    words_joined c.args.text.now.items (codes "change") (decimal reading.place.row) (decimal reading.place.col) (text_of_value reading.from d) (text_of_value reading.to d) _ _ _ _ _
    c.in_ok-extend_from_slice.ensures.items c.in_ok-push_place.ensures
    (c.in_ok-push_value.ensures ∙ ap (λ v. c.push_place.new.text.items ++ space ∷ text_of_value v d) (to_z-of_z w64 reading.from from_fits))
    (c.in_ok-push_value-2.ensures ∙ ap (λ v. c.push_value.new.text.items ++ space ∷ text_of_value v d) (to_z-of_z w64 reading.to to_fits))
    c.in_ok-push.ensures.items
