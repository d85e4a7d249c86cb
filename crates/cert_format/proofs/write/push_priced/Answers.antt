use Rattle.std.proofs.Common.{◌≡◌, ℤ, ◌++◌, ◌∷◌, [], subst}
use mir.Syntax.{w128}
use Rattle.std.proofs.lemmas.Int.{to_z-of_z}
use Rattle.cert_format.specs.Words.{line_feed}
use Rattle.cert_format.specs.declared.line.Version.TheVariants.{Two}
use Rattle.cert_format.specs.declared.line.Line.TheVariants.{Header, ClaimRepair, Total, Paid}
use Rattle.cert_format.specs.Line.{text_of_line}
use Rattle.cert_format.proofs.Pushed.{on_ok, pushed_line}
use Rattle.cert_format.proofs.write.push_priced.Goals as goal

pub returns : goal.returns
returns c =
    let after = c.push_lists.new.text.items in
    let TotalPushed : ℤ → Type 0 = λ total. c.push_whole-3.new.text.items ≡ c.push_whole-2.new.text.items ++ (text_of_line (Total total) ++ line_feed ∷ []) in
    let total_pushed = subst TotalPushed (to_z-of_z w128 c.args.total c.ranges.total) c.in_ok-push_whole-3.ensures in
    let PaidPushed : ℤ → Type 0 = λ paid. c.push_whole-4.new.text.items ≡ c.push_whole-3.new.text.items ++ (text_of_line (Paid paid) ++ line_feed ∷ []) in
    let paid_pushed = subst PaidPushed (to_z-of_z w128 c.args.paid c.ranges.paid) c.in_ok-push_whole-4.ensures in
    on_ok c.push_lists.result
    (λ e.
    pushed_line (text_of_line (Header Two)) c.args.text.now.items c.push_whole.new.text.items after _ c.in_ok-push_whole.ensures (
    pushed_line (text_of_line ClaimRepair) c.push_whole.new.text.items c.push_whole-2.new.text.items after _ c.in_ok-push_whole-2.ensures (
    pushed_line (text_of_line (Total c.args.total)) c.push_whole-2.new.text.items c.push_whole-3.new.text.items after _ total_pushed (
    pushed_line (text_of_line (Paid c.args.paid)) c.push_whole-3.new.text.items c.push_whole-4.new.text.items after _ paid_pushed e
    )
    )
    ))
    c.push_lists.ensures
