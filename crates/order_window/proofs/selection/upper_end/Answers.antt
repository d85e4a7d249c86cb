use Rattle.std.proofs.Common.{◌≡◌, ℕ, ◌-◌, FitsSigned, rules, ap, ◌∙◌, arith}
use Rattle.std.specs.Int.{w64}
use Rattle.std.proofs.lemmas.Int.{to_z-of_z}
use Rattle.order_window.specs.Selection.{count_of, max_at, min_at}
use Rattle.order_window.proofs.Ends.{upper_of, stored_min}
use Rattle.order_window.proofs.selection.upper_end.Goals as goal

pub returns : goal.returns
returns c =
    let o = c.args.orders.now in
    let first : FitsSigned w64 c.from_max-first.result = search rules in
    let second : FitsSigned w64 c.from_min-second.result = search rules in
    let fits : FitsSigned w64 c.min.result = search rules in
    let long : c.len-count.result ≡ count_of o = omega arith in
    upper_of (max_at o c.args.own) (min_at o c.args.own) (count_of o) c.args.split c.from_max-first.result c.from_min-second.result _ c.requires.split c.if-split-eq0.false (λ e. c.if-split-count.false (omega arith))
    c.from_max-first.ensures
    (c.from_min-second.ensures ∙ ap (λ (n : ℕ). min_at o c.args.own (n - c.args.split)) long)
    (to_z-of_z w64 c.min.result fits ∙ stored_min c.from_max-first.result c.from_min-second.result c.min.result first second c.min.ensures.value)
