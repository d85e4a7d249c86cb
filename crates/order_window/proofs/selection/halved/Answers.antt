use Rattle.std.proofs.Common.{◌≡◌, ℕ, ◌+◌, ◌-◌, ◌/◌, FitsSigned, rules, ap, ◌∙◌, arith}
use Rattle.std.specs.Int.{w64}
use Rattle.order_window.specs.Selection.{count_of, max_at, min_at}
use Rattle.order_window.proofs.Heights.{read_high, read_low}
use Rattle.order_window.proofs.Middle.{split_ahead, split_behind}
use Rattle.order_window.proofs.selection.halved.Goals as goal

pub returns-then-first-second-clause-searched : goal.returns-then-first-second-clause-searched
returns-then-first-second-clause-searched c =
    let o = c.args.orders.now in
    let middle = c.args.bounds.low + (c.args.bounds.high - c.args.bounds.low) / 2 in
    let first : FitsSigned w64 c.from_max-first.result = search rules in
    let second : FitsSigned w64 c.from_min-second.result = search rules in
    let long : c.len.result ≡ count_of o = omega arith in
    split_behind (max_at o c.args.own) (min_at o c.args.own) (count_of o) c.args.bounds.low c.args.bounds.high middle c.from_max-first.result c.from_min-second.result c.requires.searched (omega arith)
    c.from_max-first.ensures
    (c.from_min-second.ensures ∙ ap (λ (n : ℕ). min_at o c.args.own ((n - 1) - middle)) long)
    (read_low c.from_max-first.result c.from_min-second.result first second c.if-first-second.true)

pub returns-else-first-second-clause-searched : goal.returns-else-first-second-clause-searched
returns-else-first-second-clause-searched c =
    let o = c.args.orders.now in
    let middle = c.args.bounds.low + (c.args.bounds.high - c.args.bounds.low) / 2 in
    let first : FitsSigned w64 c.from_max-first.result = search rules in
    let second : FitsSigned w64 c.from_min-second.result = search rules in
    let long : c.len.result ≡ count_of o = omega arith in
    split_ahead (max_at o c.args.own) (min_at o c.args.own) (count_of o) c.args.bounds.low c.args.bounds.high middle c.from_max-first.result c.from_min-second.result c.requires.searched (omega arith) (omega arith)
    c.from_max-first.ensures
    (c.from_min-second.ensures ∙ ap (λ (n : ℕ). min_at o c.args.own ((n - 1) - middle)) long)
    (read_high c.from_max-first.result c.from_min-second.result first second c.if-first-second.false)
