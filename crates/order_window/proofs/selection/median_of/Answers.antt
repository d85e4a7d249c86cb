use Rattle.std.proofs.Common.{ℤ, FitsSigned, rules, ap, ◌∙◌}
use Rattle.std.specs.Int.{w64, int_min}
use Rattle.std.proofs.lemmas.Int.{to_z-of_z}
use Rattle.order_window.specs.Orders.{rates_of}
use Rattle.order_window.proofs.Ends.{stored_max, stored_min}
use Rattle.order_window.proofs.Middle.{ends_of, median_found}
use Rattle.order_window.proofs.selection.median_of.Goals as goal

pub returns : goal.returns
returns c =
    let o = c.args.orders.now in
    let own : FitsSigned w64 c.args.own.value = search rules in
    let low : FitsSigned w64 c.lower_end-low.result = search rules in
    let high : FitsSigned w64 c.upper_end-high.result = search rules in
    let above : FitsSigned w64 c.max.result = search rules in
    let fits : FitsSigned w64 c.min.result = search rules in
    median_found o.by_time.items o.by_max.items o.by_min.items o.room (rates_of o) o.span c.args.own c.split_of-split.result c.lower_end-low.result c.upper_end-high.result _ c.requires.kept.sorted
    (ends_of o.by_time.items o.by_max.items o.by_min.items (rates_of o) o.span c.args.own c.split_of-split.result c.lower_end-low.result c.upper_end-high.result c.requires.kept.sorted c.split_of-split.ensures c.lower_end-low.ensures c.upper_end-high.ensures)
    (to_z-of_z w64 c.min.result fits
    ∙ stored_min c.max.result c.upper_end-high.result c.min.result above high c.min.ensures.value
    ∙ ap (λ (z : ℤ). int_min z c.upper_end-high.result) (stored_max c.args.own.value c.lower_end-low.result c.max.result own low c.max.ensures.value))
