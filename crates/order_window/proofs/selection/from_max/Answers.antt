use Rattle.std.proofs.Common.{FitsSigned, rules, length, ◌<◌, sym, ap, ◌∙◌, subst, arith}
use Rattle.std.specs.Int.{w64}
use Rattle.std.proofs.lemmas.Int.{to_z-of_z}
use Rattle.std.proofs.lemmas.List.{get_or_default}
use Rattle.order_window.specs.declared.key.Key.{Key}
use Rattle.order_window.specs.Orders.{rates_of}
use Rattle.order_window.specs.Selection.{before_floor}
use Rattle.order_window.proofs.Candidates.{IsReady, max_ready}
use Rattle.order_window.proofs.Counts.{same_length}
use Rattle.order_window.proofs.selection.from_max.Goals as goal

pub index-key-requires : goal.index-key-requires
index-key-requires c =
    let o = c.args.orders.now in
    omega (arith, same_length o.by_time.items o.by_max.items c.requires.after.kept.sorted.max.same, c.requires.place)

pub under_floor-requires-clause-reach : goal.under_floor-requires-clause-reach
under_floor-requires-clause-reach c =
    let o = c.args.orders.now in
    let R : Key → Type 0 = λ key. IsReady o.max o.decimals c.args.own key in
    let ready = subst R (sym c.index-key.ensures) (max_ready o.by_time.items o.by_max.items o.by_min.items (rates_of o) o.span c.args.own c.args.place c.index-key.result.now c.requires.after.kept.sorted c.requires.after.after c.requires.place) in
    ready.reach

pub under_floor-requires-clause-units : goal.under_floor-requires-clause-units
under_floor-requires-clause-units c =
    let o = c.args.orders.now in
    let R : Key → Type 0 = λ key. IsReady o.max o.decimals c.args.own key in
    let ready = subst R (sym c.index-key.ensures) (max_ready o.by_time.items o.by_max.items o.by_min.items (rates_of o) o.span c.args.own c.args.place c.index-key.result.now c.requires.after.kept.sorted c.requires.after.after c.requires.place) in
    ready.units

pub returns : goal.returns
returns c =
    let o = c.args.orders.now in
    let fits : FitsSigned w64 c.under_floor.result = search rules in
    let within : c.args.place < length o.by_max.items = omega (arith, same_length o.by_time.items o.by_max.items c.requires.after.kept.sorted.max.same, c.requires.place) in
    to_z-of_z w64 c.under_floor.result fits
    ∙ c.under_floor.ensures
    ∙ ap (λ (key : Key). before_floor o.max o.decimals c.args.own key) (c.index-key.ensures ∙ get_or_default o.by_max.items c.args.place c.index-key.result.now c.args.own within)
