use Rattle.std.proofs.Common.{◌≡◌, ◌≤◌, ◌*◌, ◌/◌, ◌<◌, ◌^◌, List, length, get_or, sym, ap, ◌∙◌, subst, arith}
use Rattle.std.specs.Prelude.{unsigned_abs}
use Rattle.std.proofs.lemmas.List.{get_or_read}
use Rattle.std.proofs.lemmas.List.Elements.{All-from_recursion}
use Rattle.bound_graph.specs.declared.arc.Arc.{Arc}
use Rattle.bound_graph.specs.Arcs.{no_arc}
use Rattle.bound_graph.specs.Numbered.{numbered}
use Rattle.bound_graph.specs.Reverses.{is_back, turned, with_reverses}
use Rattle.bound_graph.proofs.Reverses.{both_ways_at, length-with_reverses}
use Rattle.bound_graph.proofs.numbered.NumberedArcs.tail.Goals as goal

pub index-arc-requires : goal.index-arc-requires
index-arc-requires c =
    let table = c.self.inside.table.items in
    let all : with_reverses table ≡ c.args.self.now = ap (λ both_ways. numbered both_ways table) (sym c.if-self.true) ∙ c.self.view_is in
    omega (arith, c.requires, ap (λ (arcs : List Arc). length arcs) all, length-with_reverses table)

pub turn-requires : goal.turn-requires
turn-requires c =
    let table = c.self.inside.table.items in
    let all : with_reverses table ≡ c.args.self.now = ap (λ both_ways. numbered both_ways table) (sym c.if-self.true) ∙ c.self.view_is in
    let below : c.args.number / 2 < length table = omega (arith, c.requires, ap (λ (arcs : List Arc). length arcs) all, length-with_reverses table) in
    let read = get_or_read table (c.args.number / 2) c.index-arc.result.now below c.index-arc.ensures no_arc in
    let small = All-from_recursion (λ (arc : Arc). unsigned_abs arc.cost ≤ 4 * 10 ^ 15) table c.self.invariant.costs (c.args.number / 2) no_arc below in
    subst (λ (arc : Arc). unsigned_abs arc.cost ≤ 4 * 10 ^ 15) (sym read) small

pub returns-then-self : goal.returns-then-self
returns-then-self c =
    let table = c.self.inside.table.items in
    let all : with_reverses table ≡ c.args.self.now = ap (λ both_ways. numbered both_ways table) (sym c.if-self.true) ∙ c.self.view_is in
    let below : c.args.number < length (with_reverses table) = omega (arith, c.requires, ap (λ (arcs : List Arc). length arcs) all) in
    let half : c.args.number / 2 < length table = omega (arith, below, length-with_reverses table) in
    let read = get_or_read table (c.args.number / 2) c.index-arc.result.now half c.index-arc.ensures no_arc in
    let found = c.turn.ensures ∙ ap (λ (arc : Arc). turned (is_back c.args.number) arc) read ∙ sym (both_ways_at table c.args.number below) in
    ap (λ (arc : Arc). arc.tail) (found ∙ ap (λ (arcs : List Arc). get_or arcs c.args.number no_arc) all)
