use Rattle.std.proofs.Common.{◌/◌, ◌<◌, length, Some, ap, sym, ◌∙◌}
use Rattle.std.proofs.lemmas.List.{get_or_read}
use Rattle.bound_graph.specs.declared.arc.Arc.{Arc}
use Rattle.bound_graph.specs.Arcs.{no_arc}
use Rattle.bound_graph.specs.Reverses.{is_back, turned}
use Rattle.bound_graph.proofs.Reverses.{none_past, some_within}
use Rattle.bound_graph.proofs.numbered.get_both_ways.Goals as goal

pub returns-in-Some : goal.returns-in-Some
returns-in-Some c =
    let table = c.args.table.now in
    let below : c.args.number / 2 < length table = c.in-Some.ensures.lookup.3.0 in
    let read = get_or_read table (c.args.number / 2) c.in-Some.arc.now below c.in-Some.ensures.lookup.1 no_arc in
    ap Some (c.turn.ensures ∙ ap (λ (arc : Arc). turned (is_back c.args.number) arc) read) ∙ sym (some_within table c.args.number below)

pub returns-in-None : goal.returns-in-None
returns-in-None c = sym (none_past c.args.table.now c.args.number c.in-None.ensures.lookup.3)
