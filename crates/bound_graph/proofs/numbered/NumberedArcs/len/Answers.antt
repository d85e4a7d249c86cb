use Rattle.std.proofs.Common.{◌≡◌, ◌*◌, List, length, sym, ap, ◌∙◌, arith}
use Rattle.bound_graph.specs.declared.arc.Arc.{Arc}
use Rattle.bound_graph.specs.Numbered.{numbered}
use Rattle.bound_graph.specs.Reverses.{with_reverses}
use Rattle.bound_graph.proofs.Reverses.{length-with_reverses}
use Rattle.bound_graph.proofs.Stored.{stored_few}
use Rattle.bound_graph.proofs.numbered.NumberedArcs.len.Goals as goal

pub overflow_cast-stored : goal.overflow_cast-stored
overflow_cast-stored c = omega (arith, c.len-stored.ensures, stored_few c.self.inside.both_ways c.self.inside.table.items c.self.invariant.few)

pub overflow_mul-result : goal.overflow_mul-result
overflow_mul-result c =
    let table = c.self.inside.table.items in
    let all : numbered c.self.inside.both_ways table ≡ with_reverses table = ap (λ both_ways. numbered both_ways table) c.if-self.true in
    omega (arith, c.len-stored.ensures, c.self.invariant.few, ap (λ (arcs : List Arc). length arcs) all, length-with_reverses table)

pub returns-then-self : goal.returns-then-self
returns-then-self c =
    let table = c.self.inside.table.items in
    let all : with_reverses table ≡ c.args.self.now = ap (λ both_ways. numbered both_ways table) (sym c.if-self.true) ∙ c.self.view_is in
    let long : c.len-stored.result ≡ length table = omega (arith, c.len-stored.ensures) in
    ap (λ n. 2 * n) long ∙ sym (length-with_reverses table) ∙ ap (λ (arcs : List Arc). length arcs) all
