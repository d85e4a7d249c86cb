use Rattle.std.proofs.Common.{ap, ◌∙◌, unwrap_or, arith}
use Rattle.bound_graph.proofs.Nodes.{index_of_contained, node_from_map}
use Rattle.bound_graph.proofs.index.PlaceIndex.node.Goals as goal

pub overflow_cast-result : goal.overflow_cast-result
overflow_cast-result c =
    let contained = rw c.in-At-Rows.is-0 at c.requires.end in
    omega (arith, index_of_contained c.args.places.now c.in-At-Rows.place contained)

pub overflow_add-result : goal.overflow_add-result
overflow_add-result c =
    let contained = rw c.in-At-Rows.is-0 at c.requires.end in
    omega (arith, index_of_contained c.args.places.now c.in-At-Rows.place contained)

pub returns-in-At-Map : goal.returns-in-At-Map
returns-in-At-Map c =
    let contained = rw c.in-At-Map.is-0 at c.requires.end in
    let numbered = rw c.in-At-Map.is-1 at c.requires.indexed in
    let read = c.unwrap_or.ensures ∙ ap (λ o. unwrap_or o 0) (c.copied.ensures ∙ c.get.ensures.value) in
    rw c.in-At-Map.is-0 (read ∙ node_from_map c.args.places.now c.in-At-Map.nodes c.in-At-Map.place numbered contained)
