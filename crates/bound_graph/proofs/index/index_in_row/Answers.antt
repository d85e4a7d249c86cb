use Rattle.std.proofs.Common.{rules, ltb}
use Rattle.std.proofs.lemmas.List.Sorted.{IsPartitionPoint-from_clause}
use Rattle.bound_graph.proofs.Rows.{partitioned, found, row_of}
use Rattle.bound_graph.proofs.index.index_in_row.Goals as goal

pub returns : goal.returns
returns c =
    let places = c.args.places.now in
    let starts = c.args.starts.now in
    let place = c.args.place in
    let ask = c.requires in
    found places starts place c.partition_point.result ask.rising ask.starts ask.contained c.partition_point.ensures.bound
    (IsPartitionPoint-from_clause (λ q. ltb q.col place.col) (row_of places starts place.row) c.partition_point.result c.partition_point.ensures.partitioned
    (partitioned places starts place ask.rising ask.starts ask.contained) (λ a r f' called. search rules))
