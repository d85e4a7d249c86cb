use Rattle.std.proofs.Common.{◌≡◌, ◌+◌, length, refl, arith}
use Rattle.bound_graph.specs.Index.{row_at}
use Rattle.bound_graph.proofs.Rows.{table_more, reached_more}
use Rattle.bound_graph.proofs.index.row_starts.Goals as goal

pub loop-i-preserved : goal.loop-i-preserved
loop-i-preserved c =
    let places = c.args.places.now in
    let i = c.loop-i.i in
    let starts = c.loop-i.starts.items in
    let new = c.resize.new.self.items in
    let before = c.loop-i.invariant in
    let resized = c.in_ok-resize.ensures in
    let reached = before.reached i (omega arith) c.loop-i-test.true in
    let size : length new ≡ row_at places i + 1 = omega (arith, resized.len) in
    record {
      table = table_more places i starts new c.loop-i-test.true c.requires.rising reached size
          (λ row h. resized.by_index.0 row 0 (omega arith) (omega arith)) (λ row late h. resized.by_index.1 row 0 refl (omega arith) (omega arith)) before.table;
      reached = reached_more places i new c.requires.rising size;
    }
