use Rattle.std.proofs.Common.{◌≡◌, ◌≢◌, ℕ, ◌+◌, ◌≤◌, List, [], ◌∷◌, ◌++◌, ap, arith}
use Rattle.std.specs.List.{AllByRecursion}
use Rattle.std.proofs.lemmas.List.{length_push}
use Rattle.screen_model.specs.declared.place.Place.{Place}
use Rattle.words.specs.Lists.{Distinct}
use Rattle.words.proofs.Lists.{all_push}
use Rattle.tests_solver.proofs.bound_graph_tests.column.Goals as goal

rows_push : (places : List Place) (i : ℕ) (p : Place) → p.row ≤ i + 1 → AllByRecursion (λ q. q.row ≤ i) places → AllByRecursion (λ q. q.row ≤ i + 1) (places ++ p ∷ [])
rows_push [] i p here rows = (here, tt)
rows_push (q ∷ places) i p here rows = (omega (arith, rows.0), rows_push places i p here rows.1)

distinct_push : (places : List Place) (i : ℕ) (p : Place) → p.row ≡ i + 1 → AllByRecursion (λ q. q.row ≤ i) places → Distinct places → Distinct (places ++ p ∷ [])
distinct_push [] i p below rows distinct = (tt, tt)
distinct_push (q ∷ places) i p below rows distinct =
    (all_push (λ r. q ≢ r) places p distinct.0 (λ same. absurd (omega (arith, ap (λ (r : Place). r.row) same, rows.0))), distinct_push places i p below rows.1 distinct.1)

pub loop-i-preserved : goal.loop-i-preserved
loop-i-preserved c =
    let before = c.loop-i.invariant in
    rw c.in_ok-push.ensures.ok (record {
      rows = rows_push c.loop-i.places c.loop-i.i _ (omega arith) before.rows;
      distinct = distinct_push c.loop-i.places c.loop-i.i _ (omega arith) before.rows before.distinct;
      size = omega (arith, length_push c.loop-i.places (record { row = c.loop-i.i + 1; col = 2 }), before.size);
    })
