-- The nodes of places, as a map holds them.
use Rattle.std.proofs.Common.{◌≡◌, ◌≢◌, ℕ, zero, suc, ◌+◌, ◌<◌, true, false, cond, List, [], ◌∷◌, length, get_or, Some, unwrap_or, Contains, sym, subst, ap, ◌∙◌, ⊎_elim, arith}
use Rattle.std.specs.HashMap.{get, Updates}
use Rattle.std.proofs.lemmas.Bool.{cases_Bool, cases_lt, cond-true, cond-false}
use Rattle.std.proofs.lemmas.List.Elements.{All-from_recursion}
use Rattle.screen_model.specs.declared.place.Place.{Place}
use Rattle.screen_model.proofs.Places.{same_place, place_from_same, other_place}
use Rattle.words.specs.Lists.{Distinct}
use Rattle.screen_model.specs.Series.{is_same_place}
use Rattle.bound_graph.specs.Graph.{index_of}
use Rattle.bound_graph.specs.Index.{NodeMap, is_same, IsNumbered}

equal_places : (p q : Place) → p ≡ q → is_same_place p q ≡ true
equal_places p q e = subst (λ r. is_same_place p r ≡ true) e (same_place p)

index_here : (q : Place) (places : List Place) (p : Place) → is_same_place p q ≡ true → index_of (q ∷ places) p ≡ 0
index_here q places p h = cond-true (is_same_place p q) 0 (suc (index_of places p)) h

index_later : (q : Place) (places : List Place) (p : Place) → is_same_place p q ≡ false → index_of (q ∷ places) p ≡ suc (index_of places p)
index_later q places p h = cond-false (is_same_place p q) 0 (suc (index_of places p)) h

-- a place stands at its index
pub place_at_index : (places : List Place) (p d : Place) → index_of places p < length places → get_or places (index_of places p) d ≡ p
place_at_index [] p d lt = absurd (omega arith)
place_at_index (q ∷ places) p d lt = ⊎_elim
    (λ same. ap (λ k. get_or (q ∷ places) k d) (index_here q places p same) ∙ sym (place_from_same p q same))
    (λ apart.
    let later = index_later q places p apart in
    ap (λ k. get_or (q ∷ places) k d) later ∙ place_at_index places p d (omega arith))
    (cases_Bool (is_same_place p q))

-- and, where no place stands twice, only there
index_of_place : (places : List Place) (k : ℕ) (d : Place) → Distinct places → k < length places → index_of places (get_or places k d) ≡ k
index_of_place [] k d distinct lt = absurd (omega arith)
index_of_place (q ∷ places) zero d distinct lt = index_here q places q (same_place q)
index_of_place (q ∷ places) (suc k) d distinct lt =
    let p = get_or places k d in
    let other : q ≢ p = All-from_recursion (λ y. q ≢ y) places distinct.0 k d (omega arith) in
    index_later q places p (other_place p q (λ h. other (sym h))) ∙ ap suc (index_of_place places k d distinct.1 (omega arith))

index_le : (places : List Place) (k : ℕ) (p : Place) → k < length places → get_or places k p ≡ p → index_of places p < length places
index_le [] k p lt e = absurd (omega arith)
index_le (q ∷ places) zero p lt e = let here = index_here q places p (equal_places p q (sym e)) in omega arith
index_le (q ∷ places) (suc k) p lt e = ⊎_elim
    (λ same. let here = index_here q places p same in omega arith)
    (λ apart. let later = index_later q places p apart in omega (arith, index_le places k p (omega arith) e))
    (cases_Bool (is_same_place p q))

pub index_of_contained : (places : List Place) (p : Place) → Contains places p → index_of places p < length places
index_of_contained places p h = index_le places h.0 p h.1 h.2

-- one more place in the map
pub numbered_more : (places : List Place) (i : ℕ) (d : Place) (nodes new : NodeMap) → Distinct places → i < length places → IsNumbered places i nodes
    → Updates is_same nodes new ((get_or places i d).row, (get_or places i d).col) (Some (i + 1)) → IsNumbered places (i + 1) new
numbered_more places i d nodes new distinct lt numbered updates = record {
  each = λ p h.
      let q = get_or places i d in
      let now : get is_same new (p.row, p.col) ≡ cond (is_same_place q p) (Some (i + 1)) (get is_same nodes (p.row, p.col)) = updates.0 (p.row, p.col) in
      ⊎_elim
      (λ before.
      let apart : is_same_place q p ≡ false =
      other_place q p (λ same. absurd (let there : index_of places p ≡ i = ap (index_of places) (sym same) ∙ index_of_place places i d distinct lt in omega arith)) in
      now ∙ cond-false (is_same_place q p) (Some (i + 1)) (get is_same nodes (p.row, p.col)) apart ∙ numbered.each p before)
      (λ last.
      let at : index_of places p ≡ i = omega arith in
      let here : q ≡ p = ap (λ k. get_or places k d) (sym at) ∙ place_at_index places p d (omega arith) in
      let next : i + 1 ≡ suc (index_of places p) = omega arith in
      now ∙ cond-true (is_same_place q p) (Some (i + 1)) (get is_same nodes (p.row, p.col)) (equal_places q p here) ∙ ap Some next)
      (cases_lt (index_of places p) i);
}

-- the map answers the node of a place
pub node_from_map : (places : List Place) (nodes : NodeMap) (p : Place) → IsNumbered places (length places) nodes → Contains places p → unwrap_or (get is_same nodes (p.row, p.col)) 0 ≡ suc (index_of places p)
node_from_map places nodes p numbered ok = ap (λ o. unwrap_or o 0) (numbered.each p (index_of_contained places p ok))
