-- Places that rise, and where those of each row start.
use Rattle.std.proofs.Common.{◌≡◌, ℕ, ◌+◌, ◌-◌, ◌<◌, ◌≤◌, true, false, ltb, List, [], ◌∷◌, ◌++◌, length, get_or, drop, slice_range, Contains, ap, ◌∙◌, ⊎_elim, arith}
use Rattle.std.specs.List.Sorted.{IsPartitionPoint, IsPartitionedBy}
use Rattle.std.proofs.lemmas.Bool.{cases_lt}
use Rattle.std.proofs.lemmas.Bool.Decides.{nat_tests}
use Rattle.std.proofs.lemmas.List.{length-take, length-drop, get_or-take, get_or-drop, length_push, get_or_append_left, get_or_push}
use Rattle.std.proofs.lemmas.List.Sorted.{IsNonDecreasingBy-from_default, IsPartitionedBy-ltb}
use Rattle.screen_model.specs.declared.place.Place.{Place}
use Rattle.bound_graph.specs.Graph.{index_of}
use Rattle.bound_graph.specs.Index.{row_at, col_at, IsRising, IsRowTable}
use Rattle.bound_graph.proofs.Nodes.{place_at_index, index_of_contained}

-- what is read where a slice has no place
abbrev pub no_place : Place
no_place = record { row = 0; col = 0 }

-- ---- rising

pub rising_none : (places : List Place) → IsRising places 1
rising_none places = record { rows = λ i j h lt. absurd (omega arith); cols = λ i j h lt same. absurd (omega arith) }

pub rising_fewer : (places : List Place) (count fewer : ℕ) → fewer ≤ count → IsRising places count → IsRising places fewer
rising_fewer places count fewer h rising = record {
  rows = λ i j lt below. rising.rows i j lt (omega arith);
  cols = λ i j lt below same. rising.cols i j lt (omega arith) same;
}

-- one more place, which comes after the one before it
pub rising_more : (places : List Place) (i : ℕ) → 0 < i → IsRising places i → row_at places (i - 1) ≤ row_at places i → (row_at places (i - 1) ≡ row_at places i → col_at places (i - 1) < col_at places i) → IsRising places (i + 1)
rising_more places i some rising row col = record {
  rows = λ a b lt below. ⊎_elim
      (λ (before : b < i). rising.rows a b lt before)
      (λ (last : i ≤ b).
      let at : b ≡ i = omega arith in
      rw at (⊎_elim
      (λ (earlier : a < i - 1). let up = rising.rows a (i - 1) earlier (omega arith) in omega arith)
      (λ (neighbour : i - 1 ≤ a). let is : a ≡ i - 1 = omega arith in rw is row)
      (cases_lt a (i - 1))))
      (cases_lt b i);
  cols = λ a b lt below. ⊎_elim
      (λ (before : b < i). rising.cols a b lt before)
      (λ (last : i ≤ b).
      let at : b ≡ i = omega arith in
      rw at (⊎_elim
      (λ (earlier : a < i - 1) (same : row_at places a ≡ row_at places i).
      let up = rising.rows a (i - 1) earlier (omega arith) in
      let first = rising.cols a (i - 1) earlier (omega arith) (omega arith) in
      let second = col (omega arith) in
      omega arith)
      (λ (neighbour : i - 1 ≤ a). let is : a ≡ i - 1 = omega arith in rw is col)
      (cases_lt a (i - 1))))
      (cases_lt b i);
}

-- ---- starts

pub table_none : (places : List Place) → IsRowTable places 0 0 []
table_none places = record {
  most = λ row h. absurd (omega arith);
  low = λ row i h lt. absurd (omega arith);
  high = λ row i h le lt. absurd (omega arith);
  seen = λ i lt. absurd (omega arith);
}

-- one more place: the rows after those seen so far, up to its own, start at it
pub table_more : (places : List Place) (i : ℕ) (starts new : List ℕ) → i < length places → IsRising places (length places) → length starts ≤ row_at places i + 1 → length new ≡ row_at places i + 1
    → ((row : ℕ) → row < length starts → get_or new row 0 ≡ get_or starts row 0) → ((row : ℕ) → length starts ≤ row → row < length new → get_or new row 0 ≡ i)
    → IsRowTable places i 0 starts → IsRowTable places (i + 1) 0 new
table_more places i starts new inside rising reached size kept fresh table = record {
  most = λ row h. ⊎_elim
      (λ (old : row < length starts). omega (arith, kept row old, table.most row old))
      (λ (late : length starts ≤ row). omega (arith, fresh row late h))
      (cases_lt row (length starts));
  low = λ row k h lt. ⊎_elim
      (λ (old : row < length starts). table.low row k old (omega (arith, kept row old)))
      (λ (late : length starts ≤ row). let seen = table.seen k (omega (arith, fresh row late h)) in omega arith)
      (cases_lt row (length starts));
  high = λ row k h le lt. ⊎_elim
      (λ (before : k < i). ⊎_elim
      (λ (old : row < length starts). table.high row k old (omega (arith, kept row old)) before)
      (λ (late : length starts ≤ row). absurd (omega (arith, fresh row late h)))
      (cases_lt row (length starts)))
      (λ (last : i ≤ k). let at : k ≡ i = omega arith in rw at (let up : row ≤ row_at places i = omega arith in up))
      (cases_lt k i);
  seen = λ k lt. ⊎_elim
      (λ (before : k < i). let up = rising.rows k i before inside in omega arith)
      (λ (last : i ≤ k). let at : k ≡ i = omega arith in rw at (let here : row_at places i + 0 < length new = omega arith in here))
      (cases_lt k i);
}

pub reached_more : (places : List Place) (i : ℕ) (new : List ℕ) → IsRising places (length places) → length new ≡ row_at places i + 1
    → (k : ℕ) → i + 1 ≤ k → k < length places → length new ≤ row_at places k + 1
reached_more places i new rising size k h lt = let up = rising.rows i k (omega arith) lt in omega arith

-- all places are seen: the row after the last one starts where they end
pub table_whole : (places : List Place) (starts : List ℕ) → IsRowTable places (length places) 0 starts → IsRowTable places (length places) 1 (starts ++ length places ∷ [])
table_whole places starts table =
    let size = length_push starts (length places) in
    record {
      most = λ row h. ⊎_elim
          (λ (old : row < length starts). omega (arith, get_or_append_left starts (length places ∷ []) 0 row old, table.most row old))
          (λ (last : length starts ≤ row). omega (arith, get_or_push starts (length places) 0 row (omega arith)))
          (cases_lt row (length starts));
      low = λ row k h lt. ⊎_elim
          (λ (old : row < length starts). table.low row k old (omega (arith, get_or_append_left starts (length places ∷ []) 0 row old)))
          (λ (last : length starts ≤ row). let seen = table.seen k (omega (arith, get_or_push starts (length places) 0 row (omega arith))) in omega arith)
          (cases_lt row (length starts));
      high = λ row k h le lt. ⊎_elim
          (λ (old : row < length starts). table.high row k old (omega (arith, get_or_append_left starts (length places ∷ []) 0 row old)) lt)
          (λ (last : length starts ≤ row). absurd (omega (arith, get_or_push starts (length places) 0 row (omega arith))))
          (cases_lt row (length starts));
      seen = λ k lt. omega (arith, table.seen k lt);
    }

-- ---- a place among those of its row

-- where a place stands, with respect to its row
pub record IsInRow (places : List Place) (starts : List ℕ) (p : Place) : Type 0 where
  pub row : row_at places (index_of places p) ≡ p.row
  pub col : col_at places (index_of places p) ≡ p.col
  pub inside : index_of places p < length places
  pub known : p.row + 1 < length starts
  pub from : get_or starts p.row 0 ≤ index_of places p
  pub to : index_of places p < get_or starts (p.row + 1) 0
  pub end : get_or starts (p.row + 1) 0 ≤ length places

pub in_row : (places : List Place) (starts : List ℕ) (p : Place) → IsRowTable places (length places) 1 starts → Contains places p → IsInRow places starts p
in_row places starts p table contained =
    let j = index_of places p in
    let inside = index_of_contained places p contained in
    let is = place_at_index places p no_place inside in
    let row : row_at places j ≡ p.row = ap (λ (q : Place). q.row) is in
    let known : p.row + 1 < length starts = omega (arith, table.seen j inside) in
    record {
      row = row;
      col = ap (λ (q : Place). q.col) is;
      inside = inside;
      known = known;
      from = ⊎_elim
          (λ (early : j < get_or starts p.row 0). let before = table.low p.row j (omega arith) early in absurd (omega arith))
          (λ (late : get_or starts p.row 0 ≤ j). late)
          (cases_lt j (get_or starts p.row 0));
      to = ⊎_elim
          (λ (early : j < get_or starts (p.row + 1) 0). early)
          (λ (late : get_or starts (p.row + 1) 0 ≤ j). let behind = table.high (p.row + 1) j known late inside in absurd (omega arith))
          (cases_lt j (get_or starts (p.row + 1) 0));
      end = table.most (p.row + 1) known;
    }

-- the places of a row
abbrev pub row_of : List Place → List ℕ → ℕ → List Place
row_of places starts row = slice_range places (get_or starts row 0) (get_or starts (row + 1) 0)

at_in_row : (places : List Place) (start end k : ℕ) → k < end - start → get_or (slice_range places start end) k no_place ≡ get_or places (start + k) no_place
at_in_row places start end k h = get_or-take (end - start) (drop start places) k no_place h ∙ get_or-drop start places k no_place

length_in_row : (places : List Place) (start end : ℕ) → end ≤ length places → length (slice_range places start end) ≡ end - start
length_in_row places start end h = omega (arith, length-take (end - start) (drop start places), length-drop start places)

-- in a row the columns rise
col_rises : (places : List Place) (starts : List ℕ) (row i j : ℕ) → IsRising places (length places) → IsRowTable places (length places) 1 starts → row + 1 < length starts
    → get_or starts row 0 ≤ i → i < j → j < get_or starts (row + 1) 0 → col_at places i < col_at places j
col_rises places starts row i j rising table known from up to =
    let end = table.most (row + 1) known in
    let low_i = table.low (row + 1) i known (omega arith) in
    let low_j = table.low (row + 1) j known to in
    let high_i = table.high row i (omega arith) from (omega arith) in
    let high_j = table.high row j (omega arith) (omega arith) (omega arith) in
    rising.cols i j up (omega arith) (omega arith)

pub partitioned : (places : List Place) (starts : List ℕ) (p : Place) → IsRising places (length places) → IsRowTable places (length places) 1 starts → Contains places p
    → IsPartitionedBy (λ q. ltb q.col p.col) (row_of places starts p.row)
partitioned places starts p rising table contained =
    let at = in_row places starts p table contained in
    let start = get_or starts p.row 0 in
    let end = get_or starts (p.row + 1) 0 in
    let size = length_in_row places start end at.end in
    IsPartitionedBy-ltb (λ (q : Place). q.col) (row_of places starts p.row) p.col
    (IsNonDecreasingBy-from_default (λ (q : Place). q.col) (row_of places starts p.row) no_place (λ i j h lt. ⊎_elim
    (λ (up : i < j).
    let here = ap (λ (q : Place). q.col) (at_in_row places start end i (omega arith)) in
    let there = ap (λ (q : Place). q.col) (at_in_row places start end j (omega arith)) in
    omega (arith, col_rises places starts p.row (start + i) (start + j) rising table at.known (omega arith) (omega arith) (omega arith)))
    (λ (same : j ≤ i). let is : i ≡ j = omega arith in rw is (omega arith))
    (cases_lt i j)))

below_test : (a b : ℕ) → ltb a b ≡ true → a < b
below_test a b h = grind (arith, nat_tests)

above_test : (a b : ℕ) → ltb a b ≡ false → b ≤ a
above_test a b h = grind (arith, nat_tests)

pub found : (places : List Place) (starts : List ℕ) (p : Place) (count : ℕ) → IsRising places (length places) → IsRowTable places (length places) 1 starts → Contains places p
    → count ≤ length (row_of places starts p.row) → IsPartitionPoint (λ q. ltb q.col p.col ≡ true) (λ q. ltb q.col p.col ≡ false) (row_of places starts p.row) count
    → get_or starts p.row 0 + count ≡ index_of places p
found places starts p count rising table contained most parted =
    let at = in_row places starts p table contained in
    let j = index_of places p in
    let start = get_or starts p.row 0 in
    let end = get_or starts (p.row + 1) 0 in
    let size = length_in_row places start end at.end in
    ⊎_elim
    (λ (early : start + count < j).
    let here = ap (λ (q : Place). q.col) (at_in_row places start end count (omega arith)) in
    let above = above_test (get_or (row_of places starts p.row) count no_place).col p.col (parted.1 count no_place (omega arith) (omega arith)) in
    let up = col_rises places starts p.row (start + count) j rising table at.known (omega arith) early at.to in
    absurd (omega arith))
    (λ (late : j ≤ start + count). ⊎_elim
    (λ (behind : j < start + count).
    let is : start + (j - start) ≡ j = omega arith in
    let here = ap (λ (q : Place). q.col) (at_in_row places start end (j - start) (omega arith)) in
    let there = ap (col_at places) is in
    let below = below_test (get_or (row_of places starts p.row) (j - start) no_place).col p.col (parted.0 (j - start) no_place (omega arith) (omega arith)) in
    absurd (omega arith))
    (λ (same : start + count ≤ j). omega arith)
    (cases_lt j (start + count)))
    (cases_lt (start + count) j)
