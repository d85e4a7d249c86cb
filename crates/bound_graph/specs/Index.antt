-- For proofs: how the nodes of places are found.
use Rattle.std.specs.Prelude.{◌≡◌, ℕ, suc, ◌+◌, ◌<◌, ◌≤◌, ◌==◌, ◌&&◌, Bool, List, length, Some, get_or, slice_index}
use Rattle.std.specs.declared.hash.FoldHasher.{FoldHasher}
use Rattle.std.specs.declared.hash.BuildHasherDefault.{BuildHasherDefault}
use Rattle.std.specs.HashMap.{get, HashMap}
use Rattle.screen_model.specs.declared.place.Place.{Place}
use Rattle.bound_graph.specs.declared.index.PlaceIndex.{PlaceIndex}
use Rattle.bound_graph.specs.declared.index.PlaceIndex.TheVariants.{Rows, Map}
use Rattle.bound_graph.specs.Graph.{index_of}

-- a map from rows and columns to nodes
abbrev pub NodeMap : Type 0
NodeMap = HashMap (ℕ × ℕ) ℕ (BuildHasherDefault FoldHasher)

-- the same row and column
abbrev pub is_same : ℕ × ℕ → ℕ × ℕ → Bool
is_same p q = (p.0 == q.0) && (p.1 == q.1)

-- the first places, as many as the count, have their nodes: i + 1 for the place of index i
pub record IsNumbered (places : List Place) (count : ℕ) (nodes : NodeMap) : Type 0 where
  pub each : (p : Place) → index_of places p < count → get is_same nodes (p.row, p.col) ≡ Some (suc (index_of places p))

-- the row and the column of the place at an index
abbrev pub row_at : List Place → ℕ → ℕ
row_at places i = (get_or places i (record { row = 0; col = 0 })).row

abbrev pub col_at : List Place → ℕ → ℕ
col_at places i = (get_or places i (record { row = 0; col = 0 })).col

-- Among the first places, as many as the count, rows do not fall, and columns rise within a row.
pub record IsRising (places : List Place) (count : ℕ) : Type 0 where
  pub rows : (i j : ℕ) → i < j → j < count → row_at places i ≤ row_at places j
  pub cols : (i j : ℕ) → i < j → j < count → row_at places i ≡ row_at places j → col_at places i < col_at places j

-- Of the first places, as many as the count, those of a row stand from its start to the start of the next row. There is
-- a start for each of their rows, and so many to spare.
pub record IsRowTable (places : List Place) (count spare : ℕ) (starts : List ℕ) : Type 0 where
  pub most : (row : ℕ) → row < length starts → slice_index starts row ≤ count
  pub low : (row i : ℕ) → row < length starts → i < slice_index starts row → row_at places i < row
  pub high : (row i : ℕ) → row < length starts → slice_index starts row ≤ i → i < count → row ≤ row_at places i
  pub seen : (i : ℕ) → i < count → row_at places i + spare < length starts

-- the index tells the node of each place
abbrev pub IsIndexed : List Place → PlaceIndex → Type 0
IsIndexed places (Rows starts) = IsRising places (length places) × IsRowTable places (length places) 1 starts.items
IsIndexed places (Map nodes) = IsNumbered places (length places) nodes
