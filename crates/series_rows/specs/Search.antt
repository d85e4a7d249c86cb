-- For proofs: the columns with a name, one after the other.
use Rattle.std.specs.Prelude.{ℕ, suc, ◌==◌, ◌&&◌, Bool, false, not, List, drop, Option, Some, None}
use Rattle.series_rows.specs.Header.{bears, columns_named_from, field_at, other_than}

abbrev pub left_out : Option ℕ → List ℕ → List ℕ
left_out None cols = cols
left_out (Some col) cols = other_than col cols

-- the column is the one left out
abbrev pub is_left_out : Option ℕ → ℕ → Bool
is_left_out None col = false
is_left_out (Some other) col = col == other

-- the field in a column bears the name, and the column is not left out
abbrev pub is_candidate : Option ℕ → List ℕ → List (List ℕ) → ℕ → Bool
is_candidate except name fields col = not (is_left_out except col) && bears name (field_at fields col)

-- the columns with the name after so many, but for the one left out
abbrev pub candidates : Option ℕ → List ℕ → List (List ℕ) → ℕ → List ℕ
candidates except name fields after = left_out except (columns_named_from (suc after) name (drop after fields))
