-- For proofs: a record that is being read.
use Rattle.std.specs.Prelude.{ℕ, ◌+◌, List, length}
use Rattle.record_cut.specs.Sizes.{size_of_fields}

-- the fields that have ended, and the bytes of the next one so far
pub record Drafted : Type 0 where
  pub fields : List (List ℕ)
  pub field : List ℕ

-- the bytes of all fields, and one for each that has ended
abbrev pub size_of : Drafted → ℕ
size_of draft = size_of_fields draft.fields + length draft.field
