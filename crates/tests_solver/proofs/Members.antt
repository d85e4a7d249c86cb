-- The element at a place of a list is one of its elements.
use Rattle.std.proofs.Common.{ℕ, ◌<◌, List, length, get_or, Contains}
use Rattle.std.proofs.lemmas.List.{get_or_default}

pub contains_at : {A : Type 0} (xs : List A) (k : ℕ) (d : A) → k < length xs → Contains xs (get_or xs k d)
contains_at xs k d below = (k, below, get_or_default xs k (get_or xs k d) d below)
