-- For proofs: whether bytes hold a quote.
use Rattle.std.specs.Prelude.{ℕ, ◌==◌, ◌||◌, Bool, false, List, [], ◌∷◌}
use Rattle.record_cut.specs.Bytes.{quote}

abbrev pub holds_quote : List ℕ → Bool
holds_quote [] = false
holds_quote (byte ∷ rest) = byte == quote || holds_quote rest
