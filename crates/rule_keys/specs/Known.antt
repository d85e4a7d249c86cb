-- For proofs: whether a key is known, as a test.
use Rattle.std.specs.Prelude.{ℕ, List, Bool}
use Rattle.std.specs.List.{list_any}
use Rattle.std.specs.Str.{bytes_eq}
use Rattle.rule_keys.specs.declared.key.Key.{Key}
use Rattle.rule_keys.specs.Words.{key_text}

-- one of the keys has this text
abbrev pub is_known : List Key → List ℕ → Bool
is_known keys text = list_any (λ key. bytes_eq (key_text key.name) text) keys
