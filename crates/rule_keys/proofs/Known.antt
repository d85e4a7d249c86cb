-- Whether all keys of a table are known, by tests.
use Rattle.std.proofs.Common.{◌≡◌, ℕ, ◌↔◌, Bool, true, false, ◌&&◌, List, [], ◌∷◌, map, IsTrue, Contains, string_bytes, refl, sym, ◌∙◌}
use Rattle.std.proofs.lemmas.Bool.{false≢true, and_parts}
use Rattle.std.specs.List.{list_all}
use Rattle.std.specs.Map.{keys_of}
use Rattle.words.proofs.Texts.{among_is}
use Rattle.toml.proofs.Views.{Entry}
use Rattle.toml.specs.View.{members_view}
use Rattle.rule_keys.specs.declared.key.Key.{Key}
use Rattle.rule_keys.specs.Known.{is_known}
use Rattle.rule_keys.specs.Table.{HasOnly}
use Rattle.rule_keys.specs.Words.{key_text}

-- the texts of some keys
abbrev pub texts : List Key → List (List ℕ)
texts keys = map (λ key. key_text key.name) keys

known_is : (keys : List Key) (text : List ℕ) → IsTrue (is_known keys text) ↔ Contains (texts keys) text
known_is keys text = among_is (λ (key : Key). key_text key.name) keys text

and_both : (a b : Bool) → a ≡ true → b ≡ true → (a && b) ≡ true
and_both true b h i = i
and_both false b h i = absurd (false≢true h)

pub only_if_all : (keys : List Key) (es : List Entry) → list_all (λ text. is_known keys (string_bytes text)) (keys_of es) ≡ true → HasOnly (texts keys) (members_view es)
only_if_all keys [] all = tt
only_if_all keys (e ∷ es) all =
    let (here, rest) = and_parts (is_known keys (string_bytes e.0)) (list_all (λ text. is_known keys (string_bytes text)) (keys_of es)) all in
    ((known_is keys (string_bytes e.0)).0 here, only_if_all keys es rest)

pub all_if_only : (keys : List Key) (es : List Entry) → HasOnly (texts keys) (members_view es) → list_all (λ text. is_known keys (string_bytes text)) (keys_of es) ≡ true
all_if_only keys [] only = refl
all_if_only keys (e ∷ es) only =
    and_both (is_known keys (string_bytes e.0)) _ ((known_is keys (string_bytes e.0)).1 only.0) (all_if_only keys es only.1)

pub only_from : (keys : List Key) (es : List Entry) (r : Bool) → r ≡ list_all (λ text. is_known keys (string_bytes text)) (keys_of es) → r ≡ true → HasOnly (texts keys) (members_view es)
only_from keys es r is yes_all = only_if_all keys es (sym is ∙ yes_all)

pub not_only_from : (keys : List Key) (es : List Entry) (r : Bool) → r ≡ list_all (λ text. is_known keys (string_bytes text)) (keys_of es) → r ≡ false → ¬ HasOnly (texts keys) (members_view es)
not_only_from keys es r is not_all only = false≢true (sym not_all ∙ is ∙ all_if_only keys es only)
