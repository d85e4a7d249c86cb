-- What a word among some words means.
use Rattle.std.proofs.Common.{◌≡◌, ℕ, true, false, cond, List, [], ◌∷◌, Option, Some, None, MatchOption, Bor, map, option_map, refl, inl, inr, sym}
use Rattle.std.specs.List.{find}
use Rattle.std.specs.Option.{option_copied}
use Rattle.std.proofs.lemmas.Bool.{false≢true}
use Rattle.std.proofs.lemmas.Slice.Eq.{bytes_eq-Decides}
use Rattle.std.specs.Str.{bytes_eq}
use Rattle.rule_keys.specs.declared.key.Chosen.{Chosen}
use Rattle.rule_keys.specs.declared.texts.Word.{Word}
use Rattle.rule_keys.specs.Words.{Means, seen_word}

-- the word that was found for a text among some words
abbrev pub IsFoundFor : List Word → List ℕ → Option Word → Type 0
IsFoundFor words text found = MatchOption found ((c : Chosen) → ¬ Means (map seen_word words) text c) (λ word. Means (map seen_word words) text word.means)

later : (word : Word) (words : List Word) (text : List ℕ) (found : Option Word) → (word.text.now ≡ text → ⊥) → IsFoundFor words text found → IsFoundFor (word ∷ words) text found
later word words text None apart none = λ c means. elim means [ inl here ↦ apart (sym here.0) | inr there ↦ none c there ]
later word words text (Some other) apart means = inr means

pub found_means : (words : List Word) (text : List ℕ) → IsFoundFor words text (find (λ word. bytes_eq word.text.now text) words)
found_means [] text = λ c means. means
found_means (word ∷ words) text =
    let rest = found_means words text in
    let decides = bytes_eq-Decides word.text.now text in
    elim (bytes_eq word.text.now text) as
    (λ b. (b ≡ true → word.text.now ≡ text) → (word.text.now ≡ text → b ≡ true) → IsFoundFor (word ∷ words) text (cond b (Some word) (find (λ w. bytes_eq w.text.now text) words)))
    [ true ↦ λ same back. inl (sym (same refl), refl) | false ↦ λ same back. later word words text _ (λ e. false≢true (back e)) rest ] decides.0 decides.1

-- what it means, by the word that was found
pub meaning_found : (some : List (List ℕ × Chosen)) (words : List Word) (text : List ℕ) (found : Option (Bor Word)) (result : Option Chosen)
    → map seen_word words ≡ some → option_copied found ≡ find (λ word. bytes_eq word.text.now text) words
    → result ≡ option_map (λ word. word.now.means) found
    → MatchOption result ((c : Chosen) → ¬ Means some text c) (Means some text)
meaning_found some words text None result same is means =
    rw (means, ← same) (rw (← is) at (found_means words text))
meaning_found some words text (Some word) result same is means =
    rw (means, ← same) (rw (← is) at (found_means words text))
