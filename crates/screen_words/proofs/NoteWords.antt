-- Words that are added to a note one after another.
use Rattle.std.proofs.Common.{◌≡◌, ℕ, List, ◌∷◌, ◌++◌, ◌∙◌}
use Rattle.std.proofs.lemmas.List.{append_assoc}
use Rattle.cert_format.specs.Words.{space}

pub two_words : (note name one : List ℕ) → (note ++ name) ++ (space ∷ one) ≡ note ++ (name ++ space ∷ one)
two_words note name one = append_assoc note name (space ∷ one)

pub three_words : (note name one other : List ℕ) → ((note ++ name) ++ (space ∷ one)) ++ (space ∷ other) ≡ note ++ (name ++ space ∷ (one ++ space ∷ other))
three_words note name one other =
    append_assoc (note ++ name) (space ∷ one) (space ∷ other)
    ∙ append_assoc note name (space ∷ (one ++ space ∷ other))
