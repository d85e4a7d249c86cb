-- What a text that grows begins with.
use Rattle.std.proofs.Common.{◌≡◌, ℕ, ◌≤◌, List, ◌++◌, length, take, refl, sym, ap, ◌∙◌, arith, length-take, take-take, take_at}
use Rattle.std.specs.Io.{StartsWith}

length_front : (text front : List ℕ) → StartsWith text front → length front ≤ length text
length_front text front h = omega (arith, ap length h, length-take (length front) text)

-- what a text began with, it begins with when more is added
pub front_stays : (text grown front added : List ℕ) → grown ≡ text ++ added → StartsWith text front → StartsWith grown front
front_stays text grown front added e h =
    sym (take-take (length front) (length text) grown (length_front text front h))
    ∙ ap (λ s. take (length front) s) (ap (take (length text)) e ∙ take_at text added (length text) refl) ∙ h
