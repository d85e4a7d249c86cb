-- What a text that grows begins with.
use Rattle.std.proofs.Common.{ℕ, ◌≤◌, List, length, take, sym, ap, ◌∙◌, arith, length-take, take-take}
use Rattle.std.specs.Io.{StartsWith}

length_front : (text front : List ℕ) → StartsWith text front → length front ≤ length text
length_front text front h = omega (arith, ap length h, length-take (length front) text)

-- what a text began with, it begins with when it has grown
pub front_stays : (text grown front : List ℕ) → StartsWith grown text → StartsWith text front → StartsWith grown front
front_stays text grown front e h =
    sym (take-take (length front) (length text) grown (length_front text front h)) ∙ ap (take (length front)) e ∙ h
