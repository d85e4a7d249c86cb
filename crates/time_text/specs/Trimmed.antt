-- To be believed: a text without the blanks at its ends.
use Rattle.std.specs.Prelude.{ℕ, List, [], ◌∷◌, if◌then◌else◌, reverse}
use Rattle.fix_point.specs.Grammar.{is_blank}

-- the text without the blanks before its first other byte
abbrev pub without_leading_blanks : List ℕ → List ℕ
without_leading_blanks [] = []
without_leading_blanks (c ∷ rest) = if is_blank c then without_leading_blanks rest else c ∷ rest

-- the text without the blanks after its last other byte
abbrev pub without_trailing_blanks : List ℕ → List ℕ
without_trailing_blanks text = reverse (without_leading_blanks (reverse text))

-- the text without the blanks at both ends
abbrev pub trimmed : List ℕ → List ℕ
trimmed text = without_trailing_blanks (without_leading_blanks text)
