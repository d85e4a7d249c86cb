-- To be believed: texts of lines, and lines of words.
use Rattle.std.specs.Prelude.{ℕ, zero, suc, ◌==◌, if◌then◌else◌, List, [], ◌∷◌, ◌++◌, Option, Some, None, option_map}

abbrev pub space : ℕ
space = 32

abbrev pub line_feed : ℕ
line_feed = 10

-- the words, with one space between each two
abbrev pub line_of_words : List (List ℕ) → List ℕ
line_of_words [] = []
line_of_words (word ∷ []) = word
line_of_words (word ∷ next ∷ words) = word ++ space ∷ line_of_words (next ∷ words)

-- the lines, each with a line feed after it
abbrev pub text_of_lines : List (List ℕ) → List ℕ
text_of_lines [] = []
text_of_lines (line ∷ lines) = line ++ line_feed ∷ text_of_lines lines

-- The first so many lines of a text, with their line feeds; none where it has fewer line feeds.
abbrev pub first_lines : ℕ → List ℕ → Option (List ℕ)
first_lines zero bytes = Some []
first_lines (suc n) [] = None
first_lines (suc n) (byte ∷ rest) = option_map (λ front. byte ∷ front) (first_lines (if byte == line_feed then n else suc n) rest)
