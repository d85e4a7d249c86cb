-- To be believed: the bytes that mean something in a CSV text.
use Rattle.std.specs.Prelude.{ℕ, ◌==◌, List, [], ◌∷◌, Option, Some, None, if◌then◌else◌}

abbrev pub quote : ℕ
quote = 34

abbrev pub line_feed : ℕ
line_feed = 10

abbrev pub carriage_return : ℕ
carriage_return = 13

-- what follows a line feed, if the bytes begin with one
abbrev pub after_line_feed : List ℕ → Option (List ℕ)
after_line_feed [] = None
after_line_feed (byte ∷ rest) = if byte == line_feed then Some rest else None

-- what follows a line break, if the bytes begin with one: a line feed, or a carriage return directly before one
abbrev pub after_line_break : List ℕ → Option (List ℕ)
after_line_break [] = None
after_line_break (byte ∷ rest) = if byte == carriage_return then after_line_feed rest else after_line_feed (byte ∷ rest)
