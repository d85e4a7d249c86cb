-- To be believed: the bytes that may separate the fields of a CSV record.
use Rattle.std.specs.Prelude.{ℕ, Bool, ◌==◌, ◌||◌}

-- a comma, a semicolon, a tab or a vertical bar
abbrev pub is_separator : ℕ → Bool
is_separator byte = byte == 44 || byte == 59 || byte == 9 || byte == 124
