-- To be believed: the text of a row.
use Rattle.std.specs.Prelude.{ℕ, ◌==◌, ◌||◌, ◌&&◌, Bool, false, List, [], ◌∷◌, ◌++◌, length, if◌then◌else◌}
use Rattle.record_cut.specs.Bytes.{quote, line_feed, carriage_return}

-- a separator, a quote or a byte of a line break
abbrev pub is_special : ℕ → ℕ → Bool
is_special sep byte = byte == sep || byte == quote || byte == carriage_return || byte == line_feed

-- the field holds such a byte
abbrev pub holds_special : ℕ → List ℕ → Bool
holds_special sep [] = false
holds_special sep (byte ∷ rest) = is_special sep byte || holds_special sep rest

abbrev pub begins_with_mark : List ℕ → Bool
begins_with_mark (first ∷ second ∷ third ∷ rest) = first == 239 && second == 187 && third == 191
begins_with_mark (first ∷ second ∷ []) = false
begins_with_mark (first ∷ []) = false
begins_with_mark [] = false

-- a quote twice, and any other byte once
abbrev pub doubled_if_quote : ℕ → List ℕ
doubled_if_quote byte = if byte == quote then quote ∷ quote ∷ [] else byte ∷ []

-- each quote twice
unfoldable pub doubled : List ℕ → List ℕ
doubled [] = []
doubled (byte ∷ rest) = doubled_if_quote byte ++ doubled rest

-- the field, in quotes if need be
abbrev pub field_text : Bool → List ℕ → List ℕ
field_text in_quotes field = if in_quotes then quote ∷ doubled field ++ quote ∷ [] else field

-- a field after the first, and the separator before it
abbrev pub text_of_next : ℕ → List ℕ → List ℕ
text_of_next sep field = sep ∷ field_text (holds_special sep field) field

-- the fields after the first, and the line feed
unfoldable pub text_of_others : ℕ → List (List ℕ) → List ℕ
text_of_others sep [] = line_feed ∷ []
text_of_others sep (field ∷ fields) = text_of_next sep field ++ text_of_others sep fields

-- A row's only field is in quotes also if it is empty, lest the line be an empty one, and its first also
-- if it begins with a mark, lest the mark be dropped.
abbrev pub first_in_quotes : ℕ → List ℕ → ℕ → Bool
first_in_quotes sep field width = holds_special sep field || begins_with_mark field || (length field == 0 && width == 1)

-- the first field, of so many
abbrev pub text_of_first : ℕ → List ℕ → ℕ → List ℕ
text_of_first sep field width = field_text (first_in_quotes sep field width) field

unfoldable pub text_of_row : ℕ → List (List ℕ) → List ℕ
text_of_row sep [] = line_feed ∷ []
text_of_row sep (field ∷ others) = text_of_first sep field (length (field ∷ others)) ++ text_of_others sep others
