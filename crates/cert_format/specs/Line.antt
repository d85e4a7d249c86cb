-- To be believed: the lines of a certificate, their words and the limits of their numbers.
use Rattle.std.specs.Prelude.{ℕ, ◌^◌, ◌<◌, ◌≤◌, ℤ, pos, ◌≤ℤ◌, unsigned_abs, List, [], ◌∷◌, ◌++◌, codes, decimal}
use Rattle.std.specs.Fmt.{signed_decimal}
use Rattle.screen_model.specs.declared.place.Place.{Place}
use Rattle.screen_model.specs.declared.bound.BoundName.{BoundName}
use Rattle.screen_model.specs.declared.bound.FlowItem.{FlowItem}
use Rattle.screen_model.specs.declared.bound.Side.{Side}
use Rattle.screen_model.specs.declared.bound.Side.TheVariants.{Up, Down}
use Rattle.cert_format.specs.declared.cert.SetLine.{SetLine}
use Rattle.screen_model.specs.declared.limits.TheConstants.{MOST_COLUMNS, MOST_ROWS}
use Rattle.cert_format.specs.declared.limits.TheConstants.{MOST_RULE, MOST_AMOUNT, VALUE_DIGITS, TOTAL_DIGITS}
use Rattle.cert_format.specs.declared.line.Version.{Version}
use Rattle.cert_format.specs.declared.line.Version.TheVariants.{One, Two}
use Rattle.cert_format.specs.declared.line.Line.{Line}
use Rattle.cert_format.specs.declared.line.Line.TheVariants.{Header, ClaimRepair, ClaimNone, Total, Paid, Set, Flow, Step, End}
use Rattle.cert_format.specs.Words.{line_of_words}

-- ---- limits

pub record IsPlace (place : Place) : Type 0 where
  pub row_least : 1 ≤ place.row
  pub row_most : place.row ≤ MOST_ROWS
  pub col_least : 1 ≤ place.col
  pub col_most : place.col ≤ MOST_COLUMNS

pub record IsName (name : BoundName) : Type 0 where
  pub rule : name.rule ≤ MOST_RULE
  pub from_least : 1 ≤ name.from_row
  pub from_most : name.from_row ≤ MOST_ROWS
  pub to_least : 1 ≤ name.to_row
  pub to_most : name.to_row ≤ MOST_ROWS
  pub col_least : 1 ≤ name.col
  pub col_most : name.col ≤ MOST_COLUMNS

abbrev pub IsValue : ℤ → Type 0
IsValue value = unsigned_abs value < 10 ^ VALUE_DIGITS

abbrev pub IsAmount : ℤ → Type 0
IsAmount amount = (pos 1 ≤ℤ amount) × (amount ≤ℤ MOST_AMOUNT)

abbrev pub IsTotal : ℤ → Type 0
IsTotal total = (pos 0 ≤ℤ total) × (unsigned_abs total < 10 ^ TOTAL_DIGITS)

abbrev pub IsSet : SetLine → Type 0
IsSet line = IsPlace line.place × IsValue line.value

abbrev pub IsItem : FlowItem → Type 0
IsItem item = IsName item.name × IsAmount item.amount

-- the numbers of a line are within their limits
abbrev pub IsLine : Line → Type 0
IsLine (Header version) = Unit {0}
IsLine ClaimRepair = Unit {0}
IsLine ClaimNone = Unit {0}
IsLine (Total total) = IsTotal total
IsLine (Paid paid) = IsTotal paid
IsLine (Set line) = IsSet line
IsLine (Flow item) = IsItem item
IsLine (Step name) = IsName name
IsLine End = Unit {0}

-- ---- words. A number has the digits that it needs, with `-` before them where it is below 0.

abbrev pub version_word : Version → List ℕ
version_word One = codes "1"
version_word Two = codes "2"

abbrev pub side_word : Side → List ℕ
side_word Up = codes "up"
side_word Down = codes "down"

abbrev pub name_words : BoundName → List (List ℕ)
name_words name = decimal name.rule ∷ decimal name.from_row ∷ decimal name.to_row ∷ decimal name.col ∷ side_word name.side ∷ []

abbrev pub words_of : Line → List (List ℕ)
words_of (Header version) = codes "screen-cert" ∷ version_word version ∷ []
words_of ClaimRepair = codes "claim" ∷ codes "repair" ∷ []
words_of ClaimNone = codes "claim" ∷ codes "none" ∷ []
words_of (Total total) = codes "total" ∷ signed_decimal total ∷ []
words_of (Paid paid) = codes "paid" ∷ signed_decimal paid ∷ []
words_of (Set line) = codes "set" ∷ decimal line.place.row ∷ decimal line.place.col ∷ signed_decimal line.value ∷ []
words_of (Flow item) = codes "flow" ∷ name_words item.name ++ signed_decimal item.amount ∷ []
words_of (Step name) = codes "step" ∷ name_words name
words_of End = codes "end" ∷ []

-- the text of a line, without its line feed
abbrev pub text_of_line : Line → List ℕ
text_of_line line = line_of_words (words_of line)
