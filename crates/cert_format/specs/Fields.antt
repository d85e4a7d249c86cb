-- For proofs: words at the front of some bytes.
use Rattle.std.specs.Prelude.{◌≡◌, ◌≢◌, ℕ, ◌≤◌, List, [], ◌∷◌, ◌++◌, decimal}
use Rattle.std.specs.Fmt.{signed_decimal}
use Rattle.std.specs.List.{AllByRecursion}
use Rattle.screen_model.specs.declared.bound.BoundName.{BoundName}
use Rattle.screen_model.specs.declared.bound.FlowItem.{FlowItem}
use Rattle.cert_format.specs.declared.cert.SetLine.{SetLine}
use Rattle.cert_format.specs.declared.line.Line.{Line}
use Rattle.cert_format.specs.declared.line.Line.TheVariants.{Header, ClaimRepair, ClaimNone, Total, Paid, Set, Flow, Step, End}
use Rattle.cert_format.specs.Words.{space, line_feed, line_of_words}
use Rattle.cert_format.specs.Line.{IsLine, name_words, text_of_line}

-- no such byte is among these
abbrev pub Lacks : ℕ → List ℕ → Type 0
Lacks byte bytes = AllByRecursion (λ other. other ≢ byte) bytes

-- the bytes are a number within these limits, a space, and the rest
pub record IsNumberThen (least most : ℕ) (bytes : List ℕ) (number : ℕ) (rest : List ℕ) : Type 0 where
  pub low : least ≤ number
  pub high : number ≤ most
  pub text : bytes ≡ decimal number ++ space ∷ rest

abbrev pub HasNoNumber : Line → Type 0
HasNoNumber (Header version) = Unit {0}
HasNoNumber ClaimRepair = Unit {0}
HasNoNumber ClaimNone = Unit {0}
HasNoNumber End = Unit {0}
HasNoNumber (Total total) = ⊥
HasNoNumber (Paid paid) = ⊥
HasNoNumber (Set line) = ⊥
HasNoNumber (Flow item) = ⊥
HasNoNumber (Step name) = ⊥

-- the bytes are the text of a line within limits, a line feed, and the rest
pub record IsLineThen (bytes : List ℕ) (line : Line) (rest : List ℕ) : Type 0 where
  pub is : IsLine line
  pub text : bytes ≡ text_of_line line ++ line_feed ∷ rest

-- no line feed follows, or one follows no line's text
pub data HasNoLine (bytes : List ℕ) : Type 0 where
  no_feed : Lacks line_feed bytes → HasNoLine bytes
  no_line : (text rest : List ℕ) → bytes ≡ text ++ line_feed ∷ rest → Lacks line_feed text → ((line : Line) → IsLine line → text ≢ text_of_line line) → HasNoLine bytes

-- the words after the first, as they stand in a line
abbrev pub set_fields : SetLine → List ℕ
set_fields line = line_of_words (decimal line.place.row ∷ decimal line.place.col ∷ signed_decimal line.value ∷ [])

abbrev pub name_fields : BoundName → List ℕ
name_fields name = line_of_words (name_words name)

abbrev pub item_fields : FlowItem → List ℕ
item_fields item = line_of_words (name_words item.name ++ signed_decimal item.amount ∷ [])
