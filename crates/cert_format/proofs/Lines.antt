-- A line and its text: each tells the other.
use Rattle.std.proofs.Common.{◌≡◌, ℕ, suc, ◌^◌, ◌<◌, false, cond, eqb, ne_eqb, ℤ, pos, negsuc, neg_ℤ, List, [], ◌∷◌, ◌++◌, length, get_or, drop, append_assoc, refl, sym, ap, ◌∙◌, arith}
use Rattle.std.specs.Prelude.{codes, decimal, unsigned_abs}
use Rattle.std.specs.Fmt.{signed_decimal}
use Rattle.std.specs.List.{AllByRecursion}
use Rattle.std.specs.Str.Parse.{digits_value}
use Rattle.std.proofs.lemmas.Int.{ints}
use Rattle.std.proofs.lemmas.Str.Parse.{digit_at}
use Rattle.screen_model.specs.declared.bound.BoundName.{BoundName}
use Rattle.screen_model.specs.declared.bound.FlowItem.{FlowItem}
use Rattle.screen_model.specs.declared.bound.Side.{Side}
use Rattle.screen_model.specs.declared.bound.Side.TheVariants.{Up, Down}
use Rattle.cert_format.specs.declared.cert.SetLine.{SetLine}
use Rattle.cert_format.specs.declared.line.Version.{Version}
use Rattle.cert_format.specs.declared.line.Version.TheVariants.{One, Two}
use Rattle.cert_format.specs.declared.line.Line.{Line}
use Rattle.cert_format.specs.declared.line.Line.TheVariants.{Header, ClaimRepair, ClaimNone, Total, Paid, Set, Flow, Step, End}
use Rattle.cert_format.specs.Words.{space, line_feed, line_of_words}
use Rattle.cert_format.specs.Line.{IsName, IsValue, IsAmount, IsTotal, IsSet, IsItem, IsLine, version_word, side_word, words_of, text_of_line}
use Rattle.cert_format.specs.Fields.{Lacks, item_fields, name_fields}
use Rattle.cert_format.proofs.Digits.{value-decimal, digits-decimal, decimal_some}
use Rattle.cert_format.proofs.Words.{IsWord, word_by_test, word_of_digits, line_lacks_feed, words_in, words_in-line}

-- ---- the words of a line are words

pub word_decimal : (n : ℕ) → n < 10 ^ 64 → IsWord (decimal n)
word_decimal n small = word_of_digits (decimal n) (digits-decimal n small)

pub word_signed : (z : ℤ) → unsigned_abs z < 10 ^ 64 → IsWord (signed_decimal z)
word_signed (pos n) small = word_decimal n small
word_signed (negsuc n) small = (omega arith, word_decimal (suc n) small)

word_side : (side : Side) → IsWord (side_word side)
word_side Up = word_by_test (side_word Up) refl
word_side Down = word_by_test (side_word Down) refl

word_version : (version : Version) → IsWord (version_word version)
word_version One = word_by_test (version_word One) refl
word_version Two = word_by_test (version_word Two) refl

pub total_small : (total : ℤ) → IsTotal total → unsigned_abs total < 10 ^ 64
total_small total is = omega (arith, is.1)

pub value_small : (value : ℤ) → IsValue value → unsigned_abs value < 10 ^ 64
value_small value is = omega (arith, is)

pub amount_small : (amount : ℤ) → IsAmount amount → unsigned_abs amount < 10 ^ 64
amount_small (pos n) is = omega (arith, ints, is.1)
amount_small (negsuc n) is = absurd (omega (arith, ints, is.0))

words_of_name : (name : BoundName) (more : List (List ℕ)) → IsName name → AllByRecursion IsWord more
    → AllByRecursion IsWord (decimal name.rule ∷ decimal name.from_row ∷ decimal name.to_row ∷ decimal name.col ∷ side_word name.side ∷ more)
words_of_name name more is are = (
  word_decimal name.rule (omega (arith, is.rule)),
  (
    word_decimal name.from_row (omega (arith, is.from_most)),
    (word_decimal name.to_row (omega (arith, is.to_most)), (word_decimal name.col (omega (arith, is.col_most)), (word_side name.side, are))),
  ),
)

pub are_words : (line : Line) → IsLine line → AllByRecursion IsWord (words_of line)
are_words (Header version) is = (word_by_test (codes "screen-cert") refl, (word_version version, tt))
are_words ClaimRepair is = (word_by_test (codes "claim") refl, (word_by_test (codes "repair") refl, tt))
are_words ClaimNone is = (word_by_test (codes "claim") refl, (word_by_test (codes "none") refl, tt))
are_words (Total total) is = (word_by_test (codes "total") refl, (word_signed total (total_small total is), tt))
are_words (Paid paid) is = (word_by_test (codes "paid") refl, (word_signed paid (total_small paid is), tt))
are_words (Set line) is = (
  word_by_test (codes "set") refl,
  (word_decimal line.place.row (omega (arith, is.0.row_most)), (word_decimal line.place.col (omega (arith, is.0.col_most)), (word_signed line.value (value_small line.value is.1), tt))),
)
are_words (Flow item) is = (word_by_test (codes "flow") refl, words_of_name item.name (signed_decimal item.amount ∷ []) is.0 (word_signed item.amount (amount_small item.amount is.1), tt))
are_words (Step name) is = (word_by_test (codes "step") refl, words_of_name name [] is tt)
are_words End is = (word_by_test (codes "end") refl, tt)

pub lacks_feed : (line : Line) → IsLine line → Lacks line_feed (text_of_line line)
lacks_feed line is = line_lacks_feed (words_of line) (are_words line is)

-- ---- the line of some words

abbrev word_at : ℕ → List (List ℕ) → List ℕ
word_at i words = get_or words i []

abbrev number_in : List ℕ → ℕ
number_in word = digits_value 10 word

abbrev signed_in : List ℕ → ℤ
signed_in word = cond (eqb (get_or word 0 0) 45) (neg_ℤ (pos (number_in (drop 1 word)))) (pos (number_in word))

abbrev side_in : List ℕ → Side
side_in word = cond (eqb (get_or word 0 0) 117) Up Down

abbrev version_in : List ℕ → Version
version_in word = cond (eqb (get_or word 0 0) 49) One Two

abbrev claim_in : List ℕ → Line
claim_in word = cond (eqb (get_or word 0 0) 114) ClaimRepair ClaimNone

abbrev name_of_parts : ℕ → ℕ → ℕ → ℕ → Side → BoundName
name_of_parts rule from to col side = record { rule = rule; from_row = from; to_row = to; col = col; side = side }

abbrev set_of_parts : ℕ → ℕ → ℤ → SetLine
set_of_parts row col value = record { place = record { row = row; col = col }; value = value }

abbrev pub item_of_parts : BoundName → ℤ → FlowItem
item_of_parts name amount = record { name = name; amount = amount }

abbrev name_in : List (List ℕ) → BoundName
name_in words = name_of_parts (number_in (word_at 1 words)) (number_in (word_at 2 words)) (number_in (word_at 3 words)) (number_in (word_at 4 words)) (side_in (word_at 5 words))

abbrev set_in : List (List ℕ) → SetLine
set_in words = set_of_parts (number_in (word_at 1 words)) (number_in (word_at 2 words)) (signed_in (word_at 3 words))

abbrev item_in : List (List ℕ) → FlowItem
item_in words = item_of_parts (name_in words) (signed_in (word_at 6 words))

-- by the first two letters of the first word
abbrev line_by : ℕ → ℕ → List (List ℕ) → Line
line_by first second words =
    cond (eqb first 102) (Flow (item_in words)) (
    cond (eqb first 116) (Total (signed_in (word_at 1 words))) (
    cond (eqb first 112) (Paid (signed_in (word_at 1 words))) (
    cond (eqb first 99) (claim_in (word_at 1 words)) (
    cond (eqb first 101) End (
    cond (eqb second 99) (Header (version_in (word_at 1 words))) (cond (eqb second 101) (Set (set_in words)) (Step (name_in words)))
    )
    )
    )
    )
    )

-- the only line that may have these words
abbrev pub line_in : List (List ℕ) → Line
line_in words = line_by (get_or (word_at 0 words) 0 0) (get_or (word_at 0 words) 1 0) words

pub first_is_no_sign : (n : ℕ) → n < 10 ^ 64 → eqb (get_or (decimal n) 0 0) 45 ≡ false
first_is_no_sign n small =
    let range = digit_at (decimal n) 0 (digits-decimal n small) (decimal_some n small) in
    ne_eqb (get_or (decimal n) 0 0) 45 (λ e. omega (arith, e, range.0))

signed_back : (z : ℤ) → unsigned_abs z < 10 ^ 64 → signed_in (signed_decimal z) ≡ z
signed_back (pos n) small =
    ap (λ b. cond b (neg_ℤ (pos (number_in (drop 1 (decimal n))))) (pos (number_in (decimal n)))) (first_is_no_sign n small) ∙ ap pos (value-decimal n small)
signed_back (negsuc n) small = ap (λ m. neg_ℤ (pos m)) (value-decimal (suc n) small)

side_back : (side : Side) → side_in (side_word side) ≡ side
side_back Up = refl
side_back Down = refl

name_back : (name : BoundName) → IsName name
    → name_of_parts (number_in (decimal name.rule)) (number_in (decimal name.from_row)) (number_in (decimal name.to_row)) (number_in (decimal name.col)) (side_in (side_word name.side)) ≡ name
name_back name is =
    let rule : number_in (decimal name.rule) ≡ name.rule = value-decimal name.rule (omega (arith, is.rule)) in
    let from : number_in (decimal name.from_row) ≡ name.from_row = value-decimal name.from_row (omega (arith, is.from_most)) in
    let to : number_in (decimal name.to_row) ≡ name.to_row = value-decimal name.to_row (omega (arith, is.to_most)) in
    let col : number_in (decimal name.col) ≡ name.col = value-decimal name.col (omega (arith, is.col_most)) in
    let side : side_in (side_word name.side) ≡ name.side = side_back name.side in
    ap (λ n. name_of_parts n (number_in (decimal name.from_row)) (number_in (decimal name.to_row)) (number_in (decimal name.col)) (side_in (side_word name.side))) rule
    ∙ ap (λ n. name_of_parts name.rule n (number_in (decimal name.to_row)) (number_in (decimal name.col)) (side_in (side_word name.side))) from
    ∙ ap (λ n. name_of_parts name.rule name.from_row n (number_in (decimal name.col)) (side_in (side_word name.side))) to
    ∙ ap (λ n. name_of_parts name.rule name.from_row name.to_row n (side_in (side_word name.side))) col
    ∙ ap (λ s. name_of_parts name.rule name.from_row name.to_row name.col s) side

item_back : (item : FlowItem) → IsItem item
    → item_of_parts
    (name_of_parts (number_in (decimal item.name.rule)) (number_in (decimal item.name.from_row)) (number_in (decimal item.name.to_row)) (number_in (decimal item.name.col)) (side_in (side_word item.name.side)))
    (signed_in (signed_decimal item.amount))
    ≡ item
item_back item is =
    ap (λ name. item_of_parts name (signed_in (signed_decimal item.amount))) (name_back item.name is.0) ∙ ap (item_of_parts item.name) (signed_back item.amount (amount_small item.amount is.1))

set_back : (line : SetLine) → IsSet line → set_of_parts (number_in (decimal line.place.row)) (number_in (decimal line.place.col)) (signed_in (signed_decimal line.value)) ≡ line
set_back line is =
    let row : number_in (decimal line.place.row) ≡ line.place.row = value-decimal line.place.row (omega (arith, is.0.row_most)) in
    let col : number_in (decimal line.place.col) ≡ line.place.col = value-decimal line.place.col (omega (arith, is.0.col_most)) in
    ap (λ n. set_of_parts n (number_in (decimal line.place.col)) (signed_in (signed_decimal line.value))) row
    ∙ ap (λ n. set_of_parts line.place.row n (signed_in (signed_decimal line.value))) col
    ∙ ap (set_of_parts line.place.row line.place.col) (signed_back line.value (value_small line.value is.1))

line_in-words : (line : Line) → IsLine line → line_in (words_of line) ≡ line
line_in-words (Header One) is = refl
line_in-words (Header Two) is = refl
line_in-words ClaimRepair is = refl
line_in-words ClaimNone is = refl
line_in-words (Total total) is = ap Total (signed_back total (total_small total is))
line_in-words (Paid paid) is = ap Paid (signed_back paid (total_small paid is))
line_in-words (Set line) is = ap Set (set_back line is)
line_in-words (Flow item) is = ap Flow (item_back item is)
line_in-words (Step name) is = ap Step (name_back name is)
line_in-words End is = refl

-- ---- the line of some bytes

-- the only line that may have this text
abbrev pub line_at : List ℕ → Line
line_at bytes = line_in (words_in bytes)

words_back : (words : List (List ℕ)) → 0 < length words → AllByRecursion IsWord words → words_in (line_of_words words) ≡ words
words_back [] some are = absurd (omega arith)
words_back (word ∷ words) some are = words_in-line word words are

some_words : (line : Line) → 0 < length (words_of line)
some_words (Header version) = omega arith
some_words ClaimRepair = omega arith
some_words ClaimNone = omega arith
some_words (Total total) = omega arith
some_words (Paid paid) = omega arith
some_words (Set line) = omega arith
some_words (Flow item) = omega arith
some_words (Step name) = omega arith
some_words End = omega arith

pub line_at-text : (line : Line) → IsLine line → line_at (text_of_line line) ≡ line
line_at-text line is = ap line_in (words_back (words_of line) (some_words line) (are_words line is)) ∙ line_in-words line is

-- two lines with one text are equal
pub one_line : (line other : Line) → IsLine line → IsLine other → text_of_line line ≡ text_of_line other → line ≡ other
one_line line other is is_other e = sym (line_at-text line is) ∙ ap line_at e ∙ line_at-text other is_other

-- ---- the words of an item

pub item_fields-split : (item : FlowItem) → item_fields item ≡ name_fields item.name ++ space ∷ signed_decimal item.amount
item_fields-split item =
    let amount = space ∷ signed_decimal item.amount in
    let side = side_word item.name.side in
    let col = decimal item.name.col ++ space ∷ side in
    let to = decimal item.name.to_row ++ space ∷ col in
    let from = decimal item.name.from_row ++ space ∷ to in
    sym (
    append_assoc (decimal item.name.rule) (space ∷ from) amount
    ∙ ap (λ s. decimal item.name.rule ++ space ∷ s) (
    append_assoc (decimal item.name.from_row) (space ∷ to) amount
    ∙ ap (λ s. decimal item.name.from_row ++ space ∷ s) (
    append_assoc (decimal item.name.to_row) (space ∷ col) amount
    ∙ ap (λ s. decimal item.name.to_row ++ space ∷ s) (append_assoc (decimal item.name.col) (space ∷ side) amount)
    )
    )
    )
