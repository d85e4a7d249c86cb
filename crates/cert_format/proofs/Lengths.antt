-- How long lines and texts are.
use Rattle.std.proofs.Common.{◌≡◌, ℕ, suc, ◌+◌, ◌*◌, ◌^◌, ◌<◌, ◌≤◌, ℤ, pos, negsuc, ◌≤ℤ◌, List, [], ◌∷◌, ◌++◌, map, length, length-append, ap, ◌∙◌, arith}
use Rattle.std.specs.Prelude.{decimal, unsigned_abs}
use Rattle.std.specs.Fmt.{signed_decimal}
use Rattle.std.specs.List.{AllByRecursion}
use Rattle.std.proofs.lemmas.Fmt.{length-decimal-le_wide}
use Rattle.std.proofs.lemmas.Int.{ints}
use Rattle.screen_model.specs.declared.bound.BoundName.{BoundName}
use Rattle.screen_model.specs.declared.bound.FlowItem.{FlowItem}
use Rattle.screen_model.specs.declared.bound.Side.{Side}
use Rattle.screen_model.specs.declared.bound.Side.TheVariants.{Up, Down}
use Rattle.cert_format.specs.declared.cert.SetLine.{SetLine}
use Rattle.cert_format.specs.declared.cert.Cert.{Cert}
use Rattle.cert_format.specs.declared.cert.Cert.TheVariants.{Repair, Priced, NoSeries}
use Rattle.cert_format.specs.declared.line.Line.{Line}
use Rattle.cert_format.specs.declared.line.Line.TheVariants.{Total, Paid, Set, Flow, Step, End}
use Rattle.cert_format.specs.Words.{line_feed, space}
use Rattle.cert_format.specs.Line.{IsName, IsTotal, IsSet, IsItem, side_word, text_of_line}
use Rattle.cert_format.specs.Cert.{AreLists, HasText, text_of_cert}
use Rattle.cert_format.specs.declared.limits.TheConstants.{LONGEST}
use Rattle.cert_format.specs.Laws.{AreFew, AreShort, HasFewLines, HasShortAmount, HasShortLines, HasShortValue, ShortTexts}
use Rattle.cert_format.proofs.Refusals.{text_of, text_of-append}

-- ---- numbers

decimal_short : (k n : ℕ) → 0 < k → k ≤ 30 → n < 10 ^ k → n < 10 ^ 30 → length (decimal n) ≤ k
decimal_short k n some few below small = length-decimal-le_wide k n some below (omega arith)

signed_short : (k : ℕ) (z : ℤ) → 0 < k → k ≤ 30 → unsigned_abs z < 10 ^ k → unsigned_abs z < 10 ^ 30 → length (signed_decimal z) ≤ k + 1
signed_short k (pos n) some few below small = omega (arith, decimal_short k n some few below small)
signed_short k (negsuc n) some few below small = omega (arith, decimal_short k (suc n) some few below small)

positive_short : (k : ℕ) (z : ℤ) → 0 < k → k ≤ 30 → pos 0 ≤ℤ z → unsigned_abs z < 10 ^ k → unsigned_abs z < 10 ^ 30 → length (signed_decimal z) ≤ k
positive_short k (pos n) some few sign below small = decimal_short k n some few below small
positive_short k (negsuc n) some few sign below small = absurd (omega (arith, ints, sign))

-- ---- lines

side_short : (side : Side) → length (side_word side) ≤ 4
side_short Up = omega arith
side_short Down = omega arith

length_led : (word rest : List ℕ) → length (word ++ space ∷ rest) ≡ length word + 1 + length rest
length_led word rest = omega (arith, length-append word (space ∷ rest))

-- four numbers with a space after each, and what follows them
abbrev numbers_then : BoundName → List ℕ → List ℕ
numbers_then name rest = decimal name.rule ++ space ∷ (decimal name.from_row ++ space ∷ (decimal name.to_row ++ space ∷ (decimal name.col ++ space ∷ rest)))

numbers_short : (name : BoundName) (rest : List ℕ) → IsName name → length (numbers_then name rest) ≤ 23 + length rest
numbers_short name rest is =
    let four = decimal name.col ++ space ∷ rest in
    let three = decimal name.to_row ++ space ∷ four in
    let two = decimal name.from_row ++ space ∷ three in
    let rule : length (decimal name.rule) ≤ 4 = decimal_short 4 name.rule (omega arith) (omega arith) (omega (arith, is.rule)) (omega (arith, is.rule)) in
    let from : length (decimal name.from_row) ≤ 6 = decimal_short 6 name.from_row (omega arith) (omega arith) (omega (arith, is.from_most)) (omega (arith, is.from_most)) in
    let to : length (decimal name.to_row) ≤ 6 = decimal_short 6 name.to_row (omega arith) (omega arith) (omega (arith, is.to_most)) (omega (arith, is.to_most)) in
    let col : length (decimal name.col) ≤ 3 = decimal_short 3 name.col (omega arith) (omega arith) (omega (arith, is.col_most)) (omega (arith, is.col_most)) in
    omega (arith, rule, from, to, col, length_led (decimal name.rule) two, length_led (decimal name.from_row) three, length_led (decimal name.to_row) four, length_led (decimal name.col) rest)

set_short : (line : SetLine) → IsSet line → HasShortValue line → length (text_of_line (Set line)) < 33
set_short line is short =
    let value = signed_decimal line.value in
    let row : length (decimal line.place.row) ≤ 6 = decimal_short 6 line.place.row (omega arith) (omega arith) (omega (arith, is.0.row_most)) (omega (arith, is.0.row_most)) in
    let col : length (decimal line.place.col) ≤ 3 = decimal_short 3 line.place.col (omega arith) (omega arith) (omega (arith, is.0.col_most)) (omega (arith, is.0.col_most)) in
    let few : length value ≤ 17 = signed_short 16 line.value (omega arith) (omega arith) (omega (arith, short)) (omega (arith, short)) in
    omega (arith, row, col, few, length_led (decimal line.place.row) (decimal line.place.col ++ space ∷ value), length_led (decimal line.place.col) value)

flow_short : (item : FlowItem) → IsItem item → HasShortAmount item → length (text_of_line (Flow item)) < 44
flow_short item is short =
    let amount = signed_decimal item.amount in
    let side = side_word item.name.side in
    let few : length amount ≤ 10 = positive_short 10 item.amount (omega arith) (omega arith) (omega (arith, ints, is.1.0)) (omega (arith, short)) (omega (arith, short)) in
    omega (arith, few, side_short item.name.side, numbers_short item.name (side ++ space ∷ amount) is.0, length_led side amount)

set_fits : (line : SetLine) → IsSet line → length (text_of_line (Set line)) < 35
set_fits line is =
    let value = signed_decimal line.value in
    let row : length (decimal line.place.row) ≤ 6 = decimal_short 6 line.place.row (omega arith) (omega arith) (omega (arith, is.0.row_most)) (omega (arith, is.0.row_most)) in
    let col : length (decimal line.place.col) ≤ 3 = decimal_short 3 line.place.col (omega arith) (omega arith) (omega (arith, is.0.col_most)) (omega (arith, is.0.col_most)) in
    let few : length value ≤ 19 = signed_short 18 line.value (omega arith) (omega arith) (omega (arith, is.1)) (omega (arith, is.1)) in
    omega (arith, row, col, few, length_led (decimal line.place.row) (decimal line.place.col ++ space ∷ value), length_led (decimal line.place.col) value)

flow_fits : (item : FlowItem) → IsItem item → length (text_of_line (Flow item)) < 50
flow_fits item is =
    let amount = signed_decimal item.amount in
    let side = side_word item.name.side in
    let small : unsigned_abs item.amount < 10 ^ 16 = omega (arith, ints, is.1.0, is.1.1) in
    let few : length amount ≤ 16 = positive_short 16 item.amount (omega arith) (omega arith) (omega (arith, ints, is.1.0)) small (omega (arith, small)) in
    omega (arith, few, side_short item.name.side, numbers_short item.name (side ++ space ∷ amount) is.0, length_led side amount)

step_short : (name : BoundName) → IsName name → length (text_of_line (Step name)) < 33
step_short name is = omega (arith, side_short name.side, numbers_short name (side_word name.side) is)

total_short : (total : ℤ) → IsTotal total → length (text_of_line (Total total)) ≤ 36
total_short total is =
    let few : length (signed_decimal total) ≤ 30 = positive_short 30 total (omega arith) (omega arith) is.0 (omega (arith, is.1)) (omega (arith, is.1)) in
    omega (arith, few)

paid_short : (paid : ℤ) → IsTotal paid → length (text_of_line (Paid paid)) ≤ 35
paid_short paid is =
    let few : length (signed_decimal paid) ≤ 30 = positive_short 30 paid (omega arith) (omega arith) is.0 (omega (arith, is.1)) (omega (arith, is.1)) in
    omega (arith, few)

-- ---- texts

length_more : (line : Line) (lines : List Line) → length (text_of (line ∷ lines)) ≡ length (text_of_line line) + 1 + length (text_of lines)
length_more line lines = omega (arith, length-append (text_of_line line) (line_feed ∷ text_of lines))

length_both : (lines more : List Line) → length (text_of (lines ++ more)) ≡ length (text_of lines) + length (text_of more)
length_both lines more = ap length (text_of-append lines more) ∙ length-append (text_of lines) (text_of more)

sets_short : (sets : List SetLine) → AllByRecursion IsSet sets → AllByRecursion HasShortValue sets → length (text_of (map Set sets)) ≤ 33 * length sets
sets_short [] are short = omega arith
sets_short (line ∷ sets) are short = omega (arith, set_short line are.0 short.0, sets_short sets are.1 short.1, length_more (Set line) (map Set sets))

items_short : (flow : List FlowItem) → AllByRecursion IsItem flow → AllByRecursion HasShortAmount flow → length (text_of (map Flow flow)) ≤ 44 * length flow
items_short [] are short = omega arith
items_short (item ∷ flow) are short = omega (arith, flow_short item are.0 short.0, items_short flow are.1 short.1, length_more (Flow item) (map Flow flow))

steps_short : (steps : List BoundName) → AllByRecursion IsName steps → length (text_of (map Step steps)) ≤ 33 * length steps
steps_short [] are = omega arith
steps_short (name ∷ steps) are = omega (arith, step_short name are.0, steps_short steps are.1, length_more (Step name) (map Step steps))

lists_short : (sets : List SetLine) (flow : List FlowItem) → AreLists sets flow → AreFew sets flow → AreShort sets flow → length (text_of ((map Set sets ++ map Flow flow) ++ End ∷ [])) ≤ 189200004
lists_short sets flow are few short =
    omega (
      arith,
      few.0,
      few.1,
      sets_short sets are.each_set short.0,
      items_short flow are.each_item short.1,
      length_both (map Set sets) (map Flow flow),
      length_both (map Set sets ++ map Flow flow) (End ∷ []),
    )

text_short : (cert : Cert) → HasText cert → HasFewLines cert → HasShortLines cert → length (text_of_cert cert) < 190000000
text_short (Repair total sets flow) has few short =
    let lists = (map Set sets ++ map Flow flow) ++ End ∷ [] in
    omega (arith, lists_short sets flow has.1 few short, total_short total has.0, length_more (Total total) lists)
text_short (Priced total paid sets flow) has few short =
    let lists = (map Set sets ++ map Flow flow) ++ End ∷ [] in
    omega (arith, lists_short sets flow has.2 few short, total_short total has.0, paid_short paid has.1, length_more (Total total) (Paid paid ∷ lists), length_more (Paid paid) lists)
text_short (NoSeries steps) has few short = omega (arith, few, steps_short steps has.1, length_both (map Step steps) (End ∷ []))

-- ---- texts of lines of any kind

sets_fit : (sets : List SetLine) → AllByRecursion IsSet sets → length (text_of (map Set sets)) ≤ 35 * length sets
sets_fit [] are = omega arith
sets_fit (line ∷ sets) are = omega (arith, set_fits line are.0, sets_fit sets are.1, length_more (Set line) (map Set sets))

items_fit : (flow : List FlowItem) → AllByRecursion IsItem flow → length (text_of (map Flow flow)) ≤ 50 * length flow
items_fit [] are = omega arith
items_fit (item ∷ flow) are = omega (arith, flow_fits item are.0, items_fit flow are.1, length_more (Flow item) (map Flow flow))

lists_fit : (sets : List SetLine) (flow : List FlowItem) → AreLists sets flow → AreFew sets flow → length (text_of ((map Set sets ++ map Flow flow) ++ End ∷ [])) ≤ 214000004
lists_fit sets flow are few =
    omega (
      arith,
      few.0,
      few.1,
      sets_fit sets are.each_set,
      items_fit flow are.each_item,
      length_both (map Set sets) (map Flow flow),
      length_both (map Set sets ++ map Flow flow) (End ∷ []),
    )

text_fits : (cert : Cert) → HasText cert → HasFewLines cert → length (text_of_cert cert) ≤ LONGEST
text_fits (Repair total sets flow) has few =
    let lists = (map Set sets ++ map Flow flow) ++ End ∷ [] in
    omega (arith, lists_fit sets flow has.1 few, total_short total has.0, length_more (Total total) lists)
text_fits (Priced total paid sets flow) has few =
    let lists = (map Set sets ++ map Flow flow) ++ End ∷ [] in
    omega (arith, lists_fit sets flow has.2 few, total_short total has.0, paid_short paid has.1, length_more (Total total) (Paid paid ∷ lists), length_more (Paid paid) lists)
text_fits (NoSeries steps) has few = omega (arith, few, steps_short steps has.1, length_both (map Step steps) (End ∷ []))

pub short_texts : ShortTexts
short_texts = record { set_line = set_short; flow_line = flow_short; step_line = step_short; text = text_short; readable = text_fits }
