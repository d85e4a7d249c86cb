-- A text that is not too long has few enough lines.
use Rattle.std.proofs.Common.{◌≡◌, ℕ, ◌+◌, ◌*◌, ◌≤◌, List, [], ◌∷◌, ◌++◌, map, length, length-append, ap, ◌∙◌, arith, None, Some, ℤ, Option}
use Rattle.std.specs.Prelude.{decimal}
use Rattle.std.specs.Fmt.{signed_decimal}
use Rattle.screen_model.specs.declared.bound.BoundName.{BoundName}
use Rattle.screen_model.specs.declared.bound.FlowItem.{FlowItem}
use Rattle.cert_format.specs.declared.cert.SetLine.{SetLine}
use Rattle.cert_format.specs.declared.cert.Cert.TheVariants.{NoSeries, Priced, Repair}
use Rattle.cert_format.specs.declared.limits.TheConstants.{LONGEST}
use Rattle.cert_format.specs.declared.line.Line.{Line}
use Rattle.cert_format.specs.declared.line.Line.TheVariants.{ClaimNone, ClaimRepair, End, Flow, Header, Paid, Set, Step, Total}
use Rattle.cert_format.specs.declared.line.Version.TheVariants.{One, Two}
use Rattle.cert_format.specs.Words.{line_feed, space}
use Rattle.cert_format.specs.Line.{side_word, text_of_line}
use Rattle.cert_format.specs.Cert.{AreLists, HasText, text_of_cert}
use Rattle.cert_format.proofs.Refusals.{text_of, text_of-append}
use Rattle.cert_check.specs.Claims.{IsFit}

length_more : (line : Line) (lines : List Line) → length (text_of (line ∷ lines)) ≡ length (text_of_line line) + 1 + length (text_of lines)
length_more line lines = omega (arith, length-append (text_of_line line) (line_feed ∷ text_of lines))

length_both : (lines more : List Line) → length (text_of (lines ++ more)) ≡ length (text_of lines) + length (text_of more)
length_both lines more = ap length (text_of-append lines more) ∙ length-append (text_of lines) (text_of more)

length_led : (word rest : List ℕ) → length (word ++ space ∷ rest) ≡ length word + 1 + length rest
length_led word rest = omega (arith, length-append word (space ∷ rest))

-- the first word, six spaces between words and a line feed
flow_long : (item : FlowItem) → 10 ≤ length (text_of_line (Flow item))
flow_long item =
    let name = item.name in
    let amount = signed_decimal item.amount in
    let side = side_word name.side ++ space ∷ amount in
    let col = decimal name.col ++ space ∷ side in
    let to = decimal name.to_row ++ space ∷ col in
    let from = decimal name.from_row ++ space ∷ to in
    omega (arith, length_led (decimal name.rule) from, length_led (decimal name.from_row) to, length_led (decimal name.to_row) col, length_led (decimal name.col) side, length_led (side_word name.side) amount)

flows_long : (flow : List FlowItem) → 11 * length flow ≤ length (text_of (map Flow flow))
flows_long [] = omega arith
flows_long (item ∷ flow) = omega (arith, flow_long item, flows_long flow, length_more (Flow item) (map Flow flow))

sets_long : (sets : List SetLine) → length sets ≤ length (text_of (map Set sets))
sets_long [] = omega arith
sets_long (line ∷ sets) = omega (arith, sets_long sets, length_more (Set line) (map Set sets))

steps_long : (steps : List BoundName) → length steps ≤ length (text_of (map Step steps))
steps_long [] = omega arith
steps_long (name ∷ steps) = omega (arith, steps_long steps, length_more (Step name) (map Step steps))

lists_long : (sets : List SetLine) (flow : List FlowItem) → length sets + 11 * length flow ≤ length (text_of ((map Set sets ++ map Flow flow) ++ End ∷ []))
lists_long sets flow = omega (arith, sets_long sets, flows_long flow, length_both (map Set sets) (map Flow flow), length_both (map Set sets ++ map Flow flow) (End ∷ []))

pub fits : (before : ℕ) (total : ℤ) (paid : Option ℤ) (sets : List SetLine) (flow : List FlowItem) → before ≤ 4 → AreLists sets flow → length sets + 11 * length flow ≤ LONGEST
    → IsFit (record { before = before; total = total; paid = paid; sets = sets; flow = flow })
fits before total paid sets flow few are short = record { before = few; lines = omega (arith, short); items = omega (arith, short); each = are.each_item }

pub repair_fits : (told total : ℤ) (sets : List SetLine) (flow : List FlowItem) → HasText (Repair total sets flow) → length (text_of_cert (Repair total sets flow)) ≤ LONGEST
    → IsFit (record { before = 3; total = told; paid = None; sets = sets; flow = flow })
repair_fits told total sets flow has short =
    let lists = (map Set sets ++ map Flow flow) ++ End ∷ [] in
    fits 3 told None sets flow (omega arith) has.1
    (omega (arith, short, lists_long sets flow, length_more (Header One) (ClaimRepair ∷ Total total ∷ lists), length_more ClaimRepair (Total total ∷ lists), length_more (Total total) lists))

pub priced_fits : (told told_paid total paid : ℤ) (sets : List SetLine) (flow : List FlowItem) → HasText (Priced total paid sets flow) → length (text_of_cert (Priced total paid sets flow)) ≤ LONGEST
    → IsFit (record { before = 4; total = told; paid = Some told_paid; sets = sets; flow = flow })
priced_fits told told_paid total paid sets flow has short =
    let lists = (map Set sets ++ map Flow flow) ++ End ∷ [] in
    fits 4 told (Some told_paid) sets flow (omega arith) has.2
    (omega (arith, short, lists_long sets flow, length_more (Header Two) (ClaimRepair ∷ Total total ∷ Paid paid ∷ lists), length_more ClaimRepair (Total total ∷ Paid paid ∷ lists), length_more (Total total) (Paid paid ∷ lists), length_more (Paid paid) lists))

pub steps_fit : (steps : List BoundName) → length (text_of_cert (NoSeries steps)) ≤ LONGEST → length steps ≤ LONGEST
steps_fit steps short =
    let lines = map Step steps ++ End ∷ [] in
    omega (arith, short, steps_long steps, length_both (map Step steps) (End ∷ []), length_more (Header One) (ClaimNone ∷ lines), length_more ClaimNone lines)
