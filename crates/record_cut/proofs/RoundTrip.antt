-- The text of a row is read back as its fields.
use Rattle.std.proofs.Common.{◌≡◌, ◌≢◌, inl, inr, ℕ, ◌-◌, ◌<◌, ◌≤◌, ◌==◌, ◌||◌, ◌&&◌, nat_lt, Bool, true, false, IsTrue, List, [], ◌∷◌, ◌++◌, length, Some, None, refl, sym, ap, ◌∙◌, subst, arith, append_assoc, ne_eqb, eq-eqb, le-ltb, length-append}
use Rattle.std.proofs.lemmas.Bool.Decides.{eqb_tells}
use Rattle.std.proofs.lemmas.Bool.{both_ways}
use Rattle.words.proofs.Texts.{or_right}
use Rattle.words.specs.Separators.{is_separator}
use Rattle.record_cut.specs.Bytes.{after_line_break}
use Rattle.record_cut.specs.Field.{led_by, led_if_any, quoted, ends_plain, plain, field_at}
use Rattle.record_cut.specs.Record.{Nothing, Whole, with_fields, record_at}
use Rattle.record_cut.specs.Records.{Cut, Rest, with_records, by_record, records_from, without_mark, records}
use Rattle.record_cut.specs.Row.{holds_special, begins_with_mark, doubled, doubled_if_quote, field_text, first_in_quotes, text_of_others, text_of_row}
use Rattle.record_cut.specs.RoundTrip.{text_of_rows, AreWithinLimits, RoundTrip}
use Rattle.record_cut.proofs.Grammar.{other_byte, plain-other, quoted-two, quoted-close, quoted-other, field-quote, field-other, after-sep, after-line_feed, other-no_break}
use Rattle.record_cut.proofs.Within.{record-field, records-nil}
use Rattle.record_cut.proofs.Openings.{line-read, mark-first, no_mark, no_mark-nil}
use Rattle.record_cut.proofs.Runs.{or-left, or-right, ordinary, others-ordinary}
use Rattle.record_cut.proofs.Rows.{doubled-cons, doubled-nil, others-cons, others-nil}

and-false : (a : Bool) → (a && false) ≡ false
and-false true = refl
and-false false = refl

-- a byte that ends a field in the text of a row
record Stops (sep byte : ℕ) : Type 0 where
  stops : (rest : List ℕ) → ends_plain sep (byte ∷ rest) ≡ true
  no_quote : byte ≢ 34
  no_first : byte ≢ 239
  no_second : byte ≢ 187
  no_third : byte ≢ 191
  no_break : (rest : List ℕ) → byte ≡ sep → after_line_break (byte ∷ rest) ≡ None

sep-stops : (sep : ℕ) → IsTrue (is_separator sep) → Stops sep sep
sep-stops sep is = record {
  stops = λ rest. rw (eq-eqb sep sep refl) refl;
  no_quote = λ e. other_byte sep 34 is refl (sym e);
  no_first = λ e. other_byte sep 239 is refl (sym e);
  no_second = λ e. other_byte sep 187 is refl (sym e);
  no_third = λ e. other_byte sep 191 is refl (sym e);
  no_break = λ rest e. other-no_break sep rest (λ f. other_byte sep 10 is refl (sym f)) (λ f. other_byte sep 13 is refl (sym f));
}

line_feed-stops : (sep : ℕ) → IsTrue (is_separator sep) → Stops sep 10
line_feed-stops sep is = record {
  stops = λ rest. or_right _ true refl;
  no_quote = λ e. cc;
  no_first = λ e. cc;
  no_second = λ e. cc;
  no_third = λ e. cc;
  no_break = λ rest e. absurd (other_byte sep 10 is refl e);
}

plain-stops : (sep byte : ℕ) (rest : List ℕ) → Stops sep byte → plain sep (byte ∷ rest) ≡ record { value = []; rest = byte ∷ rest }
unfolding plain
plain-stops sep byte rest s = rw (s.stops rest) refl

plain-back : (sep byte : ℕ) (field rest : List ℕ) → Stops sep byte → holds_special sep field ≡ false → plain sep (field ++ byte ∷ rest) ≡ record { value = field; rest = byte ∷ rest }
plain-back sep byte [] rest s e = plain-stops sep byte rest s
plain-back sep byte (x ∷ field) rest s e =
    let o = ordinary sep x field e in
    plain-other sep x (field ++ byte ∷ rest) o.no_sep o.no_quote o.no_line_feed o.no_cr ∙ ap (led_by (x ∷ [])) (plain-back sep byte field rest s (others-ordinary sep x field e))

quoted-one : (x : ℕ) (more : List ℕ) → quoted (doubled_if_quote x ++ more) ≡ led_if_any (x ∷ []) (quoted more)
quoted-one x more = elim (eqb_tells x 34) [
  | inl is_so ↦ rw is_so.1 (quoted-two more)
  | inr is_not ↦ rw is_not.0 (quoted-other x more is_not.1)
]

quoted-back : (byte : ℕ) (field rest : List ℕ) → byte ≢ 34 → quoted (doubled field ++ 34 ∷ byte ∷ rest) ≡ Some (record { value = field; rest = byte ∷ rest })
quoted-back byte [] rest h = rw doubled-nil (quoted-close byte rest h)
quoted-back byte (x ∷ field) rest h =
    let more : List ℕ = doubled field ++ 34 ∷ byte ∷ rest in
    let front : doubled (x ∷ field) ++ 34 ∷ byte ∷ rest ≡ doubled_if_quote x ++ more = ap (λ d. d ++ 34 ∷ byte ∷ rest) (doubled-cons x field) ∙ append_assoc (doubled_if_quote x) (doubled field) (34 ∷ byte ∷ rest) in
    ap quoted front ∙ quoted-one x more ∙ ap (led_if_any (x ∷ [])) (quoted-back byte field rest h)

field-back : (sep byte : ℕ) (in_quotes : Bool) (field rest : List ℕ) → Stops sep byte → (in_quotes ≡ false → holds_special sep field ≡ false) → field_at sep (field_text in_quotes field ++ byte ∷ rest) ≡ Some (record { value = field; rest = byte ∷ rest })
field-back sep byte true field rest s plainly = field-quote sep ((doubled field ++ 34 ∷ []) ++ byte ∷ rest) ∙ ap quoted (append_assoc (doubled field) (34 ∷ []) (byte ∷ rest)) ∙ quoted-back byte field rest s.no_quote
field-back sep byte false [] rest s plainly = field-other sep byte rest s.no_quote ∙ ap Some (plain-back sep byte [] rest s refl)
field-back sep byte false (x ∷ field) rest s plainly =
    let o = ordinary sep x field (plainly refl) in
    field-other sep x (field ++ byte ∷ rest) o.no_quote ∙ ap Some (plain-back sep byte (x ∷ field) rest s (plainly refl))

record-back : (sep : ℕ) (in_quotes : Bool) (field : List ℕ) (others : List (List ℕ)) (rest : List ℕ) → IsTrue (is_separator sep) → (in_quotes ≡ false → holds_special sep field ≡ false) → record_at sep (field_text in_quotes field ++ (text_of_others sep others ++ rest)) ≡ Whole (field ∷ others) rest
record-back sep in_quotes field [] rest is plainly =
    let bytes : List ℕ = field_text in_quotes field ++ 10 ∷ rest in
    let text : text_of_others sep [] ++ rest ≡ 10 ∷ rest = ap (λ t. t ++ rest) (others-nil sep) in
    ap (λ t. record_at sep (field_text in_quotes field ++ t)) text ∙ record-field sep bytes ∙ rw (field-back sep 10 in_quotes field rest (line_feed-stops sep is) plainly, after-line_feed sep rest (other_byte sep 10 is refl)) refl
record-back sep in_quotes field (next ∷ others) rest is plainly =
    let more : List ℕ = field_text (holds_special sep next) next ++ (text_of_others sep others ++ rest) in
    let bytes : List ℕ = field_text in_quotes field ++ sep ∷ more in
    let text : text_of_others sep (next ∷ others) ++ rest ≡ sep ∷ more = ap (λ t. t ++ rest) (others-cons sep next others) ∙ ap (λ t. sep ∷ t) (append_assoc (field_text (holds_special sep next) next) (text_of_others sep others) rest) in
    ap (λ t. record_at sep (field_text in_quotes field ++ t)) text ∙ record-field sep bytes ∙ rw (field-back sep sep in_quotes field more (sep-stops sep is) plainly, after-sep sep more) (ap (with_fields (field ∷ [])) (record-back sep (holds_special sep next) next others rest is (λ e. e)))

-- the beginning of a row's text

record Begins (bytes : List ℕ) : Type 0 where
  first : ℕ
  tail : List ℕ
  is : bytes ≡ first ∷ tail
  no_break : after_line_break (first ∷ tail) ≡ None
  unmarked : without_mark (first ∷ tail) ≡ first ∷ tail

record OthersBegin (sep : ℕ) (bytes : List ℕ) : Type 0 where
  byte : ℕ
  tail : List ℕ
  is : bytes ≡ byte ∷ tail
  stops : Stops sep byte

others-begin : (sep : ℕ) (others : List (List ℕ)) (rest : List ℕ) → IsTrue (is_separator sep) → OthersBegin sep (text_of_others sep others ++ rest)
others-begin sep [] rest is = record { byte = 10; tail = rest; is = ap (λ t. t ++ rest) (others-nil sep); stops = line_feed-stops sep is }
others-begin sep (next ∷ others) rest is = record { byte = sep; tail = (field_text (holds_special sep next) next ++ text_of_others sep others) ++ rest; is = ap (λ t. t ++ rest) (others-cons sep next others); stops = sep-stops sep is }

not-second : (first byte : ℕ) (rest : List ℕ) → byte ≢ 187 → without_mark (first ∷ byte ∷ rest) ≡ first ∷ byte ∷ rest
unfolding without_mark
not-second first byte [] h = refl
not-second first byte (third ∷ rest) h = rw (ne_eqb byte 187 h, and-false (first == 239)) refl

not-third : (first second byte : ℕ) (rest : List ℕ) → byte ≢ 191 → without_mark (first ∷ second ∷ byte ∷ rest) ≡ first ∷ second ∷ byte ∷ rest
unfolding without_mark
not-third first second byte rest h = rw (ne_eqb byte 191 h, and-false (first == 239 && second == 187)) refl

not-mark : (first second third : ℕ) (rest : List ℕ) → (first == 239 && second == 187 && third == 191) ≡ false → without_mark (first ∷ second ∷ third ∷ rest) ≡ first ∷ second ∷ third ∷ rest
unfolding without_mark
not-mark first second third rest e = rw e refl

quoted-begins : (field more : List ℕ) → Begins (field_text true field ++ more)
quoted-begins field more = record { first = 34; tail = (doubled field ++ 34 ∷ []) ++ more; is = refl; no_break = refl; unmarked = mark-first 34 ((doubled field ++ 34 ∷ []) ++ more) (λ e. cc) }

plain-unmarked : (sep byte x : ℕ) (field tail : List ℕ) → Stops sep byte → begins_with_mark (x ∷ field) ≡ false → without_mark (x ∷ (field ++ byte ∷ tail)) ≡ x ∷ (field ++ byte ∷ tail)
plain-unmarked sep byte x [] tail s e = not-second x byte tail s.no_second
plain-unmarked sep byte x (y ∷ []) tail s e = not-third x y byte tail s.no_third
plain-unmarked sep byte x (y ∷ z ∷ field) tail s e = not-mark x y z (field ++ byte ∷ tail) e

plain-begins : (sep : ℕ) (field : List ℕ) (others : List (List ℕ)) (rest : List ℕ) → IsTrue (is_separator sep) → holds_special sep field ≡ false → begins_with_mark field ≡ false → (length field == 0 && length (field ∷ others) == 1) ≡ false → Begins (field ++ (text_of_others sep others ++ rest))
plain-begins sep [] [] rest is plainly unmarked some = absurd (both_ways true some refl)
plain-begins sep [] (next ∷ others) rest is plainly unmarked some =
    let s = sep-stops sep is in
    record { first = sep; tail = (field_text (holds_special sep next) next ++ text_of_others sep others) ++ rest; is = ap (λ t. t ++ rest) (others-cons sep next others); no_break = s.no_break ((field_text (holds_special sep next) next ++ text_of_others sep others) ++ rest) refl; unmarked = mark-first sep ((field_text (holds_special sep next) next ++ text_of_others sep others) ++ rest) s.no_first }
plain-begins sep (x ∷ field) others rest is plainly unmarked some =
    let o = others-begin sep others rest is in
    let x_is = ordinary sep x field plainly in
    record { first = x; tail = field ++ o.byte ∷ o.tail; is = ap (λ t. x ∷ (field ++ t)) o.is; no_break = other-no_break x (field ++ o.byte ∷ o.tail) x_is.no_line_feed x_is.no_cr; unmarked = plain-unmarked sep o.byte x field o.tail o.stops unmarked }

first-begins : (sep : ℕ) (in_quotes : Bool) (field : List ℕ) (others : List (List ℕ)) (rest : List ℕ) → IsTrue (is_separator sep) → in_quotes ≡ first_in_quotes sep field (length (field ∷ others)) → Begins (field_text in_quotes field ++ (text_of_others sep others ++ rest))
first-begins sep true field others rest is e = quoted-begins field (text_of_others sep others ++ rest)
first-begins sep false field others rest is e =
    let unquoted : first_in_quotes sep field (length (field ∷ others)) ≡ false = sym e in
    let two : (holds_special sep field || begins_with_mark field) ≡ false = or-left (holds_special sep field || begins_with_mark field) (length field == 0 && length (field ∷ others) == 1) unquoted in
    plain-begins sep field others rest is (or-left (holds_special sep field) (begins_with_mark field) two) (or-right (holds_special sep field) (begins_with_mark field) two) (or-right (holds_special sep field || begins_with_mark field) (length field == 0 && length (field ∷ others) == 1) unquoted)

row-parts : (sep : ℕ) (field : List ℕ) (others : List (List ℕ)) (rest : List ℕ) → text_of_row sep (field ∷ others) ++ rest ≡ field_text (first_in_quotes sep field (length (field ∷ others))) field ++ (text_of_others sep others ++ rest)
unfolding text_of_row
row-parts sep field others rest = append_assoc (field_text (first_in_quotes sep field (length (field ∷ others))) field) (text_of_others sep others) rest

unquoted-plain : (sep : ℕ) (field : List ℕ) (others : List (List ℕ)) → first_in_quotes sep field (length (field ∷ others)) ≡ false → holds_special sep field ≡ false
unquoted-plain sep field others e = or-left (holds_special sep field) (begins_with_mark field) (or-left (holds_special sep field || begins_with_mark field) (length field == 0 && length (field ∷ others) == 1) e)

row-back : (sep : ℕ) (row : List (List ℕ)) (rest : List ℕ) → IsTrue (is_separator sep) → 0 < length row → record_at sep (text_of_row sep row ++ rest) ≡ Whole row rest
row-back sep [] rest is some = absurd (omega arith)
row-back sep (field ∷ others) rest is some = ap (record_at sep) (row-parts sep field others rest) ∙ record-back sep (first_in_quotes sep field (length (field ∷ others))) field others rest is (unquoted-plain sep field others)

row-begins : (sep : ℕ) (row : List (List ℕ)) (rest : List ℕ) → IsTrue (is_separator sep) → 0 < length row → Begins (text_of_row sep row ++ rest)
row-begins sep [] rest is some = absurd (omega arith)
row-begins sep (field ∷ others) rest is some = subst Begins (sym (row-parts sep field others rest)) (first-begins sep (first_in_quotes sep field (length (field ∷ others))) field others rest is refl)

-- rows

by_row : (more : List ℕ → Cut) (all size : ℕ) (row : List (List ℕ)) (rest : List ℕ) → size - length rest ≤ 65536 → by_record more all size (Whole row rest) ≡ with_records (row ∷ []) (more rest)
by_row more all size row rest h =
    let short : nat_lt 65536 (size - length rest) ≡ false = le-ltb 65536 (size - length rest) h in
    rw short refl

rows-back : (sep all : ℕ) (rows : List (List (List ℕ))) → IsTrue (is_separator sep) → AreWithinLimits sep rows → records_from sep all (text_of_rows sep rows) ≡ record { records = rows; onward = Rest Nothing }
rows-back sep all [] is within = records-nil sep all
rows-back sep all (row ∷ rows) is within =
    let rest : List ℕ = text_of_rows sep rows in
    let bytes : List ℕ = text_of_row sep row ++ rest in
    let b = row-begins sep row rest is within.0 in
    let read : record_at sep (b.first ∷ b.tail) ≡ Whole row rest = ap (record_at sep) (sym b.is) ∙ row-back sep row rest is within.0 in
    let long : length bytes - length rest ≤ 65536 = omega (arith, length-append (text_of_row sep row) rest, within.1) in
    ap (records_from sep all) b.is ∙ line-read sep all b.first (length bytes) b.tail (Whole row rest) b.no_break (ap length b.is) read ∙ by_row (records_from sep all) all (length bytes) row rest long ∙ ap (with_records (row ∷ [])) (rows-back sep all rows is within.2)

rows-unmarked : (sep : ℕ) (rows : List (List (List ℕ))) → IsTrue (is_separator sep) → AreWithinLimits sep rows → without_mark (text_of_rows sep rows) ≡ text_of_rows sep rows
rows-unmarked sep [] is within = no_mark-nil
rows-unmarked sep (row ∷ rows) is within =
    let b = row-begins sep row (text_of_rows sep rows) is within.0 in
    ap without_mark b.is ∙ b.unmarked ∙ sym b.is

pub round_trip : RoundTrip
unfolding records
round_trip sep rows is within = no_mark sep (length (text_of_rows sep rows)) (text_of_rows sep rows) (rows-unmarked sep rows is within) ∙ rows-back sep (length (text_of_rows sep rows)) rows is within
