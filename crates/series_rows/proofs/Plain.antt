-- The text of a number is never in quotes, and never a missing reading.
use Rattle.std.proofs.Common.{◌≡◌, ℕ, zero, suc, ◌/◌, ◌%◌, ◌^◌, ◌<◌, ◌≤◌, ◌==◌, ◌||◌, ◌&&◌, Bool, true, false, ℤ, pos, negsuc, List, [], ◌∷◌, ◌++◌, length, reverse, refl, ap, ◌∙◌, arith}
use Rattle.std.specs.Prelude.{if◌then◌else◌, IsTrue, IsFalse, unsigned_abs, decimal}
use Rattle.std.specs.List.{AllByRecursion, list_any}
use Rattle.std.specs.Str.{bytes_eq}
use Rattle.std.specs.Str.Parse.{AllDigits}
use Rattle.std.proofs.lemmas.Bool.Decides.{nat_tests}
use Rattle.std.proofs.lemmas.Fmt.{decimal_is_IsNumeral_wide}
use Rattle.std.proofs.lemmas.List.{length-append, reverse-append}
use Rattle.std.proofs.Math.Nat.{div-le_self}
use Rattle.std.proofs.lemmas.Nat.{mod_below}
use Rattle.std.proofs.lemmas.Str.Parse.{digit_from_value}
use Rattle.words.proofs.Lists.{reverse_cons}
use Rattle.fix_point.specs.Grammar.{is_blank}
use Rattle.fix_point.specs.Text.{places, decimals_text, minus_text, text_of_value}
use Rattle.time_text.specs.Trimmed.{without_leading_blanks, without_trailing_blanks, trimmed}
use Rattle.words.specs.Separators.{is_separator}
use Rattle.record_cut.specs.Row.{holds_special, begins_with_mark, first_in_quotes, field_text, text_of_first, text_of_next}
use Rattle.series_rows.specs.Cells.{is_missing, missing_words}
use Rattle.series_rows.specs.Columns.{text_of_column}

-- a digit, a minus or a point
abbrev pub IsPlain : ℕ → Type 0
IsPlain c = (45 ≤ c) × (c ≤ 57)

-- ---- the bytes of a number

plain_append : (xs ys : List ℕ) → AllByRecursion IsPlain xs → AllByRecursion IsPlain ys → AllByRecursion IsPlain (xs ++ ys)
plain_append [] ys p q = q
plain_append (x ∷ xs) ys p q = (p.0, plain_append xs ys p.1 q)

plain_digits : (ds : List ℕ) → AllDigits 10 ds → AllByRecursion IsPlain ds
plain_digits [] h = tt
plain_digits (c ∷ ds) h = let range = digit_from_value c h.0 in ((omega (arith, range.0), omega (arith, range.1)), plain_digits ds h.1)

plain_places : (k size : ℕ) → AllByRecursion IsPlain (places k size)
plain_places zero size = tt
plain_places (suc more) size = let digit = mod_below (size / 10 ^ more) 10 (omega arith) in ((omega arith, omega (arith, digit)), plain_places more size)

plain_decimals : (d size : ℕ) → AllByRecursion IsPlain (decimals_text d size)
plain_decimals zero size = tt
plain_decimals (suc more) size = ((omega arith, omega arith), plain_places (suc more) size)

plain_minus : (v : ℤ) → AllByRecursion IsPlain (minus_text v)
plain_minus (pos size) = tt
plain_minus (negsuc size) = ((omega arith, omega arith), tt)

-- what is known of the text of a number
pub record IsPlainText (text : List ℕ) : Type 0 where
  pub plain : AllByRecursion IsPlain text
  pub some : 0 < length text

pub plain_text : (v : ℤ) (d : ℕ) → unsigned_abs v < 10 ^ 64 → IsPlainText (text_of_value v d)
plain_text v d small =
    let w = unsigned_abs v / 10 ^ d in
    let r = unsigned_abs v % 10 ^ d in
    let wide : w < 10 ^ 64 = omega (arith, small, div-le_self (unsigned_abs v) (10 ^ d)) in
    let numeral = decimal_is_IsNumeral_wide w wide in
    record {
      plain = plain_append (minus_text v) (decimal w ++ decimals_text d r) (plain_minus v) (plain_append (decimal w) (decimals_text d r) (plain_digits (decimal w) numeral.0.1) (plain_decimals d r));
      some = omega (arith, length-append (minus_text v) (decimal w ++ decimals_text d r), length-append (decimal w) (decimals_text d r), numeral.0.0);
    }

-- ---- it is written as it is

not_separator : (sep c : ℕ) → IsTrue (is_separator sep) → IsPlain c → (c == sep) ≡ false
not_separator sep c separates plain = grind (arith, nat_tests)

not_special : (sep c : ℕ) → IsTrue (is_separator sep) → IsPlain c → (c == sep || c == 34 || c == 13 || c == 10) ≡ false
not_special sep c separates plain = let other = not_separator sep c separates plain in grind (arith, nat_tests)

or_false : (a b : Bool) → a ≡ false → b ≡ false → (a || b) ≡ false
or_false true b p q = absurd cc
or_false false b p q = q

and_false : (a b : Bool) → a ≡ false → (a && b) ≡ false
and_false true b p = absurd cc
and_false false b p = refl

holds_none : (sep : ℕ) (text : List ℕ) → IsTrue (is_separator sep) → AllByRecursion IsPlain text → holds_special sep text ≡ false
holds_none sep [] separates plain = refl
holds_none sep (c ∷ rest) separates plain = or_false _ _ (not_special sep c separates plain.0) (holds_none sep rest separates plain.1)

not_byte : (c other : ℕ) → IsPlain c → 57 < other → (c == other) ≡ false
not_byte c other plain above = grind (arith, nat_tests)

no_mark : (text : List ℕ) → AllByRecursion IsPlain text → begins_with_mark text ≡ false
no_mark [] plain = refl
no_mark (a ∷ []) plain = refl
no_mark (a ∷ b ∷ []) plain = refl
no_mark (a ∷ b ∷ c ∷ rest) plain = let other = not_byte a 239 plain.0 (omega arith) in grind (arith, nat_tests)

not_empty : (text : List ℕ) (width : ℕ) → 0 < length text → ((length text == 0) && (width == 1)) ≡ false
not_empty [] width h = absurd (omega arith)
not_empty (c ∷ rest) width h = and_false _ _ (let other : (suc (length rest) == 0) ≡ false = grind (arith, nat_tests) in other)

no_quotes : (sep : ℕ) (text : List ℕ) (width : ℕ) → IsTrue (is_separator sep) → IsPlainText text → first_in_quotes sep text width ≡ false
no_quotes sep text width separates is = grind (arith, holds_none sep text separates is.plain, no_mark text is.plain, not_empty text width is.some)

as_first : (sep : ℕ) (text : List ℕ) (width : ℕ) → IsTrue (is_separator sep) → IsPlainText text → text_of_first sep text width ≡ text
as_first sep text width separates is = ap (λ q. field_text q text) (no_quotes sep text width separates is)

as_next : (sep : ℕ) (text : List ℕ) → IsTrue (is_separator sep) → IsPlainText text → text_of_next sep text ≡ sep ∷ text
as_next sep text separates is = ap (λ q. sep ∷ field_text q text) (holds_none sep text separates is.plain)

pub in_first : (sep width col : ℕ) (text : List ℕ) → IsTrue (is_separator sep) → IsPlainText text → col ≡ 1 → text_of_column sep width col text ≡ text
in_first sep width col text separates is first =
    let test : (col == 1) ≡ true = grind (arith, nat_tests) in
    ap (λ t. if t then text_of_first sep text width else text_of_next sep text) test ∙ as_first sep text width separates is

pub in_later : (sep width col : ℕ) (text : List ℕ) → IsTrue (is_separator sep) → IsPlainText text → 1 < col → text_of_column sep width col text ≡ sep ∷ text
in_later sep width col text separates is later =
    let test : (col == 1) ≡ false = grind (arith, nat_tests) in
    ap (λ t. if t then text_of_first sep text width else text_of_next sep text) test ∙ as_next sep text separates is

-- ---- it is not missing

not_blank : (c : ℕ) → IsPlain c → is_blank c ≡ false
not_blank c plain = grind (arith, nat_tests)

-- a byte that is no blank stays at the end
stays_last_if : (b : Bool) (x : ℕ) (xs rest : List ℕ) (c : ℕ) → ((left : List ℕ) × (rest ≡ left ++ c ∷ [])) → (left : List ℕ) × ((if b then rest else x ∷ (xs ++ c ∷ [])) ≡ left ++ c ∷ [])
stays_last_if true x xs rest c (left, e) = (left, e)
stays_last_if false x xs rest c h = (x ∷ xs, refl)

stays_last : (xs : List ℕ) (c : ℕ) → is_blank c ≡ false → (left : List ℕ) × (without_leading_blanks (xs ++ c ∷ []) ≡ left ++ c ∷ [])
stays_last [] c b = ([], ap (λ t. if t then [] else c ∷ []) b)
stays_last (x ∷ xs) c b = stays_last_if (is_blank x) x xs (without_leading_blanks (xs ++ c ∷ [])) c (stays_last xs c b)

-- a byte that is no blank stays at the beginning
stays_first : (c : ℕ) (rest : List ℕ) → is_blank c ≡ false → (left : List ℕ) × (trimmed (c ∷ rest) ≡ c ∷ left)
stays_first c rest b =
    let led : without_leading_blanks (c ∷ rest) ≡ c ∷ rest = ap (λ t. if t then without_leading_blanks rest else c ∷ rest) b in
    let (left, e) = stays_last (reverse rest) c b in (
      reverse left,
      ap without_trailing_blanks led ∙ ap (λ s. reverse (without_leading_blanks s)) (reverse_cons c rest) ∙ ap reverse e ∙ reverse-append left (c ∷ []),
    )

no_word : (c : ℕ) (rest : List ℕ) → IsPlain c → list_any (bytes_eq (c ∷ rest)) missing_words ≡ false
no_word c rest plain =
    let upper = not_byte c 78 plain (omega arith) in
    let lower = not_byte c 110 plain (omega arith) in
    or_false _ _ refl (or_false _ _ (and_false _ _ upper) (or_false _ _ (and_false _ _ lower) (or_false _ _ (and_false _ _ upper) (or_false _ _ (and_false _ _ lower) refl))))

pub not_missing : (text : List ℕ) → IsPlainText text → IsFalse (is_missing text)
not_missing [] is = absurd (omega (arith, is.some))
not_missing (c ∷ rest) is =
    let (left, e) = stays_first c rest (not_blank c is.plain.0) in
    ap (λ s. list_any (bytes_eq s) missing_words) e ∙ no_word c left is.plain.0
