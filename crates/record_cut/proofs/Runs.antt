-- Bytes without a special one, or without a quote.
use Rattle.std.proofs.Common.{◌≡◌, ◌≢◌, ℕ, zero, suc, ◌+◌, ◌<◌, ◌≤◌, nat_lt, ◌==◌, ◌||◌, Bool, true, false, List, [], ◌∷◌, ◌++◌, length, get_or, take, refl, sym, ap, ◌∙◌, arith, ne_eqb, le-ltb, lt-ltb}
use Rattle.std.proofs.lemmas.List.{take_more, take_all}
use Rattle.std.proofs.lemmas.Bool.{both_ways, eqb-false}
use Rattle.words.proofs.Texts.{or_right}
use Rattle.record_cut.specs.Row.{is_special, holds_special}
use Rattle.record_cut.specs.Quotes.{holds_quote}

pub or-left : (a b : Bool) → (a || b) ≡ false → a ≡ false
or-left true b e = e
or-left false b e = refl

pub or-right : (a b : Bool) → (a || b) ≡ false → b ≡ false
or-right true b e = absurd (both_ways true e refl)
or-right false b e = e

or-both : (a b : Bool) → a ≡ false → b ≡ false → (a || b) ≡ false
or-both a b e f = rw (e, f) refl

-- a byte that is not special
pub record IsOrdinary (sep byte : ℕ) : Type 0 where
  pub no_sep : byte ≢ sep
  pub no_quote : byte ≢ 34
  pub no_cr : byte ≢ 13
  pub no_line_feed : byte ≢ 10

pub ordinary : (sep byte : ℕ) (rest : List ℕ) → holds_special sep (byte ∷ rest) ≡ false → IsOrdinary sep byte
ordinary sep byte rest e =
    let here : (byte == sep || byte == 34 || byte == 13 || byte == 10) ≡ false = or-left (byte == sep || byte == 34 || byte == 13 || byte == 10) (holds_special sep rest) e in
    let three : (byte == sep || byte == 34 || byte == 13) ≡ false = or-left (byte == sep || byte == 34 || byte == 13) (byte == 10) here in
    let two : (byte == sep || byte == 34) ≡ false = or-left (byte == sep || byte == 34) (byte == 13) three in
    record {
      no_sep = eqb-false byte sep (or-left (byte == sep) (byte == 34) two);
      no_quote = eqb-false byte 34 (or-right (byte == sep) (byte == 34) two);
      no_cr = eqb-false byte 13 (or-right (byte == sep || byte == 34) (byte == 13) three);
      no_line_feed = eqb-false byte 10 (or-right (byte == sep || byte == 34 || byte == 13) (byte == 10) here);
    }

pub others-ordinary : (sep byte : ℕ) (rest : List ℕ) → holds_special sep (byte ∷ rest) ≡ false → holds_special sep rest ≡ false
others-ordinary sep byte rest e = or-right (byte == sep || byte == 34 || byte == 13 || byte == 10) (holds_special sep rest) e

no_special-append : (sep : ℕ) (bytes more : List ℕ) → holds_special sep bytes ≡ false → holds_special sep more ≡ false → holds_special sep (bytes ++ more) ≡ false
no_special-append sep [] more e f = f
no_special-append sep (byte ∷ bytes) more e f = or-both (byte == sep || byte == 34 || byte == 13 || byte == 10) (holds_special sep (bytes ++ more)) (or-left (byte == sep || byte == 34 || byte == 13 || byte == 10) (holds_special sep bytes) e) (no_special-append sep bytes more (others-ordinary sep byte bytes e) f)

pub no_special-more : (sep : ℕ) (bytes : List ℕ) (i : ℕ) → i < length bytes → holds_special sep (take i bytes) ≡ false → is_special sep (get_or bytes i 0) ≡ false → holds_special sep (take (i + 1) bytes) ≡ false
no_special-more sep bytes i h e f = ap (holds_special sep) (take_more bytes i 0 h) ∙ no_special-append sep (take i bytes) (get_or bytes i 0 ∷ []) e (or-both (is_special sep (get_or bytes i 0)) false f refl)

special-here : (sep : ℕ) (bytes : List ℕ) (i : ℕ) → i < length bytes → is_special sep (get_or bytes i 0) ≡ true → holds_special sep bytes ≡ true
special-here sep [] i h e = absurd (omega arith)
special-here sep (byte ∷ bytes) zero h e = rw e refl
special-here sep (byte ∷ bytes) (suc i) h e = rw (special-here sep bytes i (omega arith) e) (or_right (is_special sep byte) true refl)

pub special-at : (sep : ℕ) (bytes : List ℕ) (i : ℕ) → i < length bytes → is_special sep (get_or bytes i 0) ≡ true → holds_special sep bytes ≡ nat_lt i (length bytes)
special-at sep bytes i h e = special-here sep bytes i h e ∙ sym (lt-ltb i (length bytes) h)

pub special-none : (sep : ℕ) (bytes : List ℕ) (i all : ℕ) → length bytes ≤ i → length bytes ≤ all → holds_special sep (take i bytes) ≡ false → holds_special sep bytes ≡ nat_lt all (length bytes)
special-none sep bytes i all h k e = ap (holds_special sep) (sym (take_all i bytes h)) ∙ e ∙ sym (le-ltb all (length bytes) k)

pub no_quote-first : (byte : ℕ) (rest : List ℕ) → holds_quote (byte ∷ rest) ≡ false → byte ≢ 34
no_quote-first byte rest e = eqb-false byte 34 (or-left (byte == 34) (holds_quote rest) e)

pub others-no_quote : (byte : ℕ) (rest : List ℕ) → holds_quote (byte ∷ rest) ≡ false → holds_quote rest ≡ false
others-no_quote byte rest e = or-right (byte == 34) (holds_quote rest) e

no_quote-append : (bytes more : List ℕ) → holds_quote bytes ≡ false → holds_quote more ≡ false → holds_quote (bytes ++ more) ≡ false
no_quote-append [] more e f = f
no_quote-append (byte ∷ bytes) more e f = or-both (byte == 34) (holds_quote (bytes ++ more)) (or-left (byte == 34) (holds_quote bytes) e) (no_quote-append bytes more (others-no_quote byte bytes e) f)

pub no_quote-more : (bytes : List ℕ) (i : ℕ) → i < length bytes → holds_quote (take i bytes) ≡ false → get_or bytes i 0 ≢ 34 → holds_quote (take (i + 1) bytes) ≡ false
no_quote-more bytes i h e q = ap holds_quote (take_more bytes i 0 h) ∙ no_quote-append (take i bytes) (get_or bytes i 0 ∷ []) e (rw (ne_eqb (get_or bytes i 0) 34 q) refl)
