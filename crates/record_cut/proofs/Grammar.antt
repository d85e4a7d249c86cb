-- The grammar, a byte at a time from the front.
use Rattle.std.proofs.Common.{◌≡◌, ◌≢◌, ℕ, ◌==◌, true, false, IsTrue, List, [], ◌∷◌, Some, None, refl, sym, ap, ◌∙◌, ne_eqb, eq-eqb}
use Rattle.std.proofs.lemmas.Bool.{both_ways}
use Rattle.words.proofs.Texts.{or_right}
use Rattle.words.specs.Separators.{is_separator}
use Rattle.record_cut.specs.Bytes.{after_line_feed, after_line_break}
use Rattle.record_cut.specs.Field.{led_by, led_if_any, quoted, ends_plain, plain, field_at, Next, Line, End, LastCr, Wrong, after_field}

-- a byte that is no separator is another one than this
pub other_byte : (sep byte : ℕ) → IsTrue (is_separator sep) → is_separator byte ≡ false → byte ≢ sep
other_byte sep byte is not e = both_ways (is_separator sep) (ap is_separator (sym e) ∙ not) is

pub line_feed-break : (more : List ℕ) → after_line_break (10 ∷ more) ≡ Some more
line_feed-break more = refl

pub cr-break : (more : List ℕ) → after_line_break (13 ∷ more) ≡ after_line_feed more
cr-break more = refl

pub cr-no_break : (byte : ℕ) (more : List ℕ) → byte ≢ 10 → after_line_break (13 ∷ byte ∷ more) ≡ None
cr-no_break byte more h = rw (ne_eqb byte 10 h) refl

pub other-no_break : (byte : ℕ) (more : List ℕ) → byte ≢ 10 → byte ≢ 13 → after_line_break (byte ∷ more) ≡ None
other-no_break byte more h k = rw (ne_eqb byte 13 k, ne_eqb byte 10 h) refl

-- unquoted fields

pub plain-nil : (sep : ℕ) → plain sep [] ≡ record { value = []; rest = [] }
unfolding plain
plain-nil sep = refl

plain-stop : (sep byte : ℕ) (more : List ℕ) → ends_plain sep (byte ∷ more) ≡ true → plain sep (byte ∷ more) ≡ record { value = []; rest = byte ∷ more }
unfolding plain
plain-stop sep byte more e = rw e refl

plain-go : (sep byte : ℕ) (more : List ℕ) → ends_plain sep (byte ∷ more) ≡ false → plain sep (byte ∷ more) ≡ led_by (byte ∷ []) (plain sep more)
unfolding plain
plain-go sep byte more e = rw e refl

pub plain-sep : (sep : ℕ) (more : List ℕ) → plain sep (sep ∷ more) ≡ record { value = []; rest = sep ∷ more }
plain-sep sep more = plain-stop sep sep more (rw (eq-eqb sep sep refl) refl)

pub plain-quote : (sep : ℕ) (more : List ℕ) → plain sep (34 ∷ more) ≡ record { value = []; rest = 34 ∷ more }
plain-quote sep more = plain-stop sep 34 more (rw (or_right (34 == sep) true refl) refl)

pub plain-line_feed : (sep : ℕ) (more : List ℕ) → plain sep (10 ∷ more) ≡ record { value = []; rest = 10 ∷ more }
plain-line_feed sep more = plain-stop sep 10 more (or_right _ true refl)

pub plain-line_break : (sep : ℕ) (more : List ℕ) → plain sep (13 ∷ 10 ∷ more) ≡ record { value = []; rest = 13 ∷ 10 ∷ more }
plain-line_break sep more = plain-stop sep 13 (10 ∷ more) (or_right _ true refl)

pub plain-cr : (sep byte : ℕ) (more : List ℕ) → 13 ≢ sep → byte ≢ 10 → plain sep (13 ∷ byte ∷ more) ≡ led_by (13 ∷ []) (plain sep (byte ∷ more))
plain-cr sep byte more h k = plain-go sep 13 (byte ∷ more) (rw (ne_eqb 13 sep h, ne_eqb byte 10 k) refl)

pub plain-cr-end : (sep : ℕ) → 13 ≢ sep → plain sep (13 ∷ []) ≡ record { value = 13 ∷ []; rest = [] }
unfolding plain
plain-cr-end sep h = rw (ne_eqb 13 sep h) refl

pub plain-other : (sep byte : ℕ) (more : List ℕ) → byte ≢ sep → byte ≢ 34 → byte ≢ 10 → byte ≢ 13 → plain sep (byte ∷ more) ≡ led_by (byte ∷ []) (plain sep more)
plain-other sep byte more h q l k = plain-go sep byte more (rw (ne_eqb byte sep h, ne_eqb byte 34 q, ne_eqb byte 13 k, ne_eqb byte 10 l) refl)

-- quoted fields

pub quoted-nil : quoted [] ≡ None
unfolding quoted
quoted-nil = refl

pub quoted-two : (more : List ℕ) → quoted (34 ∷ 34 ∷ more) ≡ led_if_any (34 ∷ []) (quoted more)
unfolding quoted
quoted-two more = refl

pub quoted-end : quoted (34 ∷ []) ≡ Some (record { value = []; rest = [] })
unfolding quoted
quoted-end = refl

pub quoted-close : (byte : ℕ) (more : List ℕ) → byte ≢ 34 → quoted (34 ∷ byte ∷ more) ≡ Some (record { value = []; rest = byte ∷ more })
unfolding quoted
quoted-close byte more h = rw (ne_eqb byte 34 h) refl

pub quoted-other : (byte : ℕ) (more : List ℕ) → byte ≢ 34 → quoted (byte ∷ more) ≡ led_if_any (byte ∷ []) (quoted more)
unfolding quoted
quoted-other byte [] h = rw (ne_eqb byte 34 h) refl
quoted-other byte (next ∷ more) h = rw (ne_eqb byte 34 h) refl

-- fields

pub field-nil : (sep : ℕ) → field_at sep [] ≡ Some (plain sep [])
unfolding field_at
field-nil sep = refl

pub field-quote : (sep : ℕ) (more : List ℕ) → field_at sep (34 ∷ more) ≡ quoted more
unfolding field_at
field-quote sep more = refl

pub field-other : (sep byte : ℕ) (more : List ℕ) → byte ≢ 34 → field_at sep (byte ∷ more) ≡ Some (plain sep (byte ∷ more))
unfolding field_at
field-other sep byte more h = rw (ne_eqb byte 34 h) refl

-- what follows a field

pub after-nil : (sep : ℕ) → after_field sep [] ≡ End
unfolding after_field
after-nil sep = refl

pub after-sep : (sep : ℕ) (more : List ℕ) → after_field sep (sep ∷ more) ≡ Next more
unfolding after_field
after-sep sep more = rw (eq-eqb sep sep refl) refl

pub after-line_feed : (sep : ℕ) (more : List ℕ) → 10 ≢ sep → after_field sep (10 ∷ more) ≡ Line more
unfolding after_field
after-line_feed sep more h = rw (ne_eqb 10 sep h) refl

pub after-line_break : (sep : ℕ) (more : List ℕ) → 13 ≢ sep → after_field sep (13 ∷ 10 ∷ more) ≡ Line more
unfolding after_field
after-line_break sep more h = rw (ne_eqb 13 sep h) refl

pub after-cr-end : (sep : ℕ) → 13 ≢ sep → after_field sep (13 ∷ []) ≡ LastCr
unfolding after_field
after-cr-end sep h = rw (ne_eqb 13 sep h) refl

pub after-cr : (sep byte : ℕ) (more : List ℕ) → 13 ≢ sep → byte ≢ 10 → after_field sep (13 ∷ byte ∷ more) ≡ Wrong (byte ∷ more)
unfolding after_field
after-cr sep byte more h k = rw (ne_eqb 13 sep h, ne_eqb byte 10 k) refl

pub after-other : (sep byte : ℕ) (more : List ℕ) → byte ≢ sep → byte ≢ 10 → byte ≢ 13 → after_field sep (byte ∷ more) ≡ Wrong (byte ∷ more)
unfolding after_field
after-other sep byte more h l k = rw (ne_eqb byte sep h, ne_eqb byte 13 k, ne_eqb byte 10 l) refl
