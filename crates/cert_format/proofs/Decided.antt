-- Every text has an answer: each line of it is one that a certificate may have or not, and may come next or not.
use Rattle.std.proofs.Common.{◌≡◌, ◌≢◌, ℕ, suc, ◌^◌, ◌<◌, ◌≤◌, true, false, ◌⊎◌, inl, inr, ℤ, pos, negsuc, List, [], ◌∷◌, ◌++◌, length, Option, Some, None, Result, Ok, Err, refl, sym, ap, ◌∙◌, subst, arith}
use Rattle.std.specs.Prelude.{unsigned_abs}
use Rattle.std.specs.Str.{bytes_eq}
use Rattle.std.proofs.lemmas.Bool.{cases_lt, cases_eq, false≢true}
use Rattle.std.proofs.lemmas.Int.{ints}
use Rattle.std.proofs.lemmas.Slice.Eq.{bytes_eq-Decides}
use Rattle.screen_model.specs.declared.place.Place.{Place}
use Rattle.screen_model.specs.declared.bound.BoundName.{BoundName}
use Rattle.cert_format.specs.declared.cert.Cert.{Cert}
use Rattle.cert_format.specs.declared.fault.CertRead.{CertRead}
use Rattle.cert_format.specs.declared.fault.CertRead.TheVariants.{Syntax}
use Rattle.cert_format.specs.declared.draft.Draft.{Draft}
use Rattle.cert_format.specs.declared.draft.Draft.TheVariants.{Empty}
use Rattle.screen_model.specs.declared.limits.TheConstants.{MOST_COLUMNS, MOST_ROWS}
use Rattle.cert_format.specs.declared.limits.TheConstants.{MOST_RULE}
use Rattle.cert_format.specs.declared.line.Line.{Line}
use Rattle.cert_format.specs.declared.line.Line.TheVariants.{Header, ClaimRepair, ClaimNone, Total, Paid, Set, Flow, Step, End}
use Rattle.cert_format.specs.Words.{line_feed, text_of_lines}
use Rattle.cert_format.specs.Line.{IsPlace, IsName, IsValue, IsAmount, IsTotal, IsLine, text_of_line}
use Rattle.cert_format.specs.Reads.{IsRefusedAfter, Reads}
use Rattle.cert_format.specs.Fields.{Lacks}
use Rattle.cert_format.specs.Draft.{next, whole}
use Rattle.cert_format.proofs.Texts.{AreLines, led}
use Rattle.cert_format.proofs.Lines.{line_at, line_at-text, one_line}
use Rattle.cert_format.proofs.Drafts.{so_far}
use Rattle.cert_format.proofs.Refusals.{IsReadTo, nothing_read, read_on, accepted_text, refused_without_feed, refused_line}

-- ---- within limits or not

abbrev Or : Type 0 → Type 0
Or P = P ⊎ (P → ⊥)

both : {P Q : Type 0} → Or P → Or Q → Or (P × Q)
both (inl p) (inl q) = inl (p, q)
both (inl p) (inr never) = inr (λ h. never h.1)
both (inr never) other = inr (λ h. never h.0)

same : {P Q : Type 0} → (P → Q) → (Q → P) → Or P → Or Q
same to from (inl p) = inl (to p)
same to from (inr never) = inr (λ q. never (from q))

at_most : (m n : ℕ) → Or (m ≤ n)
at_most m n = elim (cases_lt n m) as (λ _. Or (m ≤ n)) [ inl lt ↦ inr (λ h. omega arith) | inr le ↦ inl le ]

below : (m n : ℕ) → Or (m < n)
below m n = elim (cases_lt m n) as (λ _. Or (m < n)) [ inl lt ↦ inl lt | inr le ↦ inr (λ h. omega arith) ]

place_or : (place : Place) → Or (IsPlace place)
place_or place =
    same
    (λ h. record { row_least = h.0; row_most = h.1.0; col_least = h.1.1.0; col_most = h.1.1.1 })
    (λ is. (is.row_least, (is.row_most, (is.col_least, is.col_most))))
    (both (at_most 1 place.row) (both (at_most place.row MOST_ROWS) (both (at_most 1 place.col) (at_most place.col MOST_COLUMNS))))

name_or : (name : BoundName) → Or (IsName name)
name_or name =
    same
    (λ h. record { rule = h.0; from_least = h.1.0; from_most = h.1.1.0; to_least = h.1.1.1.0; to_most = h.1.1.1.1.0; col_least = h.1.1.1.1.1.0; col_most = h.1.1.1.1.1.1 })
    (λ is. (is.rule, (is.from_least, (is.from_most, (is.to_least, (is.to_most, (is.col_least, is.col_most)))))))
    (
    both (at_most name.rule MOST_RULE) (
    both (at_most 1 name.from_row) (
    both (at_most name.from_row MOST_ROWS) (both (at_most 1 name.to_row) (both (at_most name.to_row MOST_ROWS) (both (at_most 1 name.col) (at_most name.col MOST_COLUMNS))))
    )
    )
    )

value_or : (value : ℤ) → Or (IsValue value)
value_or value = below (unsigned_abs value) (10 ^ 18)

total_or : (total : ℤ) → Or (IsTotal total)
total_or (pos n) = same (λ h. (omega (arith, ints), h)) (λ is. is.1) (below n (10 ^ 30))
total_or (negsuc n) = inr (λ is. omega (arith, ints, is.0))

amount_or : (amount : ℤ) → Or (IsAmount amount)
amount_or (pos n) = same (λ h. (omega (arith, ints, h.0), omega (arith, ints, h.1))) (λ is. (omega (arith, ints, is.0), omega (arith, ints, is.1))) (both (at_most 1 n) (at_most n 1000000000000000))
amount_or (negsuc n) = inr (λ is. omega (arith, ints, is.0))

line_or : (line : Line) → Or (IsLine line)
line_or (Header version) = inl tt
line_or ClaimRepair = inl tt
line_or ClaimNone = inl tt
line_or (Total total) = total_or total
line_or (Paid paid) = total_or paid
line_or (Set line) = both (place_or line.place) (value_or line.value)
line_or (Flow item) = both (name_or item.name) (amount_or item.amount)
line_or (Step name) = name_or name
line_or End = inl tt

-- ---- the text of a line or not

record IsLineText (text : List ℕ) : Type 0 where
  pub line : Line
  pub is : IsLine line
  pub text_is : text_of_line line ≡ text

abbrev IsNoLine : List ℕ → Type 0
IsNoLine text = (line : Line) → IsLine line → text_of_line line ≡ text → ⊥

only_line : (text : List ℕ) (line : Line) → IsLine line → text_of_line line ≡ text → line_at text ≡ line
only_line text line is e = ap line_at (sym e) ∙ line_at-text line is

found_line : (text : List ℕ) → Or (IsLine (line_at text)) → Or (text_of_line (line_at text) ≡ text) → IsLineText text ⊎ IsNoLine text
found_line text (inl is) (inl e) = inl (record { line = line_at text; is = is; text_is = e })
found_line text (inl is) (inr never) = inr (λ line is_line e. never (ap text_of_line (only_line text line is_line e) ∙ e))
found_line text (inr never) other = inr (λ line is_line e. never (subst IsLine (sym (only_line text line is_line e)) is_line))

text_or : (one other : List ℕ) → Or (one ≡ other)
text_or one other =
    elim (bytes_eq one other) as (λ test. (test ≡ true → one ≡ other) × (one ≡ other → test ≡ true) → Or (one ≡ other)) [
      | true ↦ λ decides. inl (decides.0 refl)
      | false ↦ λ decides. inr (λ e. false≢true (decides.1 e))
    ] (bytes_eq-Decides one other)

line_text : (text : List ℕ) → IsLineText text ⊎ IsNoLine text
line_text text = found_line text (line_or (line_at text)) (text_or (text_of_line (line_at text)) text)

-- ---- the lines of some bytes

record HasLines (bytes : List ℕ) : Type 0 where
  pub lines : List (List ℕ)
  pub rest : List ℕ
  pub are : AreLines lines
  pub lacks : Lacks line_feed rest
  pub text : bytes ≡ text_of_lines lines ++ rest

with_first : (byte : ℕ) (bytes : List ℕ) (lines : List (List ℕ)) (rest : List ℕ) → byte ≢ line_feed → AreLines lines → Lacks line_feed rest → bytes ≡ text_of_lines lines ++ rest → HasLines (byte ∷ bytes)
with_first byte bytes [] rest other are lacks e = record { lines = []; rest = byte ∷ rest; are = tt; lacks = (other, lacks); text = ap (λ s. byte ∷ s) e }
with_first byte bytes (line ∷ lines) rest other are lacks e = record { lines = (byte ∷ line) ∷ lines; rest = rest; are = ((other, are.0), are.1); lacks = lacks; text = ap (λ s. byte ∷ s) e }

with_feed : (byte : ℕ) (bytes : List ℕ) → byte ≡ line_feed → HasLines bytes → HasLines (byte ∷ bytes)
with_feed byte bytes e has = record { lines = [] ∷ has.lines; rest = has.rest; are = (tt, has.are); lacks = has.lacks; text = ap (λ b. b ∷ bytes) e ∙ ap (λ s. line_feed ∷ s) has.text }

has_lines : (bytes : List ℕ) → HasLines bytes
has_lines [] = record { lines = []; rest = []; are = tt; lacks = tt; text = refl }
has_lines (byte ∷ bytes) =
    let has = has_lines bytes in
    elim (cases_eq byte line_feed) as (λ _. HasLines (byte ∷ bytes)) [
      | inl e ↦ with_feed byte bytes e has
      | inr other ↦ with_first byte bytes has.lines has.rest other has.are has.lacks has.text
    ]

-- ---- the answer

pub record HasAnswer (bytes : List ℕ) : Type 0 where
  pub answer : Result Cert CertRead
  pub reads : Reads bytes answer

refused : (n : ℕ) (bytes : List ℕ) → IsRefusedAfter n bytes → HasAnswer bytes
refused n bytes is = record { answer = Err (Syntax (suc n)); reads = is }

at_end : (bytes : List ℕ) (draft : Draft) (found : Option Cert) → whole draft ≡ found → IsReadTo bytes draft [] → HasAnswer bytes
at_end bytes draft (Some cert) e read = record { answer = Ok cert; reads = accepted_text bytes draft cert read e }
at_end bytes draft None e read = refused (length (so_far draft)) bytes (refused_without_feed bytes draft [] read tt (inl e))

without_feed : (bytes : List ℕ) (draft : Draft) (rest : List ℕ) → Lacks line_feed rest → IsReadTo bytes draft rest → HasAnswer bytes
without_feed bytes draft [] lacks read = at_end bytes draft (whole draft) refl read
without_feed bytes draft (byte ∷ rest) lacks read = refused (length (so_far draft)) bytes (refused_without_feed bytes draft (byte ∷ rest) read lacks (inr (λ e. cc)))

with_line : (bytes : List ℕ) (draft : Draft) (text after : List ℕ) (line : Line) (found : Option Draft) → next draft line ≡ found → IsLine line → text_of_line line ≡ text → Lacks line_feed text
    → ((later : Draft) → IsReadTo bytes later after → HasAnswer bytes) → IsReadTo bytes draft (text ++ line_feed ∷ after) → HasAnswer bytes
with_line bytes draft text after line None e is text_is lacks answers read =
    refused (length (so_far draft)) bytes (
    refused_line bytes draft text after read lacks (λ other is_other other_text. subst (λ l. next draft l ≡ None) (one_line line other is is_other (text_is ∙ sym other_text)) e)
    )
with_line bytes draft text after line (Some later) e is text_is lacks answers read =
    answers later (read_on bytes draft (text ++ line_feed ∷ after) line after later read is (ap (λ s. s ++ line_feed ∷ after) (sym text_is)) e).read

by_line : (bytes : List ℕ) (draft : Draft) (text after : List ℕ) → IsLineText text ⊎ IsNoLine text → Lacks line_feed text
    → ((later : Draft) → IsReadTo bytes later after → HasAnswer bytes) → IsReadTo bytes draft (text ++ line_feed ∷ after) → HasAnswer bytes
by_line bytes draft text after (inl found) lacks answers read = with_line bytes draft text after found.line (next draft found.line) refl found.is found.text_is lacks answers read
by_line bytes draft text after (inr none) lacks answers read =
    refused (length (so_far draft)) bytes (refused_line bytes draft text after read lacks (λ line is e. absurd (none line is e)))

answer_from : (lines : List (List ℕ)) (rest bytes : List ℕ) (draft : Draft) → AreLines lines → Lacks line_feed rest → IsReadTo bytes draft (text_of_lines lines ++ rest) → HasAnswer bytes
answer_from [] rest bytes draft are lacks read = without_feed bytes draft rest lacks read
answer_from (text ∷ lines) rest bytes draft are lacks read =
    by_line bytes draft text (text_of_lines lines ++ rest) (line_text text) are.0 (λ later read_later. answer_from lines rest bytes later are.1 lacks read_later) (subst (IsReadTo bytes draft) (led text lines rest) read)

pub has_answer : (bytes : List ℕ) → HasAnswer bytes
has_answer bytes =
    let has = has_lines bytes in
    answer_from has.lines has.rest bytes Empty has.are has.lacks (subst (IsReadTo bytes Empty) has.text (nothing_read bytes))

pub an_answer : (bytes : List ℕ) → (answer : Result Cert CertRead) × Reads bytes answer
an_answer bytes = let has = has_answer bytes in (has.answer, has.reads)
