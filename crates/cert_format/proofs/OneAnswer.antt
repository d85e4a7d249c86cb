-- A text has one answer only.
use Rattle.std.proofs.Common.{◌≡◌, ℕ, zero, suc, ◌<◌, ◌≤◌, inl, inr, List, [], ◌∷◌, ◌++◌, append_assoc, append-nil, Option, Some, None, IsSomeAnd, Result, Ok, Err, refl, sym, ap, ◌∙◌, subst, arith}
use Rattle.std.proofs.lemmas.Bool.{cases_order}
use Rattle.cert_format.specs.declared.cert.Cert.{Cert}
use Rattle.cert_format.specs.declared.fault.CertRead.{CertRead}
use Rattle.cert_format.specs.declared.fault.CertRead.TheVariants.{Syntax, Memory}
use Rattle.cert_format.specs.declared.line.Line.{Line}
use Rattle.cert_format.specs.Words.{line_feed, first_lines}
use Rattle.cert_format.specs.Line.{text_of_line}
use Rattle.cert_format.specs.Cert.{lines_of_cert, text_of_cert}
use Rattle.cert_format.specs.Reads.{IsTextOf, BeginsText, BeginsWell, IsRefusedAfter, Reads}
use Rattle.cert_format.proofs.Texts.{not_among, IsFront, fewer_lines}
use Rattle.cert_format.proofs.Drafts.{one_cert, cert_within}
use Rattle.cert_format.proofs.Refusals.{text_of, rest_of}

-- ---- one certificate

no_lines_left : (others : List Line) → text_of others ≡ [] → others ≡ []
no_lines_left [] e = refl
no_lines_left (line ∷ others) e = absurd (not_among line_feed [] (text_of_line line) (text_of others) tt (sym e))

pub cert_of_text : (bytes : List ℕ) (one other : Cert) → IsTextOf bytes one → IsTextOf bytes other → one ≡ other
cert_of_text bytes one other text other_text =
    let same : text_of_cert one ≡ text_of_cert other ++ [] = sym text.text ∙ other_text.text ∙ sym (append-nil (text_of_cert other)) in
    let left = rest_of (lines_of_cert one) (lines_of_cert other) [] (cert_within one text.has) (cert_within other other_text.has) same in
    one_cert one other text.has (left.joined ∙ ap (λ lines. lines_of_cert other ++ lines) (no_lines_left left.others left.text) ∙ append-nil (lines_of_cert other))

-- ---- one refused line

front_begins : (all part : Option (List ℕ)) → ((front : List ℕ) → all ≡ Some front → IsFront part front) → IsSomeAnd all BeginsText → IsSomeAnd part BeginsText
front_begins None part fronts begins = absurd begins
front_begins (Some front) part fronts begins =
    let found = fronts front refl in
    let (cert, has, more, e) = begins in
    let shorter : BeginsText found.front = (cert, has, found.rest ++ more, e ∙ ap (λ s. s ++ more) found.joined ∙ append_assoc found.front found.rest more) in
    subst (λ s. IsSomeAnd s BeginsText) (sym found.is) shorter

fewer_begin : (k n : ℕ) (bytes : List ℕ) → k ≤ n → BeginsWell n bytes → BeginsWell k bytes
fewer_begin k n bytes le begins = front_begins (first_lines n bytes) (first_lines k bytes) (λ front e. fewer_lines k n bytes front le e) begins

not_later : (m n : ℕ) (bytes : List ℕ) → IsRefusedAfter m bytes → IsRefusedAfter n bytes → m < n → ⊥
not_later m n bytes refused later lt = refused.here (fewer_begin (suc m) n bytes (omega arith) later.before)

one_refused : (m n : ℕ) (bytes : List ℕ) → IsRefusedAfter m bytes → IsRefusedAfter n bytes → m ≡ n
one_refused m n bytes refused other =
    elim (cases_order m n) as (λ _. m ≡ n) [
      | inl e ↦ e
      | inr apart ↦ elim apart as (λ _. m ≡ n) [ inl lt ↦ absurd (not_later m n bytes refused other lt) | inr gt ↦ absurd (not_later n m bytes other refused gt) ]
    ]

-- ---- one answer

pub answer_one : (bytes : List ℕ) (one other : Result Cert CertRead) → Reads bytes one → Reads bytes other → one ≡ other
answer_one bytes (Ok one) (Ok other) reads reads_other = ap Ok (cert_of_text bytes one other reads reads_other)
answer_one bytes (Ok one) (Err (Syntax zero)) reads reads_other = absurd reads_other
answer_one bytes (Ok one) (Err (Syntax (suc n))) reads reads_other = absurd (reads_other.no_text one reads)
answer_one bytes (Ok one) (Err Memory) reads reads_other = absurd reads_other
answer_one bytes (Err (Syntax zero)) other reads reads_other = absurd reads
answer_one bytes (Err (Syntax (suc m))) (Ok other) reads reads_other = absurd (reads.no_text other reads_other)
answer_one bytes (Err (Syntax (suc m))) (Err (Syntax zero)) reads reads_other = absurd reads_other
answer_one bytes (Err (Syntax (suc m))) (Err (Syntax (suc n))) reads reads_other = ap (λ k. Err (Syntax (suc k))) (one_refused m n bytes reads reads_other)
answer_one bytes (Err (Syntax (suc m))) (Err Memory) reads reads_other = absurd reads_other
answer_one bytes (Err Memory) other reads reads_other = absurd reads
