-- What has been read of some bytes, and what follows from the next line of theirs.
use Rattle.std.proofs.Common.{◌≡◌, ◌≢◌, ℕ, suc, ◌+◌, ◌≤◌, ◌⊎◌, inl, inr, List, [], ◌∷◌, ◌++◌, map, length, length-append, append_assoc, append-nil, Option, Some, None, IsSomeAnd, Err, refl, sym, ap, ◌∙◌, subst, arith}
use Rattle.std.specs.List.{AllByRecursion}
use Rattle.std.specs.Option.{ok_or}
use Rattle.std.proofs.lemmas.List.{map-append, length-map}
use Rattle.words.proofs.Lists.{all_map, all_of_append, all_weaker}
use Rattle.cert_format.specs.declared.cert.Cert.{Cert}
use Rattle.cert_format.specs.declared.fault.CertRead.TheVariants.{Syntax}
use Rattle.cert_format.specs.declared.draft.Draft.{Draft}
use Rattle.cert_format.specs.declared.draft.Draft.TheVariants.{Empty, Headed, Claimed, Totalled, Listed, Ended}
use Rattle.cert_format.specs.declared.line.Line.{Line}
use Rattle.cert_format.specs.Words.{line_feed, text_of_lines, first_lines}
use Rattle.cert_format.specs.Line.{IsLine, text_of_line}
use Rattle.cert_format.specs.Cert.{HasText, lines_of_cert, text_of_cert}
use Rattle.cert_format.specs.Reads.{IsTextOf, BeginsText, BeginsWell, IsRefusedAfter, Reads}
use Rattle.cert_format.specs.Fields.{Lacks, IsLineThen, HasNoLine, no_feed, no_line}
use Rattle.cert_format.specs.Draft.{next, whole}
use Rattle.cert_format.proofs.Texts.{AreLines, split_one, not_among, text-append, lines_go_on, length-text, first_lines-text, first_lines-one_more, first_lines-too_many}
use Rattle.cert_format.proofs.Lines.{lacks_feed, one_line}
use Rattle.cert_format.proofs.Drafts.{so_far, IsDraft, goes_on, may_come, not_all, can_end, cert_within, draft_within}

-- ---- texts of lines

abbrev pub text_of : List Line → List ℕ
text_of lines = text_of_lines (map text_of_line lines)

pub are_lines : (lines : List Line) → AllByRecursion IsLine lines → AreLines (map text_of_line lines)
are_lines lines are = all_map (Lacks line_feed) text_of_line lines (all_weaker IsLine (λ line. Lacks line_feed (text_of_line line)) lacks_feed lines are)

pub text_of-append : (lines more : List Line) → text_of (lines ++ more) ≡ text_of lines ++ text_of more
text_of-append lines more = ap text_of_lines (map-append text_of_line lines more) ∙ text-append (map text_of_line lines) (map text_of_line more)

-- the lines begin with some, and these are the texts of the others
record AreOthers (lines some : List Line) (more : List (List ℕ)) : Type 0 where
  pub others : List Line
  pub joined : lines ≡ some ++ others
  pub texts : map text_of_line others ≡ more

others_of : (lines some : List Line) (more : List (List ℕ)) → AllByRecursion IsLine lines → AllByRecursion IsLine some → map text_of_line lines ≡ map text_of_line some ++ more → AreOthers lines some more
others_of lines [] more are are_some e = record { others = lines; joined = refl; texts = e }
others_of [] (other ∷ some) more are are_some e = absurd (cc)
others_of (line ∷ lines) (other ∷ some) more are are_some e =
    let here : text_of_line line ≡ text_of_line other = cc in
    let same = one_line line other are.0 are_some.0 here in
    let inner = others_of lines some more are.1 are_some.1 (cc) in
    record { others = inner.others; joined = cc (same, inner.joined); texts = inner.texts }

-- the lines begin with some, and the others have the rest as their text
pub record HasRest (lines some : List Line) (rest : List ℕ) : Type 0 where
  pub others : List Line
  pub joined : lines ≡ some ++ others
  pub text : text_of others ≡ rest

pub rest_of : (lines some : List Line) (rest : List ℕ) → AllByRecursion IsLine lines → AllByRecursion IsLine some → text_of lines ≡ text_of some ++ rest → HasRest lines some rest
rest_of lines some rest are are_some e =
    let on = lines_go_on (map text_of_line lines) (map text_of_line some) rest (are_lines lines are) (are_lines some are_some) e in
    let found = others_of lines some on.more are are_some on.joined in
    record { others = found.others; joined = found.joined; text = ap text_of_lines found.texts ∙ on.text }

-- ---- what has been read

-- The draft's lines are the first of the bytes, and the rest follows them.
pub record IsReadTo (bytes : List ℕ) (draft : Draft) (rest : List ℕ) : Type 0 where
  pub is : IsDraft draft
  pub text : bytes ≡ text_of (so_far draft) ++ rest

pub nothing_read : (bytes : List ℕ) → IsReadTo bytes Empty bytes
nothing_read bytes = record { is = tt; text = refl }

pub record IsReadOn (bytes : List ℕ) (draft later : Draft) (rest : List ℕ) : Type 0 where
  pub read : IsReadTo bytes later rest
  pub count : length (so_far later) ≡ length (so_far draft) + 1

one_text : (line : Line) (after : List ℕ) → text_of (line ∷ []) ++ after ≡ text_of_line line ++ line_feed ∷ after
one_text line after = append_assoc (text_of_line line) (line_feed ∷ []) after

pub read_on : (bytes : List ℕ) (draft : Draft) (rest : List ℕ) (line : Line) (after : List ℕ) (later : Draft) → IsReadTo bytes draft rest → IsLine line
    → rest ≡ text_of_line line ++ line_feed ∷ after → next draft line ≡ Some later → IsReadOn bytes draft later after
read_on bytes draft rest line after later read is_line e is_next =
    let on = goes_on draft line later read.is is_line is_next in
    let both : text_of (so_far draft) ++ text_of (line ∷ []) ≡ text_of (so_far later) = sym (ap text_of on.lines ∙ text_of-append (so_far draft) (line ∷ [])) in
    record {
      read = record {
        is = on.is;
        text = read.text
            ∙ ap (λ s. text_of (so_far draft) ++ s) (e ∙ sym (one_text line after))
            ∙ sym (append_assoc (text_of (so_far draft)) (text_of (line ∷ [])) after)
            ∙ ap (λ s. s ++ after) both;
      };
      count = ap length on.lines ∙ length-append (so_far draft) (line ∷ []);
    }

-- no more lines than bytes
pub few_lines : (bytes : List ℕ) (draft : Draft) (rest : List ℕ) → IsReadTo bytes draft rest → length (so_far draft) + length rest ≤ length bytes
few_lines bytes draft rest read =
    let whole_length : length bytes ≡ length (text_of (so_far draft)) + length rest = ap length read.text ∙ length-append (text_of (so_far draft)) rest in
    omega (arith, length-text (map text_of_line (so_far draft)), length-map (so_far draft) text_of_line)

pub accepted_text : (bytes : List ℕ) (draft : Draft) (cert : Cert) → IsReadTo bytes draft [] → whole draft ≡ Some cert → IsTextOf bytes cert
accepted_text bytes (Ended found) cert read e = let same : found ≡ cert = cc in subst (IsTextOf bytes) same (record { has = read.is; text = read.text ∙ append-nil (text_of_cert found) })
accepted_text bytes Empty cert read e = absurd (cc)
accepted_text bytes (Headed version) cert read e = absurd (cc)
accepted_text bytes (Claimed version) cert read e = absurd (cc)
accepted_text bytes (Totalled total) cert read e = absurd (cc)
accepted_text bytes (Listed found) cert read e = absurd (cc)

-- ---- the lines before the refused one

begins_so : (draft : Draft) → IsDraft draft → BeginsText (text_of (so_far draft))
begins_so draft is =
    let can = can_end draft is in
    (can.cert, can.has, text_of can.more, ap text_of can.lines ∙ text_of-append (so_far draft) can.more)

count_is : (draft : Draft) → length (map text_of_line (so_far draft)) ≡ length (so_far draft)
count_is draft = length-map (so_far draft) text_of_line

before_is : (bytes : List ℕ) (draft : Draft) (rest : List ℕ) → IsReadTo bytes draft rest → BeginsWell (length (so_far draft)) bytes
before_is bytes draft rest read =
    let found : first_lines (length (so_far draft)) bytes ≡ Some (text_of (so_far draft)) =
    ap (first_lines (length (so_far draft))) read.text
    ∙ ap (λ n. first_lines n (text_of (so_far draft) ++ rest)) (sym (count_is draft))
    ∙ first_lines-text (map text_of_line (so_far draft)) rest (are_lines (so_far draft) (draft_within draft read.is))
    in
    subst (λ front. IsSomeAnd front BeginsText) (sym found) (begins_so draft read.is)

-- a certificate that begins so goes on with the draft's rest
cert_rest : (bytes : List ℕ) (draft : Draft) (rest : List ℕ) (cert : Cert) → IsReadTo bytes draft rest → HasText cert → text_of_cert cert ≡ text_of (so_far draft) ++ rest → HasRest (lines_of_cert cert) (so_far draft) rest
cert_rest bytes draft rest cert read has e = rest_of (lines_of_cert cert) (so_far draft) rest (cert_within cert has) (draft_within draft read.is) e

-- ---- no line feed follows

no_text_without_feed : (draft : Draft) (rest : List ℕ) (cert : Cert) (others : List Line) → IsDraft draft → Lacks line_feed rest → (whole draft ≡ None) ⊎ (rest ≢ [])
    → lines_of_cert cert ≡ so_far draft ++ others → text_of others ≡ rest → ⊥
no_text_without_feed draft rest cert (line ∷ others) is lacks unfinished joined e =
    not_among line_feed rest (text_of_line line) (text_of others) lacks (sym e)
no_text_without_feed draft rest cert [] is lacks (inl part) joined e = not_all draft cert is part (joined ∙ append-nil (so_far draft))
no_text_without_feed draft rest cert [] is lacks (inr some) joined e = some (sym e)

pub refused_without_feed : (bytes : List ℕ) (draft : Draft) (rest : List ℕ) → IsReadTo bytes draft rest → Lacks line_feed rest → (whole draft ≡ None) ⊎ (rest ≢ []) → IsRefusedAfter (length (so_far draft)) bytes
refused_without_feed bytes draft rest read lacks unfinished =
    let none : first_lines (suc (length (so_far draft))) bytes ≡ None =
    ap (first_lines (suc (length (so_far draft)))) read.text
    ∙ ap (λ n. first_lines (suc n) (text_of (so_far draft) ++ rest)) (sym (count_is draft))
    ∙ first_lines-too_many (map text_of_line (so_far draft)) rest (are_lines (so_far draft) (draft_within draft read.is)) lacks
    in
    record {
      no_text = λ cert text.
          let found = cert_rest bytes draft rest cert read text.has (sym text.text ∙ read.text) in
          no_text_without_feed draft rest cert found.others read.is lacks unfinished found.joined found.text;
      before = before_is bytes draft rest read;
      here = λ begins. subst (λ front. IsSomeAnd front BeginsText) none begins;
    }

-- ---- a line follows that may not come next

-- no line that has this text may come next
abbrev pub MayNotCome : Draft → List ℕ → Type 0
MayNotCome draft text = (line : Line) → IsLine line → text_of_line line ≡ text → next draft line ≡ None

not_next : (draft : Draft) (cert : Cert) (others : List Line) (text after : List ℕ) → HasText cert → AllByRecursion IsLine others → Lacks line_feed text → MayNotCome draft text
    → lines_of_cert cert ≡ so_far draft ++ others → text_of others ≡ text ++ line_feed ∷ after → ⊥
not_next draft cert [] text after has are lacks may_not joined e = not_among line_feed [] text after tt e
not_next draft cert (line ∷ others) text after has are lacks may_not joined e =
    let same = split_one line_feed (text_of_line line) text (text_of others) after (lacks_feed line are.0) lacks e in
    let come = may_come draft line cert others has joined in
    let none : next draft line ≡ None = may_not line are.0 same.before in
    let some : next draft line ≡ Some come.later = come.is in
    cc

front_not : (draft : Draft) (text : List ℕ) → IsDraft draft → Lacks line_feed text → MayNotCome draft text → BeginsText (text_of (so_far draft) ++ (text ++ line_feed ∷ [])) → ⊥
front_not draft text is lacks may_not begins =
    let (cert, has, more, e) = begins in
    let joined : text_of_cert cert ≡ text_of (so_far draft) ++ (text ++ line_feed ∷ more) =
    e ∙ append_assoc (text_of (so_far draft)) (text ++ line_feed ∷ []) more ∙ ap (λ s. text_of (so_far draft) ++ s) (append_assoc text (line_feed ∷ []) more)
    in
    let within = cert_within cert has in
    let found = rest_of (lines_of_cert cert) (so_far draft) (text ++ line_feed ∷ more) within (draft_within draft is) joined in
    let are = all_of_append IsLine (so_far draft) found.others (subst (AllByRecursion IsLine) found.joined within) in
    not_next draft cert found.others text more has are.1 lacks may_not found.joined found.text

pub refused_line : (bytes : List ℕ) (draft : Draft) (text after : List ℕ) → IsReadTo bytes draft (text ++ line_feed ∷ after) → Lacks line_feed text → MayNotCome draft text → IsRefusedAfter (length (so_far draft)) bytes
refused_line bytes draft text after read lacks may_not =
    let front = text_of (so_far draft) ++ (text ++ line_feed ∷ []) in
    let found : first_lines (suc (length (so_far draft))) bytes ≡ Some front =
    ap (first_lines (suc (length (so_far draft)))) read.text
    ∙ ap (λ n. first_lines (suc n) (text_of (so_far draft) ++ (text ++ line_feed ∷ after))) (sym (count_is draft))
    ∙ first_lines-one_more (map text_of_line (so_far draft)) text after (are_lines (so_far draft) (draft_within draft read.is)) lacks
    in
    let parts : bytes ≡ front ++ after =
    read.text ∙ ap (λ s. text_of (so_far draft) ++ s) (sym (append_assoc text (line_feed ∷ []) after)) ∙ sym (append_assoc (text_of (so_far draft)) (text ++ line_feed ∷ []) after)
    in
    record {
      no_text = λ cert text_is. front_not draft text read.is lacks may_not (cert, text_is.has, after, sym text_is.text ∙ parts);
      before = before_is bytes draft (text ++ line_feed ∷ after) read;
      here = λ begins. front_not draft text read.is lacks may_not (subst (λ s. IsSomeAnd s BeginsText) found begins);
    }

-- ---- by what the reader finds

pub refused_next : (bytes : List ℕ) (draft : Draft) (rest : List ℕ) (line : Line) (after : List ℕ) → IsReadTo bytes draft rest → IsLineThen rest line after → next draft line ≡ None → IsRefusedAfter (length (so_far draft)) bytes
refused_next bytes draft rest line after read found none =
    let here : IsReadTo bytes draft (text_of_line line ++ line_feed ∷ after) = subst (IsReadTo bytes draft) found.text read in
    refused_line bytes draft (text_of_line line) after here (lacks_feed line found.is) (λ other is e. subst (λ l. next draft l ≡ None) (one_line line other found.is is (sym e)) none)

pub refused_at : (bytes : List ℕ) (draft : Draft) (rest : List ℕ) → IsReadTo bytes draft rest → HasNoLine rest → (whole draft ≡ None) ⊎ (rest ≢ []) → IsRefusedAfter (length (so_far draft)) bytes
refused_at bytes draft rest read (no_feed lacks) unfinished = refused_without_feed bytes draft rest read lacks unfinished
refused_at bytes draft rest read (no_line text after e lacks never) unfinished =
    refused_line bytes draft text after (subst (IsReadTo bytes draft) e read) lacks (λ line is text_is. absurd (never line is (sym text_is)))

pub refuses : (bytes : List ℕ) (n number : ℕ) → number ≡ n + 1 → IsRefusedAfter n bytes → Reads bytes (Err (Syntax number))
refuses bytes n number e is =
    let next_number : suc n ≡ number = omega arith in
    subst (λ k. Reads bytes (Err (Syntax k))) next_number is

-- the end of the bytes after some lines
pub reads_end : (bytes : List ℕ) (draft : Draft) (rest : List ℕ) (number : ℕ) (found : Option Cert) → IsReadTo bytes draft rest → HasNoLine rest → number ≡ length (so_far draft) + 1 → rest ≡ []
    → found ≡ whole draft → Reads bytes (ok_or found (Syntax number))
reads_end bytes draft rest number None read none e at_end is = refuses bytes (length (so_far draft)) number e (refused_at bytes draft rest read none (inl (sym is)))
reads_end bytes draft rest number (Some cert) read none e at_end is = accepted_text bytes draft cert (subst (IsReadTo bytes draft) at_end read) (sym is)
