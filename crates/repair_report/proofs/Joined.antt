-- Texts that are added one after the other.
use Rattle.std.proofs.Common.{◌≡◌, ℕ, ◌≤◌, ℤ, cond, List, [], ◌∷◌, ◌++◌, append_assoc, drop, length, map, Result, Ok, Err, OnOk, sym, ap, ◌∙◌}
use Rattle.std.specs.Prelude.{◌==◌, codes}
use Rattle.std.proofs.lemmas.List.{append-nil, drop_all}
use Rattle.cert_format.specs.Words.{line_feed, line_of_words, space, text_of_lines}
use Rattle.cert_format.proofs.Texts.{text-append}
use Rattle.repair_report.specs.Lines.{value_line}

regrouped : (before word one row col from to end : List ℕ)
    → ((((before ++ word) ++ (one ++ (row ++ (one ++ col)))) ++ (one ++ from)) ++ (one ++ to)) ++ end
    ≡ before ++ ((word ++ (one ++ (row ++ (one ++ (col ++ (one ++ (from ++ (one ++ to)))))))) ++ end)
regrouped before word one row col from to end = simp append_assoc

pub words_joined : (before word row col from to t1 t2 t3 t4 t5 : List ℕ)
    → t1 ≡ before ++ word → t2 ≡ t1 ++ (space ∷ row ++ space ∷ col) → t3 ≡ t2 ++ space ∷ from → t4 ≡ t3 ++ space ∷ to → t5 ≡ t4 ++ line_feed ∷ []
    → t5 ≡ before ++ (line_of_words (word ∷ row ∷ col ∷ from ∷ to ∷ []) ++ line_feed ∷ [])
words_joined before word row col from to t1 t2 t3 t4 t5 e1 e2 e3 e4 e5 =
    e5
    ∙ ap (λ t. t ++ line_feed ∷ []) e4
    ∙ ap (λ t. (t ++ space ∷ to) ++ line_feed ∷ []) e3
    ∙ ap (λ t. ((t ++ space ∷ from) ++ space ∷ to) ++ line_feed ∷ []) e2
    ∙ ap (λ t. (((t ++ (space ∷ row ++ space ∷ col)) ++ space ∷ from) ++ space ∷ to) ++ line_feed ∷ []) e1
    ∙ regrouped before word (space ∷ []) row col from to (line_feed ∷ [])

-- ---- lines

-- a line and its line feed, and then the text that follows
pub line_joined : (before middle line : List ℕ) (lines : List (List ℕ)) → middle ≡ before ++ (line ++ line_feed ∷ []) → middle ++ text_of_lines lines ≡ before ++ text_of_lines (line ∷ lines)
line_joined before middle line lines e =
    ap (λ t. t ++ text_of_lines lines) e
    ∙ append_assoc before (line ++ line_feed ∷ []) (text_of_lines lines)
    ∙ ap (λ t. before ++ t) (append_assoc line (line_feed ∷ []) (text_of_lines lines))

-- the lines of one list, and then those of another
pub lines_joined : (before middle after : List ℕ) (lines more : List (List ℕ)) → middle ≡ before ++ text_of_lines lines → after ≡ middle ++ text_of_lines more → after ≡ before ++ text_of_lines (lines ++ more)
lines_joined before middle after lines more first second =
    second ∙ ap (λ t. t ++ text_of_lines more) first ∙ append_assoc before (text_of_lines lines) (text_of_lines more) ∙ ap (λ t. before ++ t) (sym (text-append lines more))

pub on_ok : {A E P Q : Type 0} (result : Result A E) → (P → Q) → OnOk result P → OnOk result Q
on_ok (Ok x) to p = to p
on_ok (Err e) to p = tt

-- the lines of the elements that are left, where none is
pub mapped_done : {A : Type 0} (line : A → List ℕ) (t all : List ℕ) (xs : List A) (i : ℕ) → length xs ≤ i → t ++ text_of_lines (map line (drop i xs)) ≡ all → t ≡ all
mapped_done line t all xs i h left = sym (append-nil t) ∙ (ap (λ ys. t ++ text_of_lines (map line ys)) (sym (drop_all i xs h)) ∙ left)

-- the lines of the bounds that are left, of which one is written
pub line_next : {A : Type 0} (line : A → List ℕ) (t new all : List ℕ) (x : A) (here rest : List A) → here ≡ x ∷ rest
    → t ++ text_of_lines (map line here) ≡ all → new ≡ t ++ (line x ++ line_feed ∷ []) → new ++ text_of_lines (map line rest) ≡ all
line_next line t new all x here rest is before pushed =
    line_joined t new (line x) (map line rest) pushed ∙ (ap (λ ys. t ++ text_of_lines (map line ys)) (sym is) ∙ before)

-- a first line, lines, and a last one
pub framed : (before t1 t2 t3 first last : List ℕ) (lines : List (List ℕ)) → t1 ≡ before ++ (first ++ line_feed ∷ []) → t2 ≡ t1 ++ text_of_lines lines → t3 ≡ t2 ++ (last ++ line_feed ∷ [])
    → t3 ≡ before ++ text_of_lines (first ∷ lines ++ last ∷ [])
framed before t1 t2 t3 first last lines e1 e2 e3 =
    lines_joined before t1 t3 (first ∷ []) (lines ++ last ∷ []) e1 (lines_joined t1 t2 t3 lines (last ∷ []) e2 e3)

-- the lines of a total, where it is told by the same numbers
pub totals_are : (d : ℕ) (a b total_part paid_part : ℤ) (ns numbers : List ℕ) → a ≡ total_part → b ≡ paid_part → ns ≡ numbers
    → (codes "claim repair" ∷ value_line (codes "total") d a ∷ cond (length ns == 0) [] (value_line (codes "paid") d b ∷ []))
    ≡ (codes "claim repair" ∷ value_line (codes "total") d total_part ∷ cond (length numbers == 0) [] (value_line (codes "paid") d paid_part ∷ []))
totals_are d a b total_part paid_part ns numbers e f g =
    λ i. codes "claim repair" ∷ value_line (codes "total") d (e i) ∷ cond (length (g i) == 0) [] (value_line (codes "paid") d (f i) ∷ [])
