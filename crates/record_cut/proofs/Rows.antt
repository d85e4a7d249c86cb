-- The texts of rows, read off loops.
use Rattle.std.proofs.Common.{◌≡◌, ℕ, ◌+◌, ◌<◌, ◌≤◌, false, List, [], ◌∷◌, ◌++◌, length, get_or, take, drop, refl, sym, ap, ◌∙◌, arith, append_assoc, ne_eqb}
use Rattle.std.proofs.lemmas.List.{append-nil, take-append-drop, take_all, drop_more, drop_all, drop-drop}
use Rattle.record_cut.specs.Quotes.{holds_quote}
use Rattle.record_cut.specs.Row.{doubled_if_quote, doubled, text_of_first, text_of_next, text_of_others, text_of_row}
use Rattle.record_cut.proofs.Runs.{no_quote-first, others-no_quote}

pub doubled-cons : (byte : ℕ) (rest : List ℕ) → doubled (byte ∷ rest) ≡ doubled_if_quote byte ++ doubled rest
unfolding doubled
doubled-cons byte rest = refl

pub doubled-nil : doubled [] ≡ []
unfolding doubled
doubled-nil = refl

-- a run without a quote stands as it is
doubled-run : (run rest : List ℕ) → holds_quote run ≡ false → doubled (run ++ rest) ≡ run ++ doubled rest
doubled-run [] rest e = refl
doubled-run (byte ∷ run) rest e = doubled-cons byte (run ++ rest) ∙ rw (ne_eqb byte 34 (no_quote-first byte run e)) (ap (λ t. byte ∷ t) (doubled-run run rest (others-no_quote byte run e)))

-- the run before the quote at this place, and the quote twice
pub doubled-to_quote : (field : List ℕ) (run : ℕ) → run < length field → holds_quote (take run field) ≡ false → get_or field run 0 ≡ 34 → doubled field ≡ (take run field ++ 34 ∷ 34 ∷ []) ++ doubled (drop (run + 1) field)
doubled-to_quote field run h e q =
    let parts : field ≡ take run field ++ 34 ∷ drop (run + 1) field = sym (take-append-drop run field) ∙ ap (λ t. take run field ++ t) (drop_more field run 0 h ∙ ap (λ x. x ∷ drop (run + 1) field) q) in
    ap doubled parts ∙ doubled-run (take run field) (34 ∷ drop (run + 1) field) e ∙ ap (λ t. take run field ++ t) (doubled-cons 34 (drop (run + 1) field)) ∙ sym (append_assoc (take run field) (34 ∷ 34 ∷ []) (doubled (drop (run + 1) field)))

pub doubled-none : (field : List ℕ) (run : ℕ) → length field ≤ run → holds_quote (take run field) ≡ false → doubled field ≡ take run field
doubled-none field run h e =
    let all : take run field ≡ field = take_all run field h in
    let whole : doubled (take run field ++ []) ≡ take run field ++ doubled [] = doubled-run (take run field) [] e in
    ap doubled (sym all ∙ sym (append-nil (take run field))) ∙ whole ∙ ap (λ t. take run field ++ t) doubled-nil ∙ append-nil (take run field)

-- the run before a quote and the quote twice have been pushed, or a run up to the end
pub quote-pushed : (text one two field : List ℕ) (run n : ℕ) → n ≡ run → run < length field → holds_quote (take run field) ≡ false → get_or field run 0 ≡ 34 → one ≡ text ++ take n field → two ≡ one ++ 34 ∷ 34 ∷ [] → two ++ doubled (drop (run + 1) field) ≡ text ++ doubled field
quote-pushed text one two field run n same h e q f g =
    let both : two ≡ text ++ (take run field ++ 34 ∷ 34 ∷ []) = g ∙ ap (λ t. t ++ 34 ∷ 34 ∷ []) (f ∙ ap (λ i. text ++ take i field) same) ∙ append_assoc text (take run field) (34 ∷ 34 ∷ []) in
    ap (λ t. t ++ doubled (drop (run + 1) field)) both ∙ append_assoc text (take run field ++ 34 ∷ 34 ∷ []) (doubled (drop (run + 1) field)) ∙ ap (λ t. text ++ t) (sym (doubled-to_quote field run h e q))

pub run-pushed : (text now field : List ℕ) (run n : ℕ) → n ≡ run → length field ≤ run → holds_quote (take run field) ≡ false → now ≡ text ++ take n field → now ++ doubled (drop run field) ≡ text ++ doubled field
run-pushed text now field run n same h e f =
    let rest : doubled (drop run field) ≡ [] = ap doubled (drop_all run field h) ∙ doubled-nil in
    ap (λ t. now ++ t) rest ∙ append-nil now ∙ f ∙ ap (λ i. text ++ take i field) same ∙ ap (λ t. text ++ t) (sym (doubled-none field run h e))

pub doubled-pushed : (text now rest field all : List ℕ) (from count : ℕ) → rest ≡ drop from field → now ++ doubled (drop count rest) ≡ text ++ doubled rest → text ++ doubled (drop from field) ≡ all → now ++ doubled (drop (from + count) field) ≡ all
doubled-pushed text now rest field all from count e f g =
    let on : drop (from + count) field ≡ drop count rest = sym (drop-drop count from field) ∙ ap (drop count) (sym e) in
    ap (λ t. now ++ doubled t) on ∙ f ∙ ap (λ t. text ++ doubled t) e ∙ g

pub doubled-done : (now all field : List ℕ) (from : ℕ) → length field ≤ from → now ++ doubled (drop from field) ≡ all → now ≡ all
doubled-done now all field from h e = sym (append-nil now) ∙ ap (λ t. now ++ t) (sym (ap doubled (drop_all from field h) ∙ doubled-nil)) ∙ e

-- what was pushed so far, and what is left
pub pushed : (text now part rest all : List ℕ) → text ++ (part ++ rest) ≡ all → now ≡ text ++ part → now ++ rest ≡ all
pushed text now part rest all before e = ap (λ t. t ++ rest) e ∙ append_assoc text part rest ∙ before

pub others-cons : (sep : ℕ) (field : List ℕ) (fields : List (List ℕ)) → text_of_others sep (field ∷ fields) ≡ text_of_next sep field ++ text_of_others sep fields
unfolding text_of_others
others-cons sep field fields = refl

pub others-nil : (sep : ℕ) → text_of_others sep [] ≡ 10 ∷ []
unfolding text_of_others
others-nil sep = refl

-- the fields from this place on
pub others-more : (sep : ℕ) (fields : List (List ℕ)) (i : ℕ) (field : List ℕ) → i < length fields → field ≡ get_or fields i field → text_of_others sep (drop i fields) ≡ text_of_next sep field ++ text_of_others sep (drop (i + 1) fields)
others-more sep fields i field h e =
    let here : drop i fields ≡ field ∷ drop (i + 1) fields = drop_more fields i field h ∙ ap (λ x. x ∷ drop (i + 1) fields) (sym e) in
    ap (text_of_others sep) here ∙ others-cons sep field (drop (i + 1) fields)

-- no field is left
pub others-all : (sep : ℕ) (fields : List (List ℕ)) (i : ℕ) → length fields ≤ i → text_of_others sep (drop i fields) ≡ 10 ∷ []
others-all sep fields i h = ap (text_of_others sep) (drop_all i fields h) ∙ others-nil sep

-- the first field, and the others
pub row-first : (sep : ℕ) (fields : List (List ℕ)) (field : List ℕ) (width : ℕ) → 0 < length fields → field ≡ get_or fields 0 field → width ≡ length fields → text_of_row sep fields ≡ text_of_first sep field width ++ text_of_others sep (drop 1 fields)
unfolding text_of_row
row-first sep [] field width some e w = absurd (omega arith)
row-first sep (x ∷ fields) field width some e w = rw (w, e) refl

pub nothing_left : (now rest all : List ℕ) → rest ≡ [] → now ++ rest ≡ all → now ≡ all
nothing_left now rest all e h = sym (append-nil now) ∙ ap (λ r. now ++ r) (sym e) ∙ h

pub row-written : (text before now all : List ℕ) (sep : ℕ) (fields : List (List ℕ)) (field : List ℕ) (width : ℕ) → 0 < length fields → field ≡ get_or fields 0 field → width ≡ length fields → text ≡ before → now ≡ text ++ text_of_first sep field width → all ≡ now ++ text_of_others sep (drop 1 fields) → all ≡ before ++ text_of_row sep fields
row-written text before now all sep fields field width some e w r f g =
    g ∙ ap (λ t. t ++ text_of_others sep (drop 1 fields)) (f ∙ ap (λ t. t ++ text_of_first sep field width) r) ∙ append_assoc before (text_of_first sep field width) (text_of_others sep (drop 1 fields)) ∙ ap (λ t. before ++ t) (sym (row-first sep fields field width some e w))
