-- Texts of lines: how they are taken apart, and their first lines.
use Rattle.std.proofs.Common.{◌≡◌, ◌≢◌, ℕ, zero, suc, ◌≤◌, true, false, cond, eqb, ne_eqb, List, [], ◌∷◌, ◌++◌, length, length-append, append_assoc, Option, Some, None, refl, sym, ap, ◌∙◌, subst, arith}
use Rattle.std.specs.Option.{option_map}
use Rattle.std.specs.List.{AllByRecursion}
use Rattle.words.proofs.Lists.{all_of_append}
use Rattle.cert_format.specs.Words.{line_feed, text_of_lines, first_lines}
use Rattle.cert_format.specs.Fields.{Lacks}

-- ---- the first such byte

pub record IsSame (one other : List ℕ) (x y : List ℕ) : Type 0 where
  pub before : one ≡ other
  pub after : x ≡ y

same_more : (a : ℕ) (one other x y : List ℕ) (b : ℕ) → a ≡ b → IsSame one other x y → IsSame (a ∷ one) (b ∷ other) x y
same_more a one other x y b e same = record { before = cc (e, same.before); after = same.after }

pub split_one : (byte : ℕ) (one other : List ℕ) (x y : List ℕ) → Lacks byte one → Lacks byte other → one ++ byte ∷ x ≡ other ++ byte ∷ y → IsSame one other x y
split_one byte [] [] x y lacks lacks_other e = record { before = refl; after = cc }
split_one byte [] (b ∷ other) x y lacks lacks_other e = absurd (lacks_other.0 (cc))
split_one byte (a ∷ one) [] x y lacks lacks_other e = absurd (lacks.0 (cc))
split_one byte (a ∷ one) (b ∷ other) x y lacks lacks_other e = same_more a one other x y b (cc) (split_one byte one other x y lacks.1 lacks_other.1 (cc))

pub not_among : (byte : ℕ) (bytes before after : List ℕ) → Lacks byte bytes → bytes ≡ before ++ byte ∷ after → ⊥
not_among byte bytes before after lacks e =
    let all = all_of_append (λ other. other ≢ byte) before (byte ∷ after) (subst (λ s. Lacks byte s) e lacks) in
    all.1.0 refl

-- ---- lines

abbrev pub AreLines : List (List ℕ) → Type 0
AreLines lines = AllByRecursion (Lacks line_feed) lines

pub text-append : (lines more : List (List ℕ)) → text_of_lines (lines ++ more) ≡ text_of_lines lines ++ text_of_lines more
text-append [] more = refl
text-append (line ∷ lines) more =
    ap (λ text. line ++ line_feed ∷ text) (text-append lines more) ∙ sym (append_assoc line (line_feed ∷ text_of_lines lines) (text_of_lines more))

-- a line, a line feed and what follows
pub led : (line : List ℕ) (lines : List (List ℕ)) (rest : List ℕ) → text_of_lines (line ∷ lines) ++ rest ≡ line ++ line_feed ∷ (text_of_lines lines ++ rest)
led line lines rest = append_assoc line (line_feed ∷ text_of_lines lines) rest

pub length-text : (lines : List (List ℕ)) → length lines ≤ length (text_of_lines lines)
length-text [] = omega arith
length-text (line ∷ lines) = omega (arith, length-text lines, length-append line (line_feed ∷ text_of_lines lines))

-- the lines begin with some, and the others have the rest as their text
pub record GoOn (lines some : List (List ℕ)) (rest : List ℕ) : Type 0 where
  pub more : List (List ℕ)
  pub joined : lines ≡ some ++ more
  pub text : text_of_lines more ≡ rest

go_on_more : (line : List ℕ) (lines : List (List ℕ)) (other : List ℕ) (some : List (List ℕ)) (rest : List ℕ) → line ≡ other → GoOn lines some rest → GoOn (line ∷ lines) (other ∷ some) rest
go_on_more line lines other some rest e on = record { more = on.more; joined = cc (e, on.joined); text = on.text }

pub lines_go_on : (lines some : List (List ℕ)) (rest : List ℕ) → AreLines lines → AreLines some → text_of_lines lines ≡ text_of_lines some ++ rest → GoOn lines some rest
lines_go_on lines [] rest are are_some e = record { more = lines; joined = refl; text = e }
lines_go_on [] (other ∷ some) rest are are_some e = absurd (not_among line_feed [] other (text_of_lines some ++ rest) tt (e ∙ led other some rest))
lines_go_on (line ∷ lines) (other ∷ some) rest are are_some e =
    let same = split_one line_feed line other (text_of_lines lines) (text_of_lines some ++ rest) are.0 are_some.0 (e ∙ led other some rest) in
    go_on_more line lines other some rest same.before (lines_go_on lines some rest are.1 are_some.1 same.after)

-- ---- the first lines

fused : {A B C : Type 0} (f : A → B) (g : B → C) (h : A → C) → ((x : A) → g (f x) ≡ h x) → (found : Option A) → option_map g (option_map f found) ≡ option_map h found
fused f g h same None = refl
fused f g h same (Some x) = ap Some (same x)

first_line : (n : ℕ) (line rest : List ℕ) → Lacks line_feed line → first_lines (suc n) (line ++ line_feed ∷ rest) ≡ option_map (λ front. line ++ line_feed ∷ front) (first_lines n rest)
first_line n [] rest lacks = refl
first_line n (byte ∷ line) rest lacks =
    ap (λ feed. option_map (λ front. byte ∷ front) (first_lines (cond feed n (suc n)) (line ++ line_feed ∷ rest))) (ne_eqb byte line_feed lacks.0)
    ∙ ap (option_map (λ front. byte ∷ front)) (first_line n line rest lacks.1)
    ∙ fused (λ front. line ++ line_feed ∷ front) (λ front. byte ∷ front) (λ front. byte ∷ (line ++ line_feed ∷ front)) (λ front. refl) (first_lines n rest)

pub first_lines-text : (lines : List (List ℕ)) (rest : List ℕ) → AreLines lines → first_lines (length lines) (text_of_lines lines ++ rest) ≡ Some (text_of_lines lines)
first_lines-text [] rest are = refl
first_lines-text (line ∷ lines) rest are =
    ap (first_lines (suc (length lines))) (led line lines rest)
    ∙ first_line (length lines) line (text_of_lines lines ++ rest) are.0
    ∙ ap (option_map (λ front. line ++ line_feed ∷ front)) (first_lines-text lines rest are.1)

pub first_lines-one_more : (lines : List (List ℕ)) (line rest : List ℕ) → AreLines lines → Lacks line_feed line
    → first_lines (suc (length lines)) (text_of_lines lines ++ (line ++ line_feed ∷ rest)) ≡ Some (text_of_lines lines ++ (line ++ line_feed ∷ []))
first_lines-one_more [] line rest are lacks = first_line zero line rest lacks
first_lines-one_more (other ∷ lines) line rest are lacks =
    ap (first_lines (suc (suc (length lines)))) (led other lines (line ++ line_feed ∷ rest))
    ∙ first_line (suc (length lines)) other (text_of_lines lines ++ (line ++ line_feed ∷ rest)) are.0
    ∙ ap (option_map (λ front. other ++ line_feed ∷ front)) (first_lines-one_more lines line rest are.1 lacks)
    ∙ ap Some (sym (led other lines (line ++ line_feed ∷ [])))

no_line : (n : ℕ) (rest : List ℕ) → Lacks line_feed rest → first_lines (suc n) rest ≡ None
no_line n [] lacks = refl
no_line n (byte ∷ rest) lacks =
    ap (λ feed. option_map (λ front. byte ∷ front) (first_lines (cond feed n (suc n)) rest)) (ne_eqb byte line_feed lacks.0)
    ∙ ap (option_map (λ front. byte ∷ front)) (no_line n rest lacks.1)

pub first_lines-too_many : (lines : List (List ℕ)) (rest : List ℕ) → AreLines lines → Lacks line_feed rest → first_lines (suc (length lines)) (text_of_lines lines ++ rest) ≡ None
first_lines-too_many [] rest are lacks = no_line zero rest lacks
first_lines-too_many (line ∷ lines) rest are lacks =
    ap (first_lines (suc (suc (length lines)))) (led line lines rest)
    ∙ first_line (suc (length lines)) line (text_of_lines lines ++ rest) are.0
    ∙ ap (option_map (λ front. line ++ line_feed ∷ front)) (first_lines-too_many lines rest are.1 lacks)

-- ---- fewer lines are the front of more

-- they were found, and are the front of these bytes
pub record IsFront (found : Option (List ℕ)) (bytes : List ℕ) : Type 0 where
  pub front : List ℕ
  pub rest : List ℕ
  pub is : found ≡ Some front
  pub joined : bytes ≡ front ++ rest

led_front : (byte : ℕ) (found : Option (List ℕ)) (more : Option (List ℕ)) (bytes : List ℕ) → ((inner : List ℕ) → more ≡ Some inner → IsFront found inner)
    → option_map (λ front. byte ∷ front) more ≡ Some bytes → IsFront (option_map (λ front. byte ∷ front) found) bytes
led_front byte found None bytes fronts e = absurd cc
led_front byte found (Some inner) bytes fronts e =
    let inside = fronts inner refl in
    let here : byte ∷ inner ≡ bytes = cc in
    record {
      front = byte ∷ inside.front;
      rest = inside.rest;
      is = ap (option_map (λ front. byte ∷ front)) inside.is;
      joined = sym here ∙ ap (λ s. byte ∷ s) inside.joined;
    }

pub fewer_lines : (k n : ℕ) (bytes front : List ℕ) → k ≤ n → first_lines n bytes ≡ Some front → IsFront (first_lines k bytes) front
fewer_lines zero n bytes front le e = record { front = []; rest = front; is = refl; joined = refl }
fewer_lines (suc k) zero bytes front le e = absurd (omega arith)
fewer_lines (suc k) (suc n) [] front le e = absurd cc
fewer_lines (suc k) (suc n) (byte ∷ bytes) front le e =
    elim (eqb byte line_feed) as (λ feed. option_map (λ s. byte ∷ s) (first_lines (cond feed n (suc n)) bytes) ≡ Some front → IsFront (option_map (λ s. byte ∷ s) (first_lines (cond feed k (suc k)) bytes)) front) [
      | true ↦ λ h. led_front byte (first_lines k bytes) (first_lines n bytes) front (λ inner. fewer_lines k n bytes inner (omega arith)) h
      | false ↦ λ h. led_front byte (first_lines (suc k) bytes) (first_lines (suc n) bytes) front (λ inner. fewer_lines (suc k) (suc n) bytes inner (omega arith)) h
    ] e
