-- Lists cut at the first member that does not pass.
use Rattle.std.proofs.Common.{◌≡◌, ℕ, ◌+◌, Bool, true, false, List, [], ◌∷◌, ◌++◌, length, refl, sym, ap, ◌∙◌, arith}
use Rattle.std.specs.List.{list_all}
use Rattle.std.proofs.lemmas.List.{append-nil}
use Rattle.std.proofs.lemmas.Bool.{cond-true, cond-false, and_parts, and_from}
use Rattle.fix_point.specs.PartsOf.{front, after_front}

-- whether a first member is there and passes
abbrev pub starts : (ℕ → Bool) → List ℕ → Bool
starts passes [] = false
starts passes (c ∷ rest) = passes c

pub front_passes : (passes : ℕ → Bool) (c : ℕ) (rest : List ℕ) → passes c ≡ true → front passes (c ∷ rest) ≡ c ∷ front passes rest
front_passes passes c rest h = cond-true (passes c) (c ∷ front passes rest) [] h

pub front_stops : (passes : ℕ → Bool) (bytes : List ℕ) → starts passes bytes ≡ false → front passes bytes ≡ []
front_stops passes [] h = refl
front_stops passes (c ∷ rest) h = cond-false (passes c) (c ∷ front passes rest) [] h

pub after_passes : (passes : ℕ → Bool) (c : ℕ) (rest : List ℕ) → passes c ≡ true → after_front passes (c ∷ rest) ≡ after_front passes rest
after_passes passes c rest h = cond-true (passes c) (after_front passes rest) (c ∷ rest) h

pub after_stops : (passes : ℕ → Bool) (bytes : List ℕ) → starts passes bytes ≡ false → after_front passes bytes ≡ bytes
after_stops passes [] h = refl
after_stops passes (c ∷ rest) h = cond-false (passes c) (after_front passes rest) (c ∷ rest) h

-- where members that pass stand before what does not, the cut is there
pub front_append : (passes : ℕ → Bool) (run rest : List ℕ) → list_all passes run ≡ true → starts passes rest ≡ false → front passes (run ++ rest) ≡ run
front_append passes [] rest all ends = front_stops passes rest ends
front_append passes (c ∷ run) rest all ends =
    let h = and_parts (passes c) (list_all passes run) all in
    front_passes passes c (run ++ rest) h.0 ∙ ap (λ s. c ∷ s) (front_append passes run rest h.1 ends)

pub after_append : (passes : ℕ → Bool) (run rest : List ℕ) → list_all passes run ≡ true → starts passes rest ≡ false → after_front passes (run ++ rest) ≡ rest
after_append passes [] rest all ends = after_stops passes rest ends
after_append passes (c ∷ run) rest all ends =
    let h = and_parts (passes c) (list_all passes run) all in
    after_passes passes c (run ++ rest) h.0 ∙ after_append passes run rest h.1 ends

-- what the cut gives at each first member
pub record IsCut (passes : ℕ → Bool) (bytes : List ℕ) : Type 0 where
  pub joined : front passes bytes ++ after_front passes bytes ≡ bytes
  pub all : list_all passes (front passes bytes) ≡ true
  pub lengths : length (front passes bytes) + length (after_front passes bytes) ≡ length bytes

cut_stops : (passes : ℕ → Bool) (c : ℕ) (rest : List ℕ) → passes c ≡ false → IsCut passes (c ∷ rest)
cut_stops passes c rest h =
    let f : front passes (c ∷ rest) ≡ [] = front_stops passes (c ∷ rest) h in
    let a : after_front passes (c ∷ rest) ≡ c ∷ rest = after_stops passes (c ∷ rest) h in
    record {
      joined = ap (λ s. s ++ after_front passes (c ∷ rest)) f ∙ a;
      all = ap (list_all passes) f;
      lengths = omega (arith, ap length f, ap length a);
    }

cut_passes : (passes : ℕ → Bool) (c : ℕ) (rest : List ℕ) → passes c ≡ true → IsCut passes rest → IsCut passes (c ∷ rest)
cut_passes passes c rest h cut =
    let f : front passes (c ∷ rest) ≡ c ∷ front passes rest = front_passes passes c rest h in
    let a : after_front passes (c ∷ rest) ≡ after_front passes rest = after_passes passes c rest h in
    record {
      joined = ap (λ s. s ++ after_front passes (c ∷ rest)) f ∙ ap (λ s. c ∷ (front passes rest ++ s)) a ∙ ap (λ s. c ∷ s) cut.joined;
      all = ap (list_all passes) f ∙ and_from (passes c) (list_all passes (front passes rest)) h cut.all;
      lengths = omega (arith, ap length f, ap length a, cut.lengths);
    }

cut_by : (passes : ℕ → Bool) (c : ℕ) (rest : List ℕ) (b : Bool) → passes c ≡ b → IsCut passes rest → IsCut passes (c ∷ rest)
cut_by passes c rest true h cut = cut_passes passes c rest h cut
cut_by passes c rest false h cut = cut_stops passes c rest h

pub is_cut : (passes : ℕ → Bool) (bytes : List ℕ) → IsCut passes bytes
is_cut passes [] = record { joined = refl; all = refl; lengths = refl }
is_cut passes (c ∷ rest) = cut_by passes c rest (passes c) refl (is_cut passes rest)

-- all pass where nothing is left
pub all_from_empty : (passes : ℕ → Bool) (bytes : List ℕ) → after_front passes bytes ≡ [] → list_all passes bytes ≡ true
all_from_empty passes bytes h =
    let cut = is_cut passes bytes in
    let whole : front passes bytes ≡ bytes = sym (append-nil (front passes bytes)) ∙ ap (λ s. front passes bytes ++ s) (sym h) ∙ cut.joined in
    ap (list_all passes) (sym whole) ∙ cut.all

pub empty_from_all : (passes : ℕ → Bool) (bytes : List ℕ) → list_all passes bytes ≡ true → after_front passes bytes ≡ []
empty_from_all passes bytes h = ap (after_front passes) (sym (append-nil bytes)) ∙ after_append passes bytes [] h refl
