-- The readings that a series changes, as loops list and count them.
use Rattle.std.proofs.Common.{◌≡◌, ℕ, ◌+◌, ◌<◌, ℤ, Bool, true, false, List, [], ◌∷◌, ◌++◌, drop, length, slice_index_or, ◌≤◌, if◌then◌else◌, refl, sym, ap, ◌∙◌, arith}
use Rattle.std.specs.Ordering.{int_eq}
use Rattle.std.proofs.lemmas.List.{append_assoc, drop_more}
use Rattle.cert_format.specs.declared.cert.SetLine.{SetLine}
use Rattle.cert_format.specs.Sets.{sets_of, with_set}
use Rattle.screen_model.specs.declared.place.Place.{Place}
use Rattle.screen_tool.specs.Sample.{changed, one_if_changed}

abbrev line_of : Place → ℤ → SetLine
line_of place x = record { place = place; value = x }

-- ---- the set lines, one reading after another

with_rest : (t : Bool) (line : SetLine) (rest : List SetLine) → (if t then rest else line ∷ rest) ≡ (if t then [] else line ∷ []) ++ rest
with_rest true line rest = refl
with_rest false line rest = refl

pub one_on : (places : List Place) (values series : List ℤ) (i : ℕ) (p : Place) (v x seen_value seen_x : ℤ) (sets new : List SetLine)
    → length values ≡ length places → length series ≡ length places → i < length places
    → seen_value ≡ slice_index_or values i v → seen_x ≡ slice_index_or series i x
    → sets_of places values series ≡ sets ++ sets_of (drop i places) (drop i values) (drop i series)
    → new ≡ sets ++ with_set (slice_index_or places i p) seen_value seen_x []
    → sets_of places values series ≡ new ++ sets_of (drop (i + 1) places) (drop (i + 1) values) (drop (i + 1) series)
one_on places values series i p v x seen_value seen_x sets new valued whole within value_is x_is so_far added =
    let rest = sets_of (drop (i + 1) places) (drop (i + 1) values) (drop (i + 1) series) in
    let place = slice_index_or places i p in
    let value = slice_index_or values i v in
    let there = slice_index_or series i x in
    let next : sets_of (drop i places) (drop i values) (drop i series) ≡ with_set place value there rest =
    ap (λ ps. sets_of ps (drop i values) (drop i series)) (drop_more places i p within)
    ∙ (ap (λ vs. sets_of (place ∷ drop (i + 1) places) vs (drop i series)) (drop_more values i v (omega (arith, valued, within)))
    ∙ ap (λ xs. sets_of (place ∷ drop (i + 1) places) (value ∷ drop (i + 1) values) xs) (drop_more series i x (omega (arith, whole, within))))
    in
    let line : new ≡ sets ++ with_set place value there [] =
    added ∙ (ap (λ y. sets ++ with_set place y seen_x []) value_is ∙ ap (λ y. sets ++ with_set place value y []) x_is)
    in
    so_far ∙ (ap (λ more. sets ++ more) (next ∙ with_rest (int_eq there value) (line_of place there) rest)
    ∙ (sym (append_assoc sets (with_set place value there []) rest) ∙ ap (λ all. all ++ rest) (sym line)))

-- ---- the changed values, as a loop counts them

pub at_most_one : (b : Bool) (n : ℕ) → n ≡ (if b then 0 else 1) → n ≤ 1
at_most_one true n p = omega (arith, p)
at_most_one false n p = omega (arith, p)

pub count_on : (values series : List ℤ) (i : ℕ) (v x seen_value seen_x : ℤ) (count one : ℕ)
    → length series ≡ length values → i < length values
    → seen_value ≡ slice_index_or values i v → seen_x ≡ slice_index_or series i x
    → count + changed (drop i values) (drop i series) ≡ changed values series → one ≡ one_if_changed seen_value seen_x
    → (count + one) + changed (drop (i + 1) values) (drop (i + 1) series) ≡ changed values series
count_on values series i v x seen_value seen_x count one whole within value_is x_is so_far added =
    let rest = changed (drop (i + 1) values) (drop (i + 1) series) in
    let value = slice_index_or values i v in
    let there = slice_index_or series i x in
    let next : changed (drop i values) (drop i series) ≡ one_if_changed value there + rest =
    ap (λ vs. changed vs (drop i series)) (drop_more values i v within)
    ∙ ap (λ xs. changed (value ∷ drop (i + 1) values) xs) (drop_more series i x (omega (arith, whole, within)))
    in
    let own : one ≡ one_if_changed value there = added ∙ (ap (λ y. one_if_changed y seen_x) value_is ∙ ap (λ y. one_if_changed value y) x_is) in
    omega (arith, so_far, next, own)
