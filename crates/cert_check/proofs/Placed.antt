-- Readings at the places of set lines.
use Rattle.std.proofs.Common.{◌≡◌, ◌≢◌, ℕ, zero, suc, ◌+◌, ◌<◌, ◌≤◌, false, cond, not, ℤ, List, [], ◌∷◌, length, drop, get_or, set, Option, Some, None, refl, sym, ap, ◌∙◌, subst, arith}
use Rattle.std.specs.Prelude.{Contains, slice_get}
use Rattle.std.specs.Ordering.{int_eq}
use Rattle.std.proofs.lemmas.List.{drop_all, drop_more}
use Rattle.words.specs.Lists.{Distinct}
use Rattle.words.proofs.Lists.{all_at, contains_first, contains_later}
use Rattle.screen_model.specs.declared.place.Place.{Place}
use Rattle.screen_model.specs.Series.{is_same_place}
use Rattle.screen_model.proofs.Places.{other_place, same_place}
use Rattle.cert_format.specs.declared.cert.SetLine.{SetLine}
use Rattle.bound_maker.proofs.Found.{contains_at}
use Rattle.cert_format.specs.Sets.{series_set, value_set}
use Rattle.cert_check.specs.Repair.{is_change}

none_is_some : {A : Type 0} (x : A) → ◌≡◌ {A = Option A} None (Some x) → ⊥
none_is_some x e = cc

some_one : {A : Type 0} {x y : A} → ◌≡◌ {A = Option A} (Some x) (Some y) → x ≡ y
some_one e = cc

-- a place that stands first is another one than those that follow
pub other_than : (q : Place) (places : List Place) (i : ℕ) (p : Place) → Distinct (q ∷ places) → slice_get places i ≡ Some p → p ≢ q
other_than q places i p distinct found = λ same. all_at (λ y. q ≢ y) places p distinct.0 (contains_at places i p found) (sym same)

pub not_first : (q : Place) (places : List Place) (p : Place) → (Contains (q ∷ places) p → ⊥) → p ≢ q
not_first q places p none = λ same. none (subst (λ z. Contains (q ∷ places) z) (sym same) (contains_first q places))

-- ---- set lines that change a reading

pub change_found : (places : List Place) (values : List ℤ) (i : ℕ) (line : SetLine) (value : ℤ) → Distinct places → slice_get places i ≡ Some line.place → slice_get values i ≡ Some value
    → is_change places values line ≡ not (int_eq line.value value)
change_found [] values i line value distinct found read = absurd (none_is_some line.place found)
change_found (q ∷ places) [] i line value distinct found read = absurd (none_is_some value read)
change_found (q ∷ places) (v ∷ values) zero line value distinct found read =
    let same : q ≡ line.place = some_one found in
    let own : v ≡ value = some_one read in
    ap (λ b. cond b (not (int_eq line.value v)) (is_change places values line)) (ap (λ z. is_same_place line.place z) same ∙ same_place line.place) ∙ ap (λ z. not (int_eq line.value z)) own
change_found (q ∷ places) (v ∷ values) (suc i) line value distinct found read =
    ap (λ b. cond b (not (int_eq line.value v)) (is_change places values line)) (other_place line.place q (other_than q places i line.place distinct found))
    ∙ change_found places values i line value distinct.1 found read

pub change_none : (places : List Place) (values : List ℤ) (line : SetLine) → (Contains places line.place → ⊥) → is_change places values line ≡ false
change_none [] values line none = refl
change_none (q ∷ places) [] line none = refl
change_none (q ∷ places) (v ∷ values) line none =
    ap (λ b. cond b (not (int_eq line.value v)) (is_change places values line)) (other_place line.place q (not_first q places line.place none))
    ∙ change_none places values line (λ has. none (contains_later q places line.place has))

pub change_short : (places : List Place) (values : List ℤ) (i : ℕ) (line : SetLine) → Distinct places → slice_get places i ≡ Some line.place → slice_get values i ≡ None → is_change places values line ≡ false
change_short [] values i line distinct found short = refl
change_short (q ∷ places) [] i line distinct found short = refl
change_short (q ∷ places) (v ∷ values) zero line distinct found short = absurd (none_is_some v (sym short))
change_short (q ∷ places) (v ∷ values) (suc i) line distinct found short =
    ap (λ b. cond b (not (int_eq line.value v)) (is_change places values line)) (other_place line.place q (other_than q places i line.place distinct found))
    ∙ change_short places values i line distinct.1 found short

-- ---- the series of set lines

pub both : (a b : ℤ) (xs ys : List ℤ) → a ≡ b → xs ≡ ys → a ∷ xs ≡ b ∷ ys
both a b xs ys e f = cc

abbrev pub one_set : List Place → List ℤ → SetLine → List ℤ
one_set places series line = series_set places series (line ∷ [])

set_skips : (q : Place) (v : ℤ) (line : SetLine) → line.place ≢ q → value_set q v (line ∷ []) ≡ v
set_skips q v line other = ap (λ b. cond b line.value v) (other_place line.place q other)

pub set_none : (places : List Place) (series : List ℤ) (line : SetLine) → length series ≡ length places → (Contains places line.place → ⊥) → series ≡ one_set places series line
set_none [] [] line long none = refl
set_none [] (v ∷ series) line long none = absurd (omega (arith, long))
set_none (q ∷ places) [] line long none = absurd (omega (arith, long))
set_none (q ∷ places) (v ∷ series) line long none =
    let first = set_skips q v line (not_first q places line.place none) in
    let rest = set_none places series line (omega (arith, long)) (λ has. none (contains_later q places line.place has)) in
    both v (value_set q v (line ∷ [])) series (one_set places series line) (sym first) rest

pub set_found : (places : List Place) (series : List ℤ) (i : ℕ) (line : SetLine) → Distinct places → length series ≡ length places → slice_get places i ≡ Some line.place
    → set series i line.value ≡ one_set places series line
set_found [] series i line distinct long found = absurd (none_is_some line.place found)
set_found (q ∷ places) [] i line distinct long found = absurd (omega (arith, long))
set_found (q ∷ places) (v ∷ series) zero line distinct long found =
    let same : q ≡ line.place = some_one found in
    let first : value_set q v (line ∷ []) ≡ line.value = ap (λ b. cond b line.value v) (ap (λ z. is_same_place line.place z) same ∙ same_place line.place) in
    let none : Contains places line.place → ⊥ = λ has. all_at (λ y. q ≢ y) places line.place distinct.0 has same in
    both line.value (value_set q v (line ∷ [])) series (one_set places series line) (sym first) (set_none places series line (omega (arith, long)) none)
set_found (q ∷ places) (v ∷ series) (suc i) line distinct long found =
    both v (value_set q v (line ∷ [])) (set series i line.value) (one_set places series line)
    (sym (set_skips q v line (other_than q places i line.place distinct found)))
    (set_found places series i line distinct.1 (omega (arith, long)) found)

-- the lines one after the other
pub set_next : (places : List Place) (series : List ℤ) (line : SetLine) (sets : List SetLine) → series_set places (one_set places series line) sets ≡ series_set places series (line ∷ sets)
set_next [] series line sets = refl
set_next (q ∷ places) [] line sets = refl
set_next (q ∷ places) (v ∷ series) line sets = ap (λ (rest : List ℤ). value_set q v (line ∷ sets) ∷ rest) (set_next places series line sets)

pub length-series_set : (places : List Place) (series : List ℤ) (sets : List SetLine) → length series ≡ length places → length (series_set places series sets) ≡ length places
length-series_set [] series sets long = refl
length-series_set (q ∷ places) [] sets long = absurd (omega (arith, long))
length-series_set (q ∷ places) (v ∷ series) sets long = omega (arith, length-series_set places series sets (omega (arith, long)))

pub series_unset : (places : List Place) (series : List ℤ) → length series ≡ length places → series_set places series [] ≡ series
series_unset [] [] long = refl
series_unset [] (v ∷ series) long = absurd (omega (arith, long))
series_unset (q ∷ places) [] long = absurd (omega (arith, long))
series_unset (q ∷ places) (v ∷ series) long = ap (λ (rest : List ℤ). v ∷ rest) (series_unset places series (omega (arith, long)))

-- a loop over set lines
pub set_step : (places : List Place) (series new : List ℤ) (sets : List SetLine) (i : ℕ) (d : SetLine) → i < length sets → new ≡ one_set places series (get_or sets i d)
    → series_set places new (drop (i + 1) sets) ≡ series_set places series (drop i sets)
set_step places series new sets i d h is =
    ap (λ (xs : List ℤ). series_set places xs (drop (i + 1) sets)) is
    ∙ (set_next places series (get_or sets i d) (drop (i + 1) sets)
    ∙ ap (series_set places series) (sym (drop_more sets i d h)))

pub set_end : (places : List Place) (series : List ℤ) (sets : List SetLine) (i : ℕ) → length sets ≤ i → length series ≡ length places → series_set places series (drop i sets) ≡ series
set_end places series sets i h long = ap (series_set places series) (drop_all i sets h) ∙ series_unset places series long
