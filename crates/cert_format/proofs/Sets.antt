-- The set lines of a series give the series again.
use Rattle.std.proofs.Common.{◌≡◌, ◌≢◌, ℕ, suc, ◌≤◌, ℤ, Bool, true, false, List, [], ◌∷◌, length, if◌then◌else◌, refl, sym, ap, ◌∙◌, arith}
use Rattle.std.specs.Ordering.{int_eq}
use Rattle.std.specs.List.{AllByRecursion}
use Rattle.std.proofs.lemmas.Bool.Decides.{Decides-int_eq}
use Rattle.words.specs.Lists.{Distinct}
use Rattle.screen_model.specs.declared.place.Place.{Place}
use Rattle.screen_model.specs.Series.{is_same_place}
use Rattle.screen_model.proofs.Places.{same_place, other_place}
use Rattle.cert_format.specs.declared.cert.SetLine.{SetLine}
use Rattle.cert_format.specs.Sets.{series_set, sets_of, value_set}

abbrev pub line_of : Place → ℤ → SetLine
line_of place x = record { place = place; value = x }

module _ (P : SetLine → Type 0) where
  pub all_more : (t : Bool) (line : SetLine) (sets : List SetLine) → (t ≡ false → P line) → AllByRecursion P sets → AllByRecursion P (if t then sets else line ∷ sets)
  all_more true line sets p all = all
  all_more false line sets p all = (p refl, all)

  -- what holds of each reading that is changed and of its new value holds of each set line
  pub all_sets : (places : List Place) (values series : List ℤ) (Q : Place → Type 0)
      → ((place : Place) (value x : ℤ) → Q place → int_eq x value ≡ false → P (line_of place x)) → AllByRecursion Q places → AllByRecursion P (sets_of places values series)
  all_sets [] values series Q make all = tt
  all_sets (place ∷ places) [] series Q make all = tt
  all_sets (place ∷ places) (value ∷ values) [] Q make all = tt
  all_sets (place ∷ places) (value ∷ values) (x ∷ series) Q make all =
      all_more (int_eq x value) (line_of place x) (sets_of places values series) (λ differs. make place value x all.0 differs) (all_sets places values series Q make all.1)

-- no line is of the place
abbrev pub IsFree : Place → List SetLine → Type 0
IsFree place sets = AllByRecursion (λ (line : SetLine). is_same_place line.place place ≡ false) sets

pub sets_free : (place : Place) (places : List Place) (values series : List ℤ) → AllByRecursion (λ q. place ≢ q) places → IsFree place (sets_of places values series)
sets_free place places values series others =
    all_sets (λ (line : SetLine). is_same_place line.place place ≡ false) places values series (λ q. place ≢ q) (λ q value x other differs. other_place q place (λ same. other (sym same))) others

value_free : (place : Place) (value : ℤ) (sets : List SetLine) → IsFree place sets → value_set place value sets ≡ value
value_free place value [] free = refl
value_free place value (line ∷ sets) free = ap (λ b. value_set place (if b then line.value else value) sets) free.0 ∙ value_free place value sets free.1

-- a line of another place tells nothing
skipped : (line : SetLine) (sets : List SetLine) (places : List Place) (values : List ℤ) → AllByRecursion (λ q. line.place ≢ q) places
    → series_set places values (line ∷ sets) ≡ series_set places values sets
skipped line sets [] values others = refl
skipped line sets (q ∷ places) [] others = refl
skipped line sets (q ∷ places) (value ∷ values) others =
    ap (λ b. value_set q (if b then line.value else value) sets ∷ series_set places values (line ∷ sets)) (other_place line.place q others.0)
    ∙ ap (λ rest. value_set q value sets ∷ rest) (skipped line sets places values others.1)

one_more : (t : Bool) (place : Place) (value x : ℤ) (sets : List SetLine) (places : List Place) (values series : List ℤ)
    → int_eq x value ≡ t → AllByRecursion (λ q. place ≢ q) places → IsFree place sets → series_set places values sets ≡ series
    → series_set (place ∷ places) (value ∷ values) (if t then sets else line_of place x ∷ sets) ≡ x ∷ series
one_more true place value x sets places values series test others free rest =
    let same : x ≡ value = (Decides-int_eq x value).0 test in
    ap (λ v. v ∷ series_set places values sets) (value_free place value sets free ∙ sym same) ∙ ap (λ xs. x ∷ xs) rest
one_more false place value x sets places values series test others free rest =
    ap (λ b. value_set place (if b then x else value) sets ∷ series_set places values (line_of place x ∷ sets)) (same_place place)
    ∙ (ap (λ v. v ∷ series_set places values (line_of place x ∷ sets)) (value_free place x sets free)
    ∙ ap (λ xs. x ∷ xs) (skipped (line_of place x) sets places values others ∙ rest))

pub tells : (places : List Place) (values series : List ℤ) → Distinct places → length values ≡ length places → length series ≡ length places
    → series_set places values (sets_of places values series) ≡ series
tells [] values [] distinct valued whole = refl
tells [] values (x ∷ series) distinct valued whole = absurd (omega (arith, whole))
tells (place ∷ places) [] series distinct valued whole = absurd (omega (arith, valued))
tells (place ∷ places) (value ∷ values) [] distinct valued whole = absurd (omega (arith, whole))
tells (place ∷ places) (value ∷ values) (x ∷ series) distinct valued whole =
    one_more (int_eq x value) place value x (sets_of places values series) places values series refl distinct.0
    (sets_free place places values series distinct.0) (tells places values series distinct.1 (omega (arith, valued)) (omega (arith, whole)))

-- ---- how many they are

few_more : (t : Bool) (line : SetLine) (sets : List SetLine) (n : ℕ) → length sets ≤ n → length (if t then sets else line ∷ sets) ≤ suc n
few_more true line sets n few = omega (arith, few)
few_more false line sets n few = omega (arith, few)

-- at most one for a reading
pub few_sets : (places : List Place) (values series : List ℤ) → length (sets_of places values series) ≤ length places
few_sets [] values series = omega arith
few_sets (place ∷ places) [] series = omega arith
few_sets (place ∷ places) (value ∷ values) [] = omega arith
few_sets (place ∷ places) (value ∷ values) (x ∷ series) = few_more (int_eq x value) (line_of place x) (sets_of places values series) (length places) (few_sets places values series)
