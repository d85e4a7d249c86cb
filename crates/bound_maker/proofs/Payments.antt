-- The sum of what is paid for bounds, as a loop adds it up; and what it means that none is broken.
use Rattle.std.proofs.Common.{◌≡◌, ◌↔◌, ℕ, ◌+◌, ◌<◌, ℤ, ◌≤ℤ◌, Bool, true, false, cond, not, List, [], ◌∷◌, length, map, drop, get_or, Option, Some, None, option_map, refl, sym, ap, ◌∙◌, arith}
use Rattle.std.specs.Prelude.{sum, ◌==◌, ◌&&◌, int_le}
use Rattle.std.specs.List.{find}
use Rattle.std.proofs.lemmas.Int.{ints}
use Rattle.std.proofs.lemmas.Bool.{eqb-true, eq-eqb, false≢true}
use Rattle.std.proofs.lemmas.List.{drop_more}
use Rattle.std.proofs.lemmas.List.Sums.{sum_by-cons}
use Rattle.screen_model.specs.declared.bound.Bound.{Bound}
use Rattle.screen_model.specs.declared.bound.BoundName.{BoundName}
use Rattle.screen_model.specs.declared.place.Place.{Place}
use Rattle.screen_model.specs.Cost.{payment}
use Rattle.screen_model.specs.Obeys.{Priced, Obeys, rise}
use Rattle.rule_file.specs.declared.rules.Rules.{Rules}
use Rattle.series_csv.specs.File.{TableView}
use Rattle.series_csv.specs.Readings.{places}
use Rattle.bound_maker.specs.Bounds.{price_of_number, priced}
use Rattle.bound_maker.specs.Broken.{is_broken, first_broken}

abbrev pub with_price : Rules → Bound → Priced
with_price rules bound = record { bound = bound; price = price_of_number rules bound.name.rule }

-- what is paid for bounds
abbrev pub paid_for : Rules → List Place → List ℤ → List Bound → ℕ
paid_for rules places series bounds = sum (map (payment places series) (priced rules bounds))

pub paid_more : (rules : Rules) (places : List Place) (series : List ℤ) (bounds : List Bound) (i : ℕ) (d : Bound) → i < length bounds
    → paid_for rules places series (drop i bounds) ≡ payment places series (with_price rules (get_or bounds i d)) + paid_for rules places series (drop (i + 1) bounds)
paid_more rules places series bounds i d h =
    ap (paid_for rules places series) (drop_more bounds i d h)
    ∙ sum_by-cons (λ (x : ℕ). x) (payment places series (with_price rules (get_or bounds i d))) (map (payment places series) (priced rules (drop (i + 1) bounds)))

-- ---- none is broken

none_is_some : {A : Type 0} (x : A) → ◌≡◌ {A = Option A} None (Some x) → ⊥
none_is_some x e = cc

-- what a test of a bound means
pub keeps_from : (z limit : ℤ) → int_le z limit ≡ true → z ≤ℤ limit
keeps_from z limit h = omega (arith, ints, h)

pub test_from : (z limit : ℤ) → z ≤ℤ limit → int_le z limit ≡ true
test_from z limit h = grind (arith, ints)

none_step : {A : Type 0} (price : ℕ) (z limit : ℤ) (x : A) (rest : Option A) (free keeps : Bool) → (price == 0) ≡ free → int_le z limit ≡ keeps → cond (free && not keeps) (Some x) rest ≡ None
    → (price ≡ 0 → z ≤ℤ limit) × (rest ≡ None)
none_step price z limit x rest true true is_free is_kept none = (λ same. keeps_from z limit is_kept, none)
none_step price z limit x rest true false is_free is_kept none = absurd (none_is_some x (sym none))
none_step price z limit x rest false keeps is_free is_kept none = (λ same. absurd (false≢true (sym is_free ∙ eq-eqb price 0 same)), none)

-- where no bound is found that is broken, the series obeys
none_broken : (rules : Rules) (table : TableView) (series : List ℤ) (bounds : List Bound) → find (is_broken rules table series) bounds ≡ None → Obeys (places table) series (priced rules bounds)
none_broken rules table series [] none = tt
none_broken rules table series (bound ∷ bounds) none =
    let price = price_of_number rules bound.name.rule in
    let z = rise (places table) series bound in
    let step = none_step price z bound.limit bound (find (is_broken rules table series) bounds) (price == 0) (int_le z bound.limit) refl refl none in
    (step.0, none_broken rules table series bounds step.1)

kept_step : {A : Type 0} (price : ℕ) (z limit : ℤ) (x : A) (rest : Option A) (free keeps : Bool) → (price == 0) ≡ free → int_le z limit ≡ keeps → (price ≡ 0 → z ≤ℤ limit)
    → cond (free && not keeps) (Some x) rest ≡ rest
kept_step price z limit x rest true true is_free is_kept obeys = refl
kept_step price z limit x rest true false is_free is_kept obeys = absurd (false≢true (sym is_kept ∙ test_from z limit (obeys (eqb-true price 0 is_free))))
kept_step price z limit x rest false keeps is_free is_kept obeys = refl

-- and where it obeys none is found
all_kept : (rules : Rules) (table : TableView) (series : List ℤ) (bounds : List Bound) → Obeys (places table) series (priced rules bounds) → find (is_broken rules table series) bounds ≡ None
all_kept rules table series [] obeys = refl
all_kept rules table series (bound ∷ bounds) obeys =
    let price = price_of_number rules bound.name.rule in
    let z = rise (places table) series bound in
    kept_step price z bound.limit bound (find (is_broken rules table series) bounds) (price == 0) (int_le z bound.limit) refl refl obeys.0
    ∙ all_kept rules table series bounds obeys.1

map_none : {A B : Type 0} (f : A → B) (o : Option A) → option_map f o ≡ None → o ≡ None
map_none f None none = refl
map_none f (Some x) none = absurd (none_is_some (f x) (sym none))

pub broken_or_obeys : (rules : Rules) (table : TableView) (series : List ℤ) (bounds : List Bound) (result : Option BoundName) → result ≡ first_broken rules table bounds series
    → (result ≡ None) ↔ Obeys (places table) series (priced rules bounds)
broken_or_obeys rules table series bounds result is = (
  λ none. none_broken rules table series bounds (map_none (λ (bound : Bound). bound.name) (find (is_broken rules table series) bounds) (sym is ∙ none)),
  λ obeys. is ∙ ap (option_map (λ (bound : Bound). bound.name)) (all_kept rules table series bounds obeys),
)
