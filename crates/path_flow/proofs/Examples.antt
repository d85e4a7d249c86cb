-- Networks of readings that come one after another, and of bounds between them.
use Rattle.std.proofs.Common.{◌≡◌, ◌≢◌, ℕ, zero, suc, ◌+◌, ◌*◌, ◌^◌, ◌<◌, ◌≤◌, ℤ, pos, List, [], ◌∷◌, ◌++◌, length, get_or, refl, sym, ap, ◌∙◌, subst, ⊎_elim, arith, if◌then◌else◌, ◌==◌}
use Rattle.std.proofs.lemmas.Bool.{cases_eq, ne_eqb}
use Rattle.std.specs.Prelude.{unsigned_abs, Contains}
use Rattle.std.specs.List.{AllByRecursion}
use Rattle.std.proofs.lemmas.List.{length-append, length_push, get_or_append_left, get_or-append-add}
use Rattle.std.proofs.lemmas.List.Elements.{Contains-append_left, Contains-append_right}
use Rattle.words.specs.Lists.{Distinct}
use Rattle.words.proofs.Lists.{all_weaker, all_push, contains_first, distinct_push}
use Rattle.screen_model.specs.declared.place.Place.{Place}
use Rattle.screen_model.specs.declared.place.End.{End}
use Rattle.screen_model.specs.declared.place.End.TheVariants.{Zero, At}
use Rattle.screen_model.specs.declared.bound.Bound.{Bound}
use Rattle.screen_model.specs.declared.bound.Side.TheVariants.{Up}
use Rattle.screen_model.specs.Series.{IsEnd}
use Rattle.screen_model.specs.Obeys.{Priced, HasEnds, with_prices}
use Rattle.flow_core.specs.declared.limits.TheConstants.{MOST_PRICE, MOST_WEIGHT, MOST_VALUE}
use Rattle.flow_core.specs.Layout.{HasBound, IsRanged}

-- the place of the reading in a row
abbrev pub in_row : ℕ → Place
in_row row = record { row = row; col = 2 }

-- a bound between these ends
abbrev pub between : End → End → ℤ → Bound
between first second limit = record { name = record { rule = 1; from_row = 1; to_row = 1; col = 2; side = Up }; first = first; second = second; limit = limit }

abbrev pub at_most : Place → Bound
at_most p = between Zero (At p) (pos (10 ^ 15))

abbrev pub at_least : Place → Bound
at_least p = between (At p) Zero (pos (10 ^ 15))

abbrev free : Bound → Priced
free bound = record { bound = bound; price = 0 }

-- what is asked of the lists of a network's problem
pub record AreReadings (count : ℕ) (places : List Place) (values : List ℤ) (weights : List ℕ) (bounds : List Bound) (prices : List ℕ) : Type 0 where
  pub before : AllByRecursion (λ p. p.row ≤ count) places
  pub distinct : Distinct places
  pub placed : length places ≡ count
  pub each : (i : ℕ) → i < count → Contains places (in_row (suc i))
  pub valued : length values ≡ count
  pub weighted : length weights ≡ count
  pub priced : length prices ≡ length bounds
  pub ends : AllByRecursion (HasEnds places) bounds
  pub ranged : AllByRecursion (IsRanged (with_prices bounds prices)) places
  pub values_small : AllByRecursion (λ value. unsigned_abs value ≤ MOST_VALUE) values
  pub weights_small : AllByRecursion (λ weight. weight ≤ MOST_WEIGHT) weights
  pub prices_small : AllByRecursion (λ price. price ≤ MOST_PRICE) prices
  pub limits_small : AllByRecursion (λ bound. unsigned_abs bound.limit ≤ 4 * 10 ^ 15) bounds

-- ---- one bound more

with_prices_push : (bounds : List Bound) (prices : List ℕ) (bound : Bound) (price : ℕ) → length prices ≡ length bounds
    → with_prices (bounds ++ bound ∷ []) (prices ++ price ∷ []) ≡ with_prices bounds prices ++ record { bound = bound; price = price } ∷ []
with_prices_push [] [] bound price long = refl
with_prices_push [] (c ∷ prices) bound price long = absurd (omega (arith, long))
with_prices_push (b ∷ bounds) [] bound price long = absurd (omega (arith, long))
with_prices_push (b ∷ bounds) (c ∷ prices) bound price long =
    ap (λ (l : List Priced). record { bound = b; price = c } ∷ l) (with_prices_push bounds prices bound price (omega (arith, long)))

has_more : (bounds more : List Priced) (first second : End) (limit : ℤ) → HasBound bounds first second limit → HasBound (bounds ++ more) first second limit
has_more bounds more first second limit h =
    (h.0, h.1, omega (arith, h.2, length-append bounds more), get_or_append_left bounds more h.1 h.0 h.2 ∙ h.3, h.4)

has_last : (bounds : List Priced) (first second : End) (limit : ℤ) → HasBound (bounds ++ free (between first second limit) ∷ []) first second limit
has_last bounds first second limit =
    let here : length bounds + 0 ≡ length bounds = omega arith in (
      length bounds,
      free (between first second limit),
      omega (arith, length_push bounds (free (between first second limit))),
      ap (λ k. get_or (bounds ++ free (between first second limit) ∷ []) k (free (between first second limit))) (sym here)
          ∙ get_or-append-add bounds (free (between first second limit) ∷ []) 0 (free (between first second limit)),
      (refl, refl, refl, refl),
    )

ranged_more : (places : List Place) (bounds : List Bound) (prices : List ℕ) (bound : Bound) (price : ℕ) → length prices ≡ length bounds
    → AllByRecursion (IsRanged (with_prices bounds prices)) places → AllByRecursion (IsRanged (with_prices (bounds ++ bound ∷ []) (prices ++ price ∷ []))) places
ranged_more places bounds prices bound price long ranged =
    subst (λ (l : List Priced). AllByRecursion (IsRanged l) places) (sym (with_prices_push bounds prices bound price long))
    (all_weaker (IsRanged (with_prices bounds prices)) (IsRanged (with_prices bounds prices ++ record { bound = bound; price = price } ∷ []))
    (λ q r. (has_more (with_prices bounds prices) _ Zero (At q) (pos MOST_VALUE) r.0, has_more (with_prices bounds prices) _ (At q) Zero (pos MOST_VALUE) r.1)) places ranged)

pub one_bound_more : (count : ℕ) (places : List Place) (values : List ℤ) (weights : List ℕ) (bounds : List Bound) (prices : List ℕ) (bound : Bound) (price : ℕ)
    → AreReadings count places values weights bounds prices → IsEnd places bound.first → IsEnd places bound.second → unsigned_abs bound.limit ≤ 4 * 10 ^ 15 → price ≤ MOST_PRICE
    → AreReadings count places values weights (bounds ++ bound ∷ []) (prices ++ price ∷ [])
one_bound_more count places values weights bounds prices bound price is first second limit few = record {
  before = is.before;
  distinct = is.distinct;
  placed = is.placed;
  each = is.each;
  valued = is.valued;
  weighted = is.weighted;
  priced = omega (arith, length_push prices price, length_push bounds bound, is.priced);
  ends = all_push (HasEnds places) bounds bound is.ends (first, second);
  ranged = ranged_more places bounds prices bound price is.priced is.ranged;
  values_small = is.values_small;
  weights_small = is.weights_small;
  prices_small = all_push (λ c. c ≤ MOST_PRICE) prices price is.prices_small few;
  limits_small = all_push (λ (b : Bound). unsigned_abs b.limit ≤ 4 * 10 ^ 15) bounds bound is.limits_small limit;
}

-- ---- one reading more

end_stays : (places : List Place) (p : Place) (end : End) → IsEnd places end → IsEnd (places ++ p ∷ []) end
end_stays places p Zero is = tt
end_stays places p (At q) is = Contains-append_left places (p ∷ []) q is

-- the reading of the next row, and its range
pub one_reading_more : (count : ℕ) (places : List Place) (values : List ℤ) (weights : List ℕ) (bounds : List Bound) (prices : List ℕ) (value : ℤ) (weight : ℕ)
    → AreReadings count places values weights bounds prices → unsigned_abs value ≤ MOST_VALUE → weight ≤ MOST_WEIGHT
    → AreReadings (count + 1) (places ++ in_row (count + 1) ∷ []) (values ++ value ∷ []) (weights ++ weight ∷ [])
    ((bounds ++ at_most (in_row (count + 1)) ∷ []) ++ at_least (in_row (count + 1)) ∷ []) ((prices ++ 0 ∷ []) ++ 0 ∷ [])
one_reading_more count places values weights bounds prices value weight is small few =
    let p = in_row (count + 1) in
    let now = places ++ p ∷ [] in
    let here : Contains now p = Contains-append_right places (p ∷ []) p (contains_first p []) in
    let new : AllByRecursion (λ q. p ≢ q) places =
    all_weaker (λ (q : Place). q.row ≤ count) (λ (q : Place). p ≢ q) (λ q low same. absurd (omega (arith, low, ap (λ (r : Place). r.row) same))) places is.before in
    let one = bounds ++ at_most p ∷ [] in
    let free_one = prices ++ 0 ∷ [] in
    let first_long : length free_one ≡ length one = omega (arith, length_push prices 0, length_push bounds (at_most p), is.priced) in
    let with_one = with_prices_push bounds prices (at_most p) 0 is.priced in
    let with_two = with_prices_push one free_one (at_least p) 0 first_long in
    let up : HasBound (with_prices one free_one) Zero (At p) (pos MOST_VALUE) = subst (λ (l : List Priced). HasBound l Zero (At p) (pos MOST_VALUE)) (sym with_one) (has_last (with_prices bounds prices) Zero (At p) (pos MOST_VALUE)) in
    let both : IsRanged (with_prices (one ++ at_least p ∷ []) (free_one ++ 0 ∷ [])) p =
    subst (λ (l : List Priced). IsRanged l p) (sym with_two)
    (has_more (with_prices one free_one) _ Zero (At p) (pos MOST_VALUE) up, has_last (with_prices one free_one) (At p) Zero (pos MOST_VALUE)) in
    record {
      before = all_push (λ (q : Place). q.row ≤ count + 1) places p (all_weaker (λ (q : Place). q.row ≤ count) (λ (q : Place). q.row ≤ count + 1) (λ q low. omega (arith, low)) places is.before) (omega arith);
      distinct = distinct_push places p new is.distinct;
      placed = omega (arith, length_push places p, is.placed);
      each = λ i below. ⊎_elim
          (λ (last : i ≡ count). subst (λ k. Contains now (in_row k)) (let e : count + 1 ≡ suc i = omega (arith, last) in e) here)
          (λ (other : i ≢ count). Contains-append_left places (p ∷ []) (in_row (suc i)) (is.each i (omega (arith, below, other))))
          (cases_eq i count);
      valued = omega (arith, length_push values value, is.valued);
      weighted = omega (arith, length_push weights weight, is.weighted);
      priced = omega (arith, length_push free_one 0, length_push one (at_least p), first_long);
      ends = all_push (HasEnds now) one (at_least p)
          (all_push (HasEnds now) bounds (at_most p)
          (all_weaker (HasEnds places) (HasEnds now) (λ b ends. (end_stays places p b.first ends.0, end_stays places p b.second ends.1)) bounds is.ends) (tt, here)) (here, tt);
      ranged = all_push (IsRanged (with_prices (one ++ at_least p ∷ []) (free_one ++ 0 ∷ []))) places p
          (ranged_more places one free_one (at_least p) 0 first_long (ranged_more places bounds prices (at_most p) 0 is.priced is.ranged)) both;
      values_small = all_push (λ v. unsigned_abs v ≤ MOST_VALUE) values value is.values_small small;
      weights_small = all_push (λ w. w ≤ MOST_WEIGHT) weights weight is.weights_small few;
      prices_small = all_push (λ c. c ≤ MOST_PRICE) free_one 0 (all_push (λ c. c ≤ MOST_PRICE) prices 0 is.prices_small (omega arith)) (omega arith);
      limits_small = all_push (λ (b : Bound). unsigned_abs b.limit ≤ 4 * 10 ^ 15) one (at_least p) (all_push (λ (b : Bound). unsigned_abs b.limit ≤ 4 * 10 ^ 15) bounds (at_most p) is.limits_small (omega arith)) (omega arith);
    }

-- the end of a node among the readings
pub end_is : (count : ℕ) (places : List Place) (values : List ℤ) (weights : List ℕ) (bounds : List Bound) (prices : List ℕ) (node : ℕ) (end : End) → AreReadings count places values weights bounds prices → node ≤ count
    → end ≡ (if node == 0 then Zero else At (in_row node)) → IsEnd places end
end_is count places values weights bounds prices zero end is below same = subst (IsEnd places) (sym same) tt
end_is count places values weights bounds prices (suc i) end is below same =
    subst (IsEnd places) (sym (same ∙ ap (λ b. if b then Zero else At (in_row (suc i))) (ne_eqb (suc i) 0 (λ e. absurd (omega (arith, e)))))) (is.each i (omega (arith, below)))

-- the same of equal lists
pub same_readings : (count : ℕ) (places : List Place) (values : List ℤ) (weights : List ℕ) (bounds : List Bound) (prices : List ℕ) (ps : List Place) (vs : List ℤ) (ws : List ℕ) (bs : List Bound) (cs : List ℕ)
    → AreReadings count ps vs ws bs cs → places ≡ ps → values ≡ vs → weights ≡ ws → bounds ≡ bs → prices ≡ cs → AreReadings count places values weights bounds prices
same_readings count places values weights bounds prices ps vs ws bs cs are p v w b c =
    subst (λ x. AreReadings count x values weights bounds prices) (sym p)
    (subst (λ x. AreReadings count ps x weights bounds prices) (sym v)
    (subst (λ x. AreReadings count ps vs x bounds prices) (sym w)
    (subst (λ x. AreReadings count ps vs ws x prices) (sym b)
    (subst (λ x. AreReadings count ps vs ws bs x) (sym c) are))))
