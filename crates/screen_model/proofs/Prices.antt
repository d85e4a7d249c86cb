-- Lists of bounds that are joined with prices; what a series pays for the bounds that have a price.
use Rattle.std.proofs.Common.{◌≡◌, ℕ, ◌+◌, ◌*◌, Bool, true, false, cond, ℤ, ◌-ℤ◌, List, [], ◌∷◌, length, map, sum, refl, ap, arith}
use Rattle.std.specs.Prelude.{not, ◌==◌}
use Rattle.std.proofs.lemmas.Bool.{eqb-true}
use Rattle.std.proofs.lemmas.List.Sums.{sum_by-cons}
use Rattle.screen_model.specs.declared.place.Place.{Place}
use Rattle.screen_model.specs.declared.bound.Bound.{Bound}
use Rattle.screen_model.specs.Obeys.{Priced, rise, with_prices}
use Rattle.screen_model.specs.Cost.{above_zero, payment}
use Rattle.screen_model.specs.Names.{names_of}
use Rattle.screen_model.specs.Prices.{PricesKeepBounds, PricesByBound, ZeroPrices}
use Rattle.screen_model.specs.Parts.{bounds_with_price}

-- ---- bounds joined with prices

same_bounds : (bounds : List Bound) (prices : List ℕ) → map (λ priced. priced.bound) (with_prices bounds prices) ≡ bounds
same_bounds [] prices = refl
same_bounds (bound ∷ bounds) [] = ap (λ bs. bound ∷ bs) (same_bounds bounds [])
same_bounds (bound ∷ bounds) (price ∷ prices) = ap (λ bs. bound ∷ bs) (same_bounds bounds prices)

same_names : (bounds : List Bound) (prices : List ℕ) → names_of (with_prices bounds prices) ≡ map (λ bound. bound.name) bounds
same_names [] prices = refl
same_names (bound ∷ bounds) [] = ap (λ names. bound.name ∷ names) (same_names bounds [])
same_names (bound ∷ bounds) (price ∷ prices) = ap (λ names. bound.name ∷ names) (same_names bounds prices)

same_prices : (bounds : List Bound) (prices : List ℕ) → length prices ≡ length bounds → map (λ priced. priced.price) (with_prices bounds prices) ≡ prices
same_prices [] [] long = refl
same_prices [] (price ∷ prices) long = absurd (omega arith)
same_prices (bound ∷ bounds) [] long = absurd (omega arith)
same_prices (bound ∷ bounds) (price ∷ prices) long = ap (λ ps. price ∷ ps) (same_prices bounds prices (omega arith))

pub keep : PricesKeepBounds
keep bounds prices = (same_bounds bounds prices, (same_names bounds prices, same_prices bounds prices))

pub by_bound : PricesByBound
by_bound price_of [] = refl
by_bound price_of (bound ∷ bounds) = let rest = by_bound price_of bounds in λ i. record { bound = bound; price = price_of bound } ∷ rest i

pub zeroes : ZeroPrices
zeroes [] prices all = refl
zeroes (bound ∷ bounds) [] all = let rest = zeroes bounds [] tt in λ i. record { bound = bound; price = 0 } ∷ rest i
zeroes (bound ∷ bounds) (price ∷ prices) all =
    let free = all.0 in
    let rest = zeroes bounds prices all.1 in
    λ i. record { bound = bound; price = free i } ∷ rest i

-- ---- what is paid

-- where a bound has no price and is paid nothing, the sum is the same without it
one_paid : (pay : Priced → ℕ) (priced : Priced) (bounds : List Priced) (unpriced : Bool) → (unpriced ≡ true → pay priced ≡ 0)
    → sum (map pay (cond (not unpriced) (priced ∷ bounds) bounds)) ≡ pay priced + sum (map pay bounds)
one_paid pay priced bounds true free = omega (arith, free refl)
one_paid pay priced bounds false free = sum_by-cons (λ x. x) (pay priced) (map pay bounds)

-- a series pays for the bounds that have a price what it pays for all
pub paid_for_priced : (places : List Place) (series : List ℤ) (bounds : List Priced) → sum (map (payment places series) (bounds_with_price bounds)) ≡ sum (map (payment places series) bounds)
paid_for_priced places series [] = refl
paid_for_priced places series (priced ∷ bounds) =
    let pay = payment places series in
    let one = one_paid pay priced (bounds_with_price bounds) (priced.price == 0) (λ free. omega (arith, ap (λ price. price * above_zero (rise places series priced.bound -ℤ priced.bound.limit)) (eqb-true priced.price 0 free))) in
    omega (arith, one, paid_for_priced places series bounds, sum_by-cons (λ x. x) (pay priced) (map pay bounds))
