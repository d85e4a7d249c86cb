-- To be believed: laws of bounds that are joined with prices, and of items that keep to the prices.
use Rattle.std.specs.Prelude.{◌≡◌, ◌↔◌, ℕ, List, length, map}
use Rattle.std.specs.List.{AllByRecursion, AllZip}
use Rattle.screen_model.specs.declared.bound.Bound.{Bound}
use Rattle.screen_model.specs.declared.bound.FlowItem.{FlowItem}
use Rattle.words.specs.Lists.{Distinct}
use Rattle.screen_model.specs.Obeys.{Priced, with_prices, without_prices}
use Rattle.screen_model.specs.Flow.{CanCarry}
use Rattle.screen_model.specs.Names.{names_of, bounds_named, amounts_of, IsFlowOver}

-- Joined with prices, the bounds and their names are what they were, and so are the prices where there is one for each
-- bound.
abbrev pub PricesKeepBounds : Type 0
PricesKeepBounds = (bounds : List Bound) (prices : List ℕ)
    → (map (λ priced. priced.bound) (with_prices bounds prices) ≡ bounds)
    × ((names_of (with_prices bounds prices) ≡ map (λ bound. bound.name) bounds)
    × (length prices ≡ length bounds → map (λ priced. priced.price) (with_prices bounds prices) ≡ prices))

-- Prices that are given by the bounds stand each at its bound.
abbrev pub PricesByBound : Type 0
PricesByBound = (price_of : Bound → ℕ) (bounds : List Bound)
    → with_prices bounds (map price_of bounds) ≡ map (λ bound. record { bound = bound; price = price_of bound }) bounds

-- Joined with prices that are all 0, bounds have no price.
abbrev pub ZeroPrices : Type 0
ZeroPrices = (bounds : List Bound) (prices : List ℕ) → AllByRecursion (λ price. price ≡ 0) prices → with_prices bounds prices ≡ without_prices bounds

-- The bounds can carry the flow that items tell exactly where each item's bound can carry the item's amount.
abbrev pub ItemsWithinPrices : Type 0
ItemsWithinPrices = (bounds : List Priced) (items : List FlowItem) → Distinct (names_of bounds) → IsFlowOver bounds items
    → AllZip CanCarry bounds (amounts_of items bounds)
    ↔ AllZip CanCarry (bounds_named (map (λ item. item.name) items) bounds) (map (λ item. item.amount) items)
