-- The items of the flow in a network.
use Rattle.std.proofs.Common.{◌≡◌, ℕ, zero, suc, ◌+◌, ◌<◌, ◌≤◌, eqb, cond, ℤ, pos, negsuc, ◌≤ℤ◌, List, [], ◌∷◌, ◌++◌, length, map, sum, get_or, take, count_by, refl, sym, ap, ◌∙◌, subst, arith}
use Rattle.std.specs.List.{AllByRecursion, AllZip}
use Rattle.std.proofs.lemmas.Int.{ints}
use Rattle.std.proofs.lemmas.Bool.{cond-false, ne_eqb}
use Rattle.std.proofs.lemmas.List.Sums.{sum_by-cons}
use Rattle.words.specs.Lists.{IsPart, none, kept, left_out}
use Rattle.screen_model.specs.declared.bound.Bound.{Bound}
use Rattle.screen_model.specs.declared.bound.BoundName.{BoundName}
use Rattle.screen_model.specs.declared.bound.FlowItem.{FlowItem}
use Rattle.screen_model.specs.Obeys.{Priced, with_prices}
use Rattle.screen_model.specs.Names.{names_of, with_item, items_of}
use Rattle.flow_core.specs.Layout.{capacity_at_price}
use Rattle.flow_core.specs.State.{IsWithin, is_flowing}

-- ---- one item more

with_item_before : (name : BoundName) (amount : ℤ) (items more : List FlowItem) → with_item name amount items ++ more ≡ with_item name amount (items ++ more)
with_item_before name (pos zero) items more = refl
with_item_before name (pos (suc n)) items more = refl
with_item_before name (negsuc n) items more = refl

pub items_more : (bounds : List Bound) (prices : List ℕ) (flow : List ℤ) (k : ℕ) (d : Bound) → k < length bounds → k < length flow
    → items_of (take (k + 1) (with_prices bounds prices)) (take (k + 1) flow) ≡ items_of (take k (with_prices bounds prices)) (take k flow) ++ with_item (get_or bounds k d).name (get_or flow k (pos 0)) []
items_more [] prices flow k d below long = absurd (omega arith)
items_more (bound ∷ bounds) prices [] k d below long = absurd (omega arith)
items_more (bound ∷ bounds) [] (amount ∷ flow) zero d below long = refl
items_more (bound ∷ bounds) (price ∷ prices) (amount ∷ flow) zero d below long = refl
items_more (bound ∷ bounds) [] (amount ∷ flow) (suc k) d below long =
    let more : suc k + 1 ≡ suc (k + 1) = omega arith in
    (λ i. items_of (take (more i) (with_prices (bound ∷ bounds) [])) (take (more i) (amount ∷ flow)))
    ∙ ap (with_item bound.name amount) (items_more bounds [] flow k d (omega arith) (omega arith)) ∙ sym (with_item_before bound.name amount (items_of (take k (with_prices bounds [])) (take k flow)) (with_item (get_or bounds k d).name (get_or flow k (pos 0)) []))
items_more (bound ∷ bounds) (price ∷ prices) (amount ∷ flow) (suc k) d below long =
    let more : suc k + 1 ≡ suc (k + 1) = omega arith in
    (λ i. items_of (take (more i) (with_prices (bound ∷ bounds) (price ∷ prices))) (take (more i) (amount ∷ flow)))
    ∙ ap (with_item bound.name amount) (items_more bounds prices flow k d (omega arith) (omega arith)) ∙ sym (with_item_before bound.name amount (items_of (take k (with_prices bounds prices)) (take k flow)) (with_item (get_or bounds k d).name (get_or flow k (pos 0)) []))

-- ---- what holds of all items

-- they stand in the order of the bounds
pub items_in_order : (bounds : List Priced) (flow : List ℤ) → length flow ≡ length bounds → IsPart (map (λ item. item.name) (items_of bounds flow)) (names_of bounds)
items_in_order [] [] long = none
items_in_order [] (amount ∷ flow) long = absurd (omega arith)
items_in_order (priced ∷ bounds) [] long = absurd (omega arith)
items_in_order (priced ∷ bounds) (pos zero ∷ flow) long = left_out (items_in_order bounds flow (omega arith))
items_in_order (priced ∷ bounds) (pos (suc n) ∷ flow) long = kept (items_in_order bounds flow (omega arith))
items_in_order (priced ∷ bounds) (negsuc n ∷ flow) long = kept (items_in_order bounds flow (omega arith))

capacity_within : (unpriced price : ℕ) → price ≤ unpriced → capacity_at_price unpriced price ≤ unpriced
capacity_within unpriced zero low = omega arith
capacity_within unpriced (suc price) low = subst (λ c. c ≤ unpriced) (sym (cond-false (eqb (suc price) 0) unpriced (suc price) (ne_eqb (suc price) 0 (λ e. absurd (omega arith))))) low

item_within : (name : BoundName) (amount : ℤ) (items : List FlowItem) (most : ℕ) → amount ≤ℤ pos most → AllByRecursion (λ item. item.amount ≤ℤ pos most) items → AllByRecursion (λ item. item.amount ≤ℤ pos most) (with_item name amount items)
item_within name (pos zero) items most here rest = rest
item_within name (pos (suc n)) items most here rest = (here, rest)
item_within name (negsuc n) items most here rest = (here, rest)

-- no amount is above the capacity of a bound without a price
pub items_within : (bounds : List Priced) (flow : List ℤ) (unpriced : ℕ) → sum (map (λ priced. priced.price) bounds) ≤ unpriced
    → AllZip IsWithin (map (capacity_at_price unpriced) (map (λ priced. priced.price) bounds)) flow → AllByRecursion (λ item. item.amount ≤ℤ pos unpriced) (items_of bounds flow)
items_within [] [] unpriced low within = tt
items_within [] (amount ∷ flow) unpriced low within = absurd within
items_within (priced ∷ bounds) [] unpriced low within = absurd within
items_within (priced ∷ bounds) (amount ∷ flow) unpriced low within =
    let prices = map (λ (p : Priced). p.price) bounds in
    let more = sum_by-cons (λ x. x) priced.price prices in
    let capacity = capacity_within unpriced priced.price (omega (arith, more, low)) in
    item_within priced.bound.name amount (items_of bounds flow) unpriced (omega (arith, ints, within.0.1, capacity))
    (items_within bounds flow unpriced (omega (arith, more, low)) within.1)

-- there are as many as flows other than 0
pub count_items : (bounds : List Priced) (flow : List ℤ) → length (items_of bounds flow) ≤ count_by is_flowing flow
count_items [] flow = omega arith
count_items (priced ∷ bounds) [] = omega arith
count_items (priced ∷ bounds) (pos zero ∷ flow) = omega (arith, count_items bounds flow, sum_by-cons (λ amount. cond (is_flowing amount) 1 0) (pos 0) flow)
count_items (priced ∷ bounds) (pos (suc n) ∷ flow) = omega (arith, count_items bounds flow, sum_by-cons (λ amount. cond (is_flowing amount) 1 0) (pos (suc n)) flow)
count_items (priced ∷ bounds) (negsuc n ∷ flow) = omega (arith, count_items bounds flow, sum_by-cons (λ amount. cond (is_flowing amount) 1 0) (negsuc n) flow)

pub count_front : (flow : List ℤ) (k : ℕ) → count_by is_flowing (take k flow) ≤ count_by is_flowing flow
count_front flow zero = omega arith
count_front [] (suc k) = omega arith
count_front (amount ∷ flow) (suc k) =
    omega (arith, count_front flow k, sum_by-cons (λ amount. cond (is_flowing amount) 1 0) amount flow, sum_by-cons (λ amount. cond (is_flowing amount) 1 0) amount (take k flow))
