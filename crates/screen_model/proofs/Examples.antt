-- Worked examples of series, flows and blocked cycles. All readings stand in column 2, one second apart, from row 1 on.
use Rattle.std.proofs.Common.{◌≡◌, ℕ, ◌^◌, ◌≤◌, ℤ, pos, neg_ℤ, ◌≤ℤ◌, List, [], ◌∷◌, ◌++◌, map, replicate, refl, arith, rules}
use Rattle.std.proofs.lemmas.Int.{ints}
use Rattle.screen_model.specs.declared.place.Place.{Place}
use Rattle.screen_model.specs.declared.place.End.{End}
use Rattle.screen_model.specs.declared.place.End.TheVariants.{Zero, At}
use Rattle.screen_model.specs.declared.bound.Side.{Side}
use Rattle.screen_model.specs.declared.bound.Side.TheVariants.{Up, Down}
use Rattle.screen_model.specs.declared.bound.BoundName.{BoundName}
use Rattle.screen_model.specs.declared.bound.FlowItem.{FlowItem}
use Rattle.words.specs.Lists.{IsPart, kept, left_out, none, total}
use Rattle.words.proofs.Lists.{all_at}
use Rattle.screen_model.specs.Obeys.{Priced, Obeys, with_prices}
use Rattle.screen_model.specs.Cost.{Problem, change, paid, cost}
use Rattle.screen_model.specs.Flow.{IsAdmissible, pull, dual_value}
use Rattle.screen_model.specs.Names.{names_of, IsFlowOver, amounts_of, items_of, bounds_named}
use Rattle.screen_model.specs.Parts.{IsExtended, no_bounds, same_amount, no_amount, bounds_with_price}
use Rattle.screen_model.specs.Best.{IsBest, IsBestByItems, IsBlocked, IsBlockedByNames}

-- the place of the reading in a row
abbrev reading : ℕ → Place
reading row = record { row = row; col = 2 }

-- the end of a bound at the reading in a row
abbrev end_at : ℕ → End
end_at row = At (reading row)

abbrev named : ℕ → ℕ → ℕ → Side → BoundName
named rule from to side = record { rule = rule; from_row = from; to_row = to; col = 2; side = side }

-- the reading in the second row lies at most so far above the one in the first
abbrev rise_within : ℕ → ℤ → ℕ → ℕ → Priced
rise_within price limit from to =
    record { bound = record { name = named 1 from to Up; first = end_at from; second = end_at to; limit = limit }; price = price }

-- the reading in the second row lies at most so far below the one in the first
abbrev fall_within : ℕ → ℤ → ℕ → ℕ → Priced
fall_within price limit from to =
    record { bound = record { name = named 1 from to Down; first = end_at to; second = end_at from; limit = limit }; price = price }

-- the reading in a row is at most this value
abbrev at_most : ℕ → ℤ → ℕ → Priced
at_most rule value row =
    record { bound = record { name = named rule row row Up; first = Zero; second = end_at row; limit = value }; price = 0 }

-- the reading in a row is at least this value
abbrev at_least : ℕ → ℤ → ℕ → Priced
at_least rule value row =
    record { bound = record { name = named rule row row Down; first = end_at row; second = Zero; limit = neg_ℤ value }; price = 0 }

-- the range of every reading
abbrev range_of : ℕ → List Priced
range_of row = at_most 0 (pos (10 ^ 15)) row ∷ at_least 0 (neg_ℤ (pos (10 ^ 15))) row ∷ []

-- at most 1 a second, up and down, between two rows that are so many seconds apart
abbrev speed : ℕ → ℕ → ℕ → ℕ → List Priced
speed price seconds from to = rise_within price (pos seconds) from to ∷ fall_within price (pos seconds) from to ∷ []

-- Four readings that may rise and fall by at most 1 a second; the third one is a spike.
abbrev spike : Problem
spike = record {
  places = reading 1 ∷ reading 2 ∷ reading 3 ∷ reading 4 ∷ [];
  values = pos 10 ∷ pos 11 ∷ pos 20 ∷ pos 13 ∷ [];
  weights = 1 ∷ 1 ∷ 1 ∷ 1 ∷ [];
  bounds = range_of 1 ++ range_of 2 ++ range_of 3 ++ range_of 4
      ++ speed 0 1 1 2 ++ speed 0 2 1 3 ++ speed 0 3 1 4 ++ speed 0 1 2 3 ++ speed 0 2 2 4 ++ speed 0 1 3 4;
}

-- the spike brought down to the line of the others
abbrev flattened : List ℤ
flattened = pos 10 ∷ pos 11 ∷ pos 12 ∷ pos 13 ∷ []

-- 1 on the limit of the rise from row 2 to row 3, which is the fifteenth of the twenty bounds
abbrev spike_flow : List ℤ
spike_flow = replicate 14 (pos 0) ++ pos 1 ∷ replicate 5 (pos 0)

-- the same flow by the name of its bound
abbrev spike_items : List FlowItem
spike_items = record { name = named 1 2 3 Up; amount = pos 1 } ∷ []

spike_items-tell : amounts_of spike_items spike.bounds ≡ spike_flow
spike_items-tell = refl

spike_flow-items : items_of spike.bounds spike_flow ≡ spike_items
spike_flow-items = refl

spike_items-over : IsFlowOver spike.bounds spike_items
spike_items-over = record {
  named = ((14, omega arith, refl), tt);
  distinct = (tt, tt);
  some = (omega (arith, ints), tt);
}

flattened-change : change spike flattened ≡ 8
flattened-change = refl

flattened-obeys : Obeys spike.places flattened spike.bounds
flattened-obeys = search rules

spike_flow-leaves : pull spike.bounds spike_flow (reading 2) ≡ pos 1
spike_flow-leaves = refl

spike_flow-enters : pull spike.bounds spike_flow (reading 3) ≡ neg_ℤ (pos 1)
spike_flow-enters = refl

spike_flow-worth : dual_value spike spike_flow ≡ pos 8
spike_flow-worth = refl

spike_flow-admissible : IsAdmissible spike spike_flow
spike_flow-admissible = record { amounts = search rules; pulls = search rules }

flattened-best : IsBest spike flattened spike_flow
flattened-best = record {
  sound = record { distinct = search rules; valued = refl; weighted = refl };
  whole = refl;
  obeys = flattened-obeys;
  admissible = spike_flow-admissible;
  equal = refl;
}

flattened-best_by_items : IsBestByItems spike flattened spike_items
flattened-best_by_items = record { over = spike_items-over; best = flattened-best }

-- 1 on the limit of the rise from row 1 to row 3 shows it as well
flattened-best_too : IsBest spike flattened (amounts_of (record { name = named 1 1 3 Up; amount = pos 1 } ∷ []) spike.bounds)
flattened-best_too = record {
  sound = record { distinct = search rules; valued = refl; weighted = refl };
  whole = refl;
  obeys = flattened-obeys;
  admissible = record { amounts = search rules; pulls = search rules };
  equal = refl;
}

-- Two readings of weight 5 that may rise and fall by at most 1 a second; breaking that costs 1 for each unit.
abbrev jump : Problem
jump = record {
  places = reading 1 ∷ reading 2 ∷ [];
  values = pos 0 ∷ pos 100 ∷ [];
  weights = 5 ∷ 5 ∷ [];
  bounds = range_of 1 ++ range_of 2 ++ speed 1 1 1 2;
}

-- 1 on the limit of the rise, as much as its price
abbrev jump_flow : List ℤ
jump_flow = pos 0 ∷ pos 0 ∷ pos 0 ∷ pos 0 ∷ pos 1 ∷ pos 0 ∷ []

-- a limit with a price may be broken
jump-obeys : Obeys jump.places jump.values jump.bounds
jump-obeys = search rules

jump-change : change jump jump.values ≡ 0
jump-change = refl

jump-paid : paid jump jump.values ≡ 99
jump-paid = refl

jump-cost : cost jump jump.values ≡ 99
jump-cost = refl

jump_flow-worth : dual_value jump jump_flow ≡ pos 99
jump_flow-worth = refl

jump_flow-admissible : IsAdmissible jump jump_flow
jump_flow-admissible = record { amounts = search rules; pulls = search rules }

jump-best : IsBest jump jump.values jump_flow
jump-best = record {
  sound = record { distinct = search rules; valued = refl; weighted = refl };
  whole = refl;
  obeys = jump-obeys;
  admissible = jump_flow-admissible;
  equal = refl;
}

-- 2 is more than the price, and would be no more than the weights
jump_flow-too_great : IsAdmissible jump (pos 0 ∷ pos 0 ∷ pos 0 ∷ pos 0 ∷ pos 2 ∷ pos 0 ∷ []) → ⊥
jump_flow-too_great admissible =
    let at_price : pos 2 ≤ℤ pos 1 = admissible.amounts.1.1.1.1.0.1 (omega arith) in
    omega (arith, ints)

-- no flow is admissible where a reading has no weight
jump_flow-no_weight : IsAdmissible (record jump { weights = 5 ∷ [] }) jump_flow → ⊥
jump_flow-no_weight admissible = admissible.pulls.1

-- the flow of the two limits of the change alone, extended over all bounds
jump_flow-extended : IsExtended (speed 1 1 1 2) (pos 1 ∷ pos 0 ∷ []) jump.bounds jump_flow
jump_flow-extended = no_amount (no_amount (no_amount (no_amount (same_amount (same_amount no_bounds)))))

jump-part : IsPart (speed 1 1 1 2) jump.bounds
jump-part = left_out (left_out (left_out (left_out (kept (kept none)))))

-- it has all bounds that have a price
jump-part_prices : bounds_with_price (speed 1 1 1 2) ≡ bounds_with_price jump.bounds
jump-part_prices = refl

-- a limit without a price may not be broken
jump-breaks : Obeys jump.places jump.values (speed 0 1 1 2) → ⊥
jump-breaks obeys = let rise : pos 100 ≤ℤ pos 1 = obeys.0 refl in omega (arith, ints)

-- The same two readings, each of weight 2, and two bounds of one name: a rise of at most 1 and one of at most 2, both at
-- a price of 1.
abbrev twins : Problem
twins = record {
  places = reading 1 ∷ reading 2 ∷ [];
  values = pos 0 ∷ pos 100 ∷ [];
  weights = 2 ∷ 2 ∷ [];
  bounds = with_prices ((rise_within 0 (pos 1) 1 2).bound ∷ (rise_within 0 (pos 2) 1 2).bound ∷ []) (1 ∷ 1 ∷ []);
}

-- what is paid is counted for each, and so is what flows: 1 on each of them is no more than its price
twins-best : IsBest twins twins.values (pos 1 ∷ pos 1 ∷ [])
twins-best = record {
  sound = record { distinct = search rules; valued = refl; weighted = refl };
  whole = refl;
  obeys = search rules;
  admissible = record { amounts = search rules; pulls = search rules };
  equal = refl;
}

twins-cost : cost twins twins.values ≡ 197
twins-cost = refl

-- the reading in a row keeps the value that was read
abbrev trusted : ℤ → ℕ → List Priced
trusted value row = at_most 2 value row ∷ at_least 2 value row ∷ []

-- the same two readings, both trusted, and no price
abbrev trusted_jump : List Priced
trusted_jump = range_of 1 ++ range_of 2 ++ speed 0 1 1 2 ++ trusted (pos 0) 1 ++ trusted (pos 100) 2

-- from Zero up to reading 1, up to reading 2, and down to Zero again
abbrev steps : List BoundName
steps = named 2 1 1 Up ∷ named 1 1 2 Up ∷ named 2 2 2 Down ∷ []

steps-bounds : bounds_named steps trusted_jump ≡ at_most 2 (pos 0) 1 ∷ rise_within 0 (pos 1) 1 2 ∷ at_least 2 (pos 100) 2 ∷ []
steps-bounds = refl

steps-sum : total (map (λ priced. priced.bound.limit) (bounds_named steps trusted_jump)) ≡ neg_ℤ (pos 99)
steps-sum = refl

steps-blocked : IsBlocked trusted_jump (bounds_named steps trusted_jump)
steps-blocked = record {
  some = omega arith;
  members = ((6, omega arith, refl), ((4, omega arith, refl), ((9, omega arith, refl), tt)));
  unpriced = (refl, (refl, (refl, tt)));
  closed = refl;
  simple = search rules;
  negative = omega (arith, ints);
}

steps-blocked_by_names : IsBlockedByNames trusted_jump steps
steps-blocked_by_names = record {
  named = ((6, omega arith, refl), ((4, omega arith, refl), ((9, omega arith, refl), tt)));
  blocked = steps-blocked;
}

-- the same steps, and between them a name that no bound bears
abbrev stray_steps : List BoundName
stray_steps = named 2 1 1 Up ∷ named 3 1 2 Up ∷ named 1 1 2 Up ∷ named 2 2 2 Down ∷ []

stray_steps-bounds : bounds_named stray_steps trusted_jump ≡ bounds_named steps trusted_jump
stray_steps-bounds = refl

stray_steps-refused : IsBlockedByNames trusted_jump stray_steps → ⊥
stray_steps-refused blocked =
    let known = all_at (λ name. name.rule ≤ 2) (names_of trusted_jump) (named 3 1 2 Up) (search rules) blocked.named.1.0 in
    omega (arith, known)
