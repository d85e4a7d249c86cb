-- There is a weight for each reading, and no weight and no price is too great.
use Rattle.std.proofs.Common.{◌≡◌, ℕ, suc, ◌≤◌, ℤ, Bool, true, false, cond, List, [], ◌∷◌, length, get_or, Option, Some, None, refl, ◌∙◌, arith}
use Rattle.std.specs.Prelude.{◌==◌, ◌&&◌}
use Rattle.std.specs.List.{AllByRecursion, flat_map}
use Rattle.std.proofs.lemmas.List.{length-append, length-map}
use Rattle.words.proofs.Lists.{all_map}
use Rattle.screen_model.specs.declared.place.Place.{Place}
use Rattle.rule_keys.specs.declared.key.TableKind.TheVariants as kind
use Rattle.rule_file.specs.Numbers.{Rule, speed, swing, drift, range, trust, weight, between, count_before, rule_of, rules_in_order}
use Rattle.rule_file.specs.declared.rules.Rules.{Rules}
use Rattle.rule_file.specs.declared.rules.WeightRule.{WeightRule}
use Rattle.pair_bounds.specs.Pairs.{is_within}
use Rattle.series_rows.specs.declared.cell.RowReading.{RowReading}
use Rattle.series_rows.specs.Row.{RowView, columns}
use Rattle.series_csv.specs.File.{TableView}
use Rattle.series_csv.specs.Readings.{places, places_from, places_in}
use Rattle.bound_maker.specs.Bounds.{Ruled, price_if, price_of_number, with_columns}
use Rattle.bound_maker.specs.Costs.{weight_of, weights, weights_in}
use Rattle.bound_maker.specs.Weighed.{covering, last_or}
use Rattle.bound_maker.proofs.Named.{all_flat}
use Rattle.bound_maker.proofs.Weights.{weight_is}

-- ---- a weight for each reading

abbrev place_at : ℕ → ℕ → Place
place_at row col = record { row = row; col = col }

weighted_from : (ruled : List Ruled) (n : ℕ) (rows : List RowView) → length (flat_map (weights_in ruled) rows) ≡ length (places_from n rows)
weighted_from ruled n [] = refl
weighted_from ruled n (row ∷ rows) =
    let weighed = length-append (weights_in ruled row) (flat_map (weights_in ruled) rows) in
    let placed = length-append (places_in n (columns row.readings)) (places_from (suc n) rows) in
    let weights_long : length (weights_in ruled row) ≡ length row.readings = length-map row.readings (λ (reading : RowReading). weight_of ruled reading.col row.ticks) in
    let places_long : length (places_in n (columns row.readings)) ≡ length row.readings = length-map (columns row.readings) (place_at n) ∙ length-map row.readings (λ (reading : RowReading). reading.col) in
    let rest = weighted_from ruled (suc n) rows in
    omega (arith, weighed, placed, weights_long, places_long, rest)

pub all_weighted : (rules : Rules) (table : TableView) → length (weights rules table) ≡ length (places table)
all_weighted rules table = weighted_from (with_columns 1 (rules_in_order rules) table.header.sensor_cols) 1 table.rows

-- ---- no weight is too great

abbrev IsLight : ℕ → Type 0
IsLight n = n ≤ 1000

last_light : (other : ℕ) (ns : List ℕ) → other ≤ 1000 → AllByRecursion IsLight ns → last_or other ns ≤ 1000
last_light other [] h all = h
last_light other (n ∷ ns) h all = last_light n ns all.0 all.1

light_step : (t : Bool) (w : ℕ) (rest : List ℕ) → w ≤ 1000 → AllByRecursion IsLight rest → AllByRecursion IsLight (cond t (w ∷ rest) rest)
light_step true w rest h all = (h, all)
light_step false w rest h all = all

covering_light : (place : ℕ) (cols : List ℕ) (rules : List WeightRule) (col : ℕ) (ticks : ℤ) → AllByRecursion IsLight (covering place cols rules col ticks)
covering_light place cols [] col ticks = tt
covering_light place cols (rule ∷ rules) col ticks =
    let most = rule.most in
    light_step ((get_or cols place 0 == col) && is_within rule.from rule.to ticks) rule.weight (covering (suc place) cols rules col ticks) (omega (arith, most)) (covering_light (suc place) cols rules col ticks)

weight_light : (rules : Rules) (cols : List ℕ) (col : ℕ) (ticks : ℤ) → weight_of (with_columns 1 (rules_in_order rules) cols) col ticks ≤ 1000
weight_light rules cols col ticks =
    let is = weight_is rules cols col ticks in
    let last = last_light 1 (covering (count_before kind.Weight rules) cols rules.weights col ticks) (omega arith) (covering_light (count_before kind.Weight rules) cols rules.weights col ticks) in
    omega (arith, is, last)

each : {A : Type 0} (P : A → Type 0) → ((x : A) → P x) → (xs : List A) → AllByRecursion P xs
each P of [] = tt
each P of (x ∷ xs) = (of x, each P of xs)

pub weights_light : (rules : Rules) (table : TableView) → AllByRecursion (λ weight. weight ≤ 1000) (weights rules table)
weights_light rules table =
    let cols = table.header.sensor_cols in
    let ruled = with_columns 1 (rules_in_order rules) cols in
    all_flat IsLight (weights_in ruled) table.rows
    (λ row.
    all_map IsLight (λ (reading : RowReading). weight_of ruled reading.col row.ticks) row.readings
    (each (λ (reading : RowReading). weight_of ruled reading.col row.ticks ≤ 1000) (λ reading. weight_light rules cols reading.col row.ticks) row.readings))

-- ---- no price is too great

price_most : (found : Option Rule) → price_if found ≤ 1000
price_most None = omega arith
price_most (Some (speed rule)) = let most = rule.price_most in omega (arith, most)
price_most (Some (swing rule)) = let most = rule.price_most in omega (arith, most)
price_most (Some (drift rule)) = let most = rule.price_most in omega (arith, most)
price_most (Some (range rule)) = let most = rule.price_most in omega (arith, most)
price_most (Some (trust rule)) = omega arith
price_most (Some (weight rule)) = omega arith
price_most (Some (between rule)) = let most = rule.price_most in omega (arith, most)

pub prices_most : (rules : Rules) (number : ℕ) → price_of_number rules number ≤ 1000
prices_most rules number = price_most (rule_of rules number)
