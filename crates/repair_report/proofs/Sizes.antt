-- What a series that obeys costs and pays is not too great.
use Rattle.std.proofs.Common.{◌≡◌, ℕ, ◌*◌, ◌^◌, ◌≤◌, ℤ, pos, negsuc, neg_ℤ, ◌-ℤ◌, ◌≤ℤ◌, List, [], ◌∷◌, ◌++◌, length, map, refl, arith}
use Rattle.std.specs.Prelude.{unsigned_abs}
use Rattle.std.specs.List.{AllByRecursion}
use Rattle.std.proofs.lemmas.Int.{ints}
use Rattle.std.proofs.lemmas.List.Sums.{sum_by-cons}
use Rattle.std.proofs.lemmas.Nat.{mul-le}
use Rattle.words.proofs.Lists.{all_at}
use Rattle.words.proofs.Products.{size_within, within_size}
use Rattle.fix_point.specs.declared.scale.TheConstants.{MOST_UNITS}
use Rattle.screen_model.specs.declared.bound.Bound.{Bound}
use Rattle.screen_model.specs.declared.place.End.{End}
use Rattle.screen_model.specs.declared.place.End.TheVariants.{At, Zero}
use Rattle.screen_model.specs.declared.place.Place.{Place}
use Rattle.screen_model.specs.Cost.{above_zero, cost, paid, payment}
use Rattle.screen_model.specs.Obeys.{HasEnds, Obeys, rise}
use Rattle.screen_model.specs.Series.{IsEnd, reading_at, value_at}
use Rattle.rule_file.specs.declared.rules.Rules.{Rules}
use Rattle.series_csv.specs.File.{TableView}
use Rattle.series_csv.specs.Readings.{places, values}
use Rattle.bound_maker.specs.Bounds.{made_bounds, price_of_number, priced, size_bounds}
use Rattle.bound_maker.specs.Costs.{problem_with, weights, whole_problem}
use Rattle.bound_maker.specs.Laws.{BestOverMade}
use Rattle.bound_maker.specs.Sound.{IsSound}
use Rattle.repair_report.specs.Repairs.{repaired}
use Rattle.repair_report.proofs.Tallying.{IsLight, change_small}
use Rattle.repair_report.proofs.Zipped.{change_of_readings, repaired_few}

-- ---- the values of a series that obeys

up_within : (x : ℤ) → (x -ℤ pos 0) ≤ℤ MOST_UNITS → x ≤ℤ pos (10 ^ 15)
up_within x h = omega (arith, ints, h)

down_within : (x : ℤ) → (pos 0 -ℤ x) ≤ℤ neg_ℤ (neg_ℤ MOST_UNITS) → neg_ℤ (pos (10 ^ 15)) ≤ℤ x
down_within x h = omega (arith, ints, h)

module _ (rules : Rules) (ps : List Place) (series : List ℤ) where
  abbrev IsNear : Place → Type 0
  IsNear p = unsigned_abs (reading_at ps series p) ≤ 10 ^ 15

  all_near : (some : List Place) (more : List Bound) → Obeys ps series (priced rules (size_bounds some ++ more)) → AllByRecursion IsNear some
  all_near [] more obeys = tt
  all_near (p ∷ some) more obeys =
      let x = reading_at ps series p in (
        size_within x (10 ^ 15) (down_within x (obeys.1.0 refl)) (up_within x (obeys.0 refl)),
        all_near some more obeys.1.1,
      )

  value_near : (end : End) → AllByRecursion IsNear ps → IsEnd ps end → unsigned_abs (value_at ps series end) ≤ 10 ^ 15
  value_near Zero near is = omega arith
  value_near (At p) near is = all_at IsNear ps p near is

-- ---- what it pays

above_small : (z : ℤ) → above_zero z ≤ unsigned_abs z
above_small (pos n) = omega arith
above_small (negsuc n) = omega arith

excess_small : (first second limit : ℤ) → unsigned_abs first ≤ 10 ^ 15 → unsigned_abs second ≤ 10 ^ 15 → unsigned_abs limit ≤ 4 * 10 ^ 15 → above_zero ((second -ℤ first) -ℤ limit) ≤ 6 * 10 ^ 15
excess_small first second limit f s l =
    let a = within_size first (10 ^ 15) f in
    let b = within_size second (10 ^ 15) s in
    let c = within_size limit (4 * 10 ^ 15) l in
    let z = (second -ℤ first) -ℤ limit in
    let small = size_within z (6 * 10 ^ 15) (omega (arith, ints, a.0, a.1, b.0, b.1, c.0, c.1)) (omega (arith, ints, a.0, a.1, b.0, b.1, c.0, c.1)) in
    omega (arith, above_small z, small)

pub record IsNearBound (places : List Place) (bound : Bound) : Type 0 where
  pub ends : HasEnds places bound
  pub limit : unsigned_abs bound.limit ≤ 4 * 10 ^ 15

both : (ps : List Place) (bounds : List Bound) → AllByRecursion (HasEnds ps) bounds → AllByRecursion (λ bound. unsigned_abs bound.limit ≤ 4 * 10 ^ 15) bounds → AllByRecursion (IsNearBound ps) bounds
both ps [] ends limits = tt
both ps (bound ∷ bounds) ends limits = (record { ends = ends.0; limit = limits.0 }, both ps bounds ends.1 limits.1)

pub made_near : (rules : Rules) (table : TableView) → IsSound rules table → AllByRecursion (IsNearBound (places table)) (made_bounds rules table)
made_near rules table sound = both (places table) (made_bounds rules table) sound.ends sound.limits

module _ (rules : Rules) (table : TableView) (series : List ℤ) where
  abbrev ps : List Place
  ps = places table

  pub near : Obeys ps series (whole_problem rules table).bounds → AllByRecursion (IsNear rules ps series) ps
  near obeys = all_near rules ps series ps _ obeys

  payment_small : (bound : Bound) → AllByRecursion (IsNear rules ps series) ps → IsSound rules table → IsNearBound ps bound
      → payment ps series (record { bound = bound; price = price_of_number rules bound.name.rule }) ≤ 6 * 10 ^ 18
  payment_small bound are sound is =
      let first = value_near rules ps series bound.first are is.ends.0 in
      let second = value_near rules ps series bound.second are is.ends.1 in
      let excess = excess_small (value_at ps series bound.first) (value_at ps series bound.second) bound.limit first second is.limit in
      omega (arith, mul-le (price_of_number rules bound.name.rule) (above_zero (rise ps series bound -ℤ bound.limit)) 1000 (6 * 10 ^ 15) (sound.prices bound.name.rule) excess)

  pub paid_small : (bounds : List Bound) → AllByRecursion (IsNear rules ps series) ps → IsSound rules table → AllByRecursion (IsNearBound ps) bounds
      → paid (problem_with rules table bounds) series ≤ length bounds * (6 * 10 ^ 18)
  paid_small [] are sound all = omega arith
  paid_small (bound ∷ bounds) are sound all =
      let first = payment ps series (record { bound = bound; price = price_of_number rules bound.name.rule }) in
      omega (arith, sum_by-cons (λ (n : ℕ). n) first (map (payment ps series) (priced rules bounds)), payment_small bound are sound all.0, paid_small bounds are sound all.1)

  -- all bounds that are made are few
  pub paid_few : (bounds : List Bound) → AllByRecursion (IsNear rules ps series) ps → IsSound rules table → AllByRecursion (IsNearBound ps) bounds → length bounds ≤ 4000000
      → paid (problem_with rules table bounds) series ≤ 10 ^ 29
  paid_few bounds are sound all few = omega (arith, paid_small bounds are sound all, few)

  pub paid_fits : Obeys ps series (whole_problem rules table).bounds → IsSound rules table → BestOverMade rules table → length (made_bounds rules table) ≤ 4000000 → paid (whole_problem rules table) series ≤ 10 ^ 29
  paid_fits obeys sound best few = omega (arith, best.pays series, paid_few (made_bounds rules table) (near obeys) sound (made_near rules table sound) few)

  -- ---- what it costs

  pub cost_fits : Obeys ps series (whole_problem rules table).bounds → IsSound rules table → BestOverMade rules table → length (made_bounds rules table) ≤ 4000000
      → length (values table) ≡ length ps → length (values table) ≤ 400000 → AllByRecursion IsLight (repaired rules table series) → cost (whole_problem rules table) series ≤ 10 ^ 30
  cost_fits obeys sound best few valued readings light =
      let paid_part = paid_fits obeys sound best few in
      let change = change_of_readings ps (weights rules table) (values table) series sound.weighted valued in
      let small = change_small (repaired rules table series) light in
      let short = repaired_few ps (weights rules table) (values table) series in
      omega (arith, paid_part, change, small, short, readings)
