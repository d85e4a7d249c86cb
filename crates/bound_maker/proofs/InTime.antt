-- The bounds on the values of readings, as a loop adds them.
use Rattle.std.proofs.Common.{◌≡◌, ℕ, ◌+◌, ◌<◌, ℤ, cond, List, [], ◌++◌, length, take, get_or, sym, ap, ◌∙◌}
use Rattle.std.specs.List.{flat_map}
use Rattle.std.proofs.lemmas.List.{flat_map_more, take_more}
use Rattle.screen_model.specs.declared.bound.Bound.{Bound}
use Rattle.pair_bounds.specs.Pairs.{is_within, place_in}
use Rattle.bound_maker.specs.declared.reading.Reading.{Reading}
use Rattle.bound_maker.specs.declared.values.Limits.{Limits}
use Rattle.bound_maker.specs.Bounds.{bounds_in_time, value_bounds}

-- the limits are those of the rule for a value
pub record AreLimits (from to : ℤ) (least most : ℤ → ℤ) (value : ℤ) (limits : Limits) : Type 0 where
  pub from_is : limits.from ≡ from
  pub to_is : limits.to ≡ to
  pub least_is : limits.least ≡ least value
  pub most_is : limits.most ≡ most value

pub in_time_more : (number col : ℕ) (from to : ℤ) (least most : ℤ → ℤ) (readings : List Reading) (i : ℕ) (d : Reading) (limits : Limits) (first old new : List Bound) → i < length readings
    → AreLimits from to least most (get_or readings i d).value limits
    → old ≡ first ++ bounds_in_time number col from to least most (take i readings)
    → new ≡ old ++ cond (is_within limits.from limits.to (get_or readings i d).stamp.ticks) (value_bounds number (place_in col (get_or readings i d).stamp) limits.least limits.most) []
    → new ≡ first ++ bounds_in_time number col from to least most (take (i + 1) readings)
in_time_more number col from to least most readings i d limits first old new h are so_far is =
    let reading = get_or readings i d in
    let f = λ (r : Reading). cond (is_within from to r.stamp.ticks) (value_bounds number (place_in col r.stamp) (least r.value) (most r.value)) [] in
    let here : cond (is_within limits.from limits.to reading.stamp.ticks) (value_bounds number (place_in col reading.stamp) limits.least limits.most) [] ≡ f reading =
    ap (λ (z : ℤ). cond (is_within z limits.to reading.stamp.ticks) (value_bounds number (place_in col reading.stamp) limits.least limits.most) []) are.from_is
    ∙ (ap (λ (z : ℤ). cond (is_within from z reading.stamp.ticks) (value_bounds number (place_in col reading.stamp) limits.least limits.most) []) are.to_is
    ∙ (ap (λ (z : ℤ). cond (is_within from to reading.stamp.ticks) (value_bounds number (place_in col reading.stamp) z limits.most) []) are.least_is
    ∙ ap (λ (z : ℤ). cond (is_within from to reading.stamp.ticks) (value_bounds number (place_in col reading.stamp) (least reading.value) z) []) are.most_is)) in
    is
    ∙ (ap (λ (bs : List Bound). bs ++ cond (is_within limits.from limits.to reading.stamp.ticks) (value_bounds number (place_in col reading.stamp) limits.least limits.most) []) so_far
    ∙ (ap (λ (bs : List Bound). (first ++ flat_map f (take i readings)) ++ bs) here
    ∙ (flat_map_more f first (take i readings) reading
    ∙ ap (λ (rs : List Reading). first ++ flat_map f rs) (sym (take_more readings i d h)))))
