-- To be believed: what the readings of a sensor are repaired to, by the online method.
use Rattle.std.specs.Prelude.{◌/◌, ◌&&◌, nat_le, Bool, ℤ, pos, ◌+ℤ◌, ◌-ℤ◌, int_le, List, [], ◌∷◌, length, map, Option, Some, None, if◌then◌else◌}
use Rattle.std.specs.List.{filter, find}
use Rattle.std.specs.Option.{unwrap_or}
use Rattle.fix_point.specs.RateLimits.{RateLimits}
use Rattle.fix_point.specs.Rates.{ceil_step, floor_step}
use Rattle.window_median.specs.declared.cost.Near.{Near}
use Rattle.window_median.specs.LocalCost.{candidates, clamped}
use Rattle.window_median.specs.Median.{count_above, count_below}
use Rattle.order_window.specs.declared.key.Key.{Key}

-- a speed rule: its two rates, with the decimals of a unit, and its window, in ticks
pub record Speed : Type 0 where
  pub rates : RateLimits
  pub span : ℤ

-- the least and the greatest whole step in so many ticks
abbrev pub least_step : Speed → ℤ → ℤ
least_step speed dt = ceil_step speed.rates.min speed.rates.decimals dt

abbrev pub greatest_step : Speed → ℤ → ℤ
greatest_step speed dt = floor_step speed.rates.max speed.rates.decimals dt

-- a reading lies no further after another one than the window
abbrev pub is_within : Speed → Key → Key → Bool
is_within speed own key = int_le (key.ticks -ℤ own.ticks) speed.span

-- the successors of a reading: those of the later readings within the window
abbrev pub successors : Speed → Key → List Key → List Key
successors speed own later = filter (is_within speed own) later

-- a successor, with the least and the greatest whole step in the time to it
abbrev pub near_of : Speed → Key → Key → Near
near_of speed own key = record {
  value = key.value;
  least = least_step speed (key.ticks -ℤ own.ticks);
  most = greatest_step speed (key.ticks -ℤ own.ticks);
}

abbrev pub near : Speed → Key → List Key → List Near
near speed own next = map (near_of speed own) next

-- a number has at most half of the elements below it, and at most half above it, rounded down
abbrev pub is_middle : List ℤ → ℤ → Bool
is_middle xs x = nat_le (count_below x xs) (length xs / 2) && nat_le (count_above x xs) (length xs / 2)

-- the element of a list that is in the middle; 0 of no elements
unfoldable pub median : List ℤ → ℤ
median xs = unwrap_or (find (is_middle xs) xs) (pos 0)

-- the median of the candidates of a reading, which has these successors
abbrev pub median_before : Speed → Key → List Key → ℤ
median_before speed own next = median (candidates own.value (near speed own next))

-- A number, clamped to what the steps allow after the result for the previous reading, where that lies within the window.
abbrev pub clamped_after : Speed → Option Key → Key → ℤ → ℤ
clamped_after speed None own v = v
clamped_after speed (Some last) own v =
    if is_within speed last own then clamped (last.value +ℤ least_step speed (own.ticks -ℤ last.ticks)) (last.value +ℤ greatest_step speed (own.ticks -ℤ last.ticks)) v else v

-- The result for a reading, by the readings of its sensor: the earlier ones, the latest first, and the later ones.
abbrev pub result : Speed → List Key → Key → List Key → ℤ
result speed [] own later = median_before speed own (successors speed own later)
result speed (last ∷ earlier) own later =
    clamped_after speed (Some (record { value = result speed earlier last (own ∷ later); ticks = last.ticks })) own (median_before speed own (successors speed own later))
