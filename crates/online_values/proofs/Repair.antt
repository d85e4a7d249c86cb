-- What the calls of a repair do.
use Rattle.std.proofs.Common.{◌≡◌, ◌*◌, ◌^◌, ◌≤◌, Bool, true, false, cond, ◌↔◌, ℤ, pos, ◌+ℤ◌, ◌-ℤ◌, ◌≤ℤ◌, ◌<ℤ◌, List, [], ◌∷◌, ◌++◌, FitsSigned, to_z, of_z, refl, sym, ap, ◌∙◌, subst, arith}
use Rattle.std.specs.Prelude.{All, Option, Some, None, IfSome, IfNone, int_le, unsigned_abs}
use Rattle.std.specs.Int.{w64, int_max, int_min}
use Rattle.std.specs.List.{AllZip}
use Rattle.std.proofs.lemmas.Int.{ints, to_z-of_z}
use Rattle.words.proofs.Products.{within_size}
use Rattle.fix_point.specs.RateLimits.{RateLimits, AreSteps, AreWithinReach}
use Rattle.fix_point.proofs.Rates.{one_ceil, one_floor, reach_of_fewer, step_fits}
use Rattle.rule_file.specs.Limits.{IsUnits}
use Rattle.window_median.specs.declared.cost.Near.{Near}
use Rattle.window_median.specs.LocalCost.{candidates, clamped}
use Rattle.window_median.specs.Median.{IsMedian}
use Rattle.order_window.specs.declared.key.Key.{Key}
use Rattle.order_window.specs.Window.{Window, IsAdded, IsMedianOf, IsSuccessor}
use Rattle.online_values.specs.Results.{Speed, clamped_after, greatest_step, least_step, median_before, near, near_of}
use Rattle.online_values.specs.Sensor.{HasStep, IsTimeWithin, SensorView, sensor_view}
use Rattle.online_values.proofs.Keys.{added_last, first_taken, none_taken, there_is_one}
use Rattle.online_values.proofs.Least.{odd}
use Rattle.online_values.proofs.Middle.{median_is}
use Rattle.online_values.proofs.Steps.{HaveTimes, ceil_is, floor_is, le_true}

pub reach_within : (rates : RateLimits) (span dt : ℤ) → AreWithinReach rates span → pos 1 ≤ℤ dt → dt ≤ℤ span → AreWithinReach rates dt
reach_within rates span dt reach some most = record {
  min = reach_of_fewer rates.min rates.decimals span dt reach.min some most;
  max = reach_of_fewer rates.max rates.decimals span dt reach.max some most;
}

pub entered : (old new : Window) (last : Option Key) (key : Key) (view : SensorView) → sensor_view old last ≡ view → new ≡ record old { keys = new.keys } → IsAdded key old.keys new.keys
    → All (λ other. other.ticks <ℤ key.ticks) view.keys → sensor_view new last ≡ record view { keys = view.keys ++ key ∷ [] }
entered old new last key view view_is kept added later =
    let L : List Key → Type 0 = λ keys. All (λ other. other.ticks <ℤ key.ticks) keys in
    let keys_are = added_last key old.keys new.keys added (subst L (sym (ap (λ (v : SensorView). v.keys) view_is)) later) in
    ap (λ (w : Window). sensor_view w last) (kept ∙ ap (λ (keys : List Key). record old { keys = keys }) keys_are)
    ∙ ap (λ (v : SensorView). record v { keys = v.keys ++ key ∷ [] }) view_is

-- ---- the first reading leaves

pub left_first : (result : Option Key) (old new : List Key) (own : Key) (ticks : ℤ) → ticks ≡ own.ticks → IfSome result (λ key. key.ticks ≡ ticks) → IfSome result (λ key. IsAdded key new old) → IfNone result (All (λ key. key.ticks ≡ ticks → ⊥) old)
    → (others : List Key) → old ≡ own ∷ others → new ≡ others
left_first (Some key) old new own ticks e time taken none others is = first_taken key own old new others taken (time ∙ e) is
left_first None old new own ticks e time taken none others is =
    let A : ℤ → Type 0 = λ t. All (λ (key : Key). key.ticks ≡ t → ⊥) old in
    absurd (there_is_one own old others is (subst A e none))

pub left_none : (result : Option Key) (old new : List Key) (own : Key) (ticks : ℤ) → ticks ≡ own.ticks → IfSome result (λ key. key.ticks ≡ ticks) → IfSome result (λ key. IsAdded key new old) → IfNone result (new ≡ old)
    → All (λ key. key.ticks ≡ own.ticks → ⊥) old → new ≡ old
left_none (Some key) old new own ticks e time taken left all = absurd (none_taken key own old new taken (time ∙ e) all)
left_none None old new own ticks e time taken left all = left

-- ---- times within the window

abbrev IsTime : ℤ → ℤ → ℤ → ℤ → Type 0
IsTime span before now dt = (dt ≡ now -ℤ before) × (dt ≤ℤ span) × (pos 1 ≤ℤ dt)

pub time_read : (span before now dt : ℤ) → FitsSigned w64 span → FitsSigned w64 before → FitsSigned w64 now → IsTimeWithin (to_z w64 (of_z w64 span)) (to_z w64 (of_z w64 before)) (to_z w64 (of_z w64 now)) (Some dt) → (dt ≡ now -ℤ before) × (dt ≤ℤ span) × (pos 1 ≤ℤ dt)
time_read span before now dt s b n time =
    let S : ℤ → Type 0 = λ z. IsTime z (to_z w64 (of_z w64 before)) (to_z w64 (of_z w64 now)) dt in
    let B : ℤ → Type 0 = λ z. IsTime span z (to_z w64 (of_z w64 now)) dt in
    let N : ℤ → Type 0 = λ z. IsTime span before z dt in
    subst N (to_z-of_z w64 now n) (subst B (to_z-of_z w64 before b) (subst S (to_z-of_z w64 span s) time))

pub beyond_read : (span before now : ℤ) → FitsSigned w64 span → FitsSigned w64 before → FitsSigned w64 now → IsTimeWithin (to_z w64 (of_z w64 span)) (to_z w64 (of_z w64 before)) (to_z w64 (of_z w64 now)) None → span <ℤ (now -ℤ before)
beyond_read span before now s b n time =
    let S : ℤ → Type 0 = λ z. z <ℤ (to_z w64 (of_z w64 now) -ℤ to_z w64 (of_z w64 before)) in
    let B : ℤ → Type 0 = λ z. span <ℤ (to_z w64 (of_z w64 now) -ℤ z) in
    let N : ℤ → Type 0 = λ z. span <ℤ (z -ℤ before) in
    subst N (to_z-of_z w64 now n) (subst B (to_z-of_z w64 before b) (subst S (to_z-of_z w64 span s) time))

time_fits : (rates : RateLimits) (dt : ℤ) → AreWithinReach rates dt → FitsSigned w64 dt
time_fits rates dt reach = omega (arith, ints, reach.max.ticks_least, reach.max.ticks_most)

-- what the call of the steps is asked for
pub time_reach : (rates : RateLimits) (span before now dt : ℤ) → FitsSigned w64 span → FitsSigned w64 before → FitsSigned w64 now → AreWithinReach rates span → IsTimeWithin (to_z w64 (of_z w64 span)) (to_z w64 (of_z w64 before)) (to_z w64 (of_z w64 now)) (Some dt)
    → AreWithinReach rates (to_z w64 (of_z w64 dt))
time_reach rates span before now dt s b n reach time =
    let read = time_read span before now dt s b n time in
    let within = reach_within rates span dt reach read.2 read.1 in
    let R : ℤ → Type 0 = λ t. AreWithinReach rates t in
    subst R (sym (to_z-of_z w64 dt (time_fits rates dt within))) within

-- the steps that it answers are those of the rates
pub record AreStepsOf (speed : Speed) (dt least greatest : ℤ) : Type 0 where
  pub least_is : least ≡ least_step speed dt
  pub greatest_is : greatest ≡ greatest_step speed dt

pub steps_read : (speed : Speed) (span before now dt least greatest : ℤ) → HaveTimes speed → FitsSigned w64 span → FitsSigned w64 before → FitsSigned w64 now → AreWithinReach speed.rates span
    → IsTimeWithin (to_z w64 (of_z w64 span)) (to_z w64 (of_z w64 before)) (to_z w64 (of_z w64 now)) (Some dt) → AreSteps speed.rates (to_z w64 (of_z w64 dt)) least greatest → AreStepsOf speed (now -ℤ before) least greatest
steps_read speed span before now dt least greatest times s b n reach time steps =
    let read = time_read span before now dt s b n time in
    let within = reach_within speed.rates span dt reach read.2 read.1 in
    let A : ℤ → Type 0 = λ t. AreSteps speed.rates t least greatest in
    let d = speed.rates.decimals in
    let are = subst A (to_z-of_z w64 dt (time_fits speed.rates dt within) ∙ read.0) steps in
    record {
      least_is = one_ceil speed.rates.min d (now -ℤ before) least (least_step speed (now -ℤ before)) are.ceil (ceil_is speed.rates.min d (now -ℤ before) times.min);
      greatest_is = one_floor speed.rates.max d (now -ℤ before) greatest (greatest_step speed (now -ℤ before)) are.floor (floor_is speed.rates.max d (now -ℤ before) times.max);
    }

pub has_step_by : (speed : Speed) (before now least greatest : ℤ) (answer : Bool) → AreStepsOf speed (now -ℤ before) least greatest → (now -ℤ before) ≤ℤ speed.span → ((answer ≡ true) ↔ (least ≤ℤ greatest)) → (answer ≡ true) ↔ HasStep speed before now
has_step_by speed before now least greatest answer are within test =
    let L : ℤ → Type 0 = λ l. (answer ≡ true) ↔ (l ≤ℤ greatest) in
    let G : ℤ → Type 0 = λ g. (answer ≡ true) ↔ (least_step speed (now -ℤ before) ≤ℤ g) in
    let same = subst G are.greatest_is (subst L are.least_is test) in
    (λ yes_it_is within_it. same.0 yes_it_is, λ has. same.1 (has within))

no_beyond : (a b : ℤ) → a <ℤ b → b ≤ℤ a → ⊥
no_beyond a b g h = omega (arith, ints)

pub has_step_beyond : (speed : Speed) (before now : ℤ) → speed.span <ℤ (now -ℤ before) → HasStep speed before now
has_step_beyond speed before now beyond within = absurd (no_beyond speed.span (now -ℤ before) beyond within)

-- ---- the median

near_same : (a b : Near) → a.value ≡ b.value → a.least ≡ b.least → a.most ≡ b.most → a ≡ b
near_same a b e f g =
    let of_value : ℤ → Near = λ value. record { value = value; least = a.least; most = a.most } in
    let of_least : ℤ → Near = λ least. record { value = b.value; least = least; most = a.most } in
    let of_most : ℤ → Near = λ most. record { value = b.value; least = b.least; most = most } in
    ap of_value e ∙ ap of_least f ∙ ap of_most g

successor_is : (speed : Speed) (own key : Key) (one : Near) → HaveTimes speed → IsSuccessor speed.rates own key one → one ≡ near_of speed own key
successor_is speed own key one times is =
    let d = speed.rates.decimals in
    let dt = key.ticks -ℤ own.ticks in
    near_same one (near_of speed own key) is.value
    (one_ceil speed.rates.min d dt one.least (least_step speed dt) is.steps.ceil (ceil_is speed.rates.min d dt times.min))
    (one_floor speed.rates.max d dt one.most (greatest_step speed dt) is.steps.floor (floor_is speed.rates.max d dt times.max))

cons_same : (a b : Near) (xs ys : List Near) → a ≡ b → xs ≡ ys → a ∷ xs ≡ b ∷ ys
cons_same a b xs ys e f = ap (λ x. x ∷ xs) e ∙ ap (λ rest. b ∷ rest) f

near_are : (speed : Speed) (own : Key) (keys : List Key) (ones : List Near) → HaveTimes speed → AllZip (IsSuccessor speed.rates own) keys ones → ones ≡ near speed own keys
near_are speed own [] [] times all = refl
near_are speed own [] (one ∷ ones) times all = absurd all
near_are speed own (key ∷ keys) [] times all = absurd all
near_are speed own (key ∷ keys) (one ∷ ones) times all =
    cons_same one (near_of speed own key) ones (near speed own keys) (successor_is speed own key one times all.0) (near_are speed own keys ones times all.1)

abbrev pub speed_in : Window → Speed
speed_in window = record { rates = window.rates; span = window.span }

pub median_value : (window : Window) (own : Key) (m : ℤ) → HaveTimes (speed_in window) → IsMedianOf window own m → m ≡ median_before (speed_in window) own window.keys
median_value window own m times is =
    let M : List Near → Type 0 = λ ones. IsMedian (candidates own.value ones) m in
    let same = near_are (speed_in window) own window.keys is.near times is.successors in
    median_is (candidates own.value (near (speed_in window) own window.keys)) m (odd own.value (near (speed_in window) own window.keys)) (subst M same is.middle)

-- ---- the result

abbrev ResultIs : SensorView → Key → ℤ → Type 0
ResultIs view own v = v ≡ clamped_after view.speed view.last own (median_before view.speed own view.keys)

pub result_first : (window : Window) (last : Option Key) (own : Key) (m : ℤ) (view : SensorView) → sensor_view window last ≡ view → last ≡ None → HaveTimes (speed_in window) → IsMedianOf window own m → m ≡ clamped_after view.speed view.last own (median_before view.speed own view.keys)
result_first window last own m view e none times is =
    let V : SensorView → Type 0 = λ v. ResultIs v own m in
    let L : Option Key → Type 0 = λ l. ResultIs (sensor_view window l) own m in
    subst V e (subst L (sym none) (median_value window own m times is))

beyond_false : (a b : ℤ) → b <ℤ a → int_le a b ≡ false
beyond_false a b h = grind (arith, ints)

pub result_beyond : (window : Window) (last : Option Key) (own previous : Key) (m : ℤ) (view : SensorView) → sensor_view window last ≡ view → last ≡ Some previous → HaveTimes (speed_in window) → IsMedianOf window own m
    → window.span <ℤ (own.ticks -ℤ previous.ticks) → m ≡ clamped_after view.speed view.last own (median_before view.speed own view.keys)
result_beyond window last own previous m view e some times is beyond =
    let speed = speed_in window in
    let dt = own.ticks -ℤ previous.ticks in
    let middle = median_before speed own window.keys in
    let V : SensorView → Type 0 = λ v. ResultIs v own m in
    let L : Option Key → Type 0 = λ l. ResultIs (sensor_view window l) own m in
    let C : Bool → Type 0 = λ b. m ≡ cond b (clamped (previous.value +ℤ least_step speed dt) (previous.value +ℤ greatest_step speed dt) middle) middle in
    subst V e (subst L (sym some) (subst C (sym (beyond_false dt window.span beyond)) (median_value window own m times is)))

pub result_within : (window : Window) (last : Option Key) (own previous : Key) (m least greatest v : ℤ) (view : SensorView) → sensor_view window last ≡ view → last ≡ Some previous → HaveTimes (speed_in window) → IsMedianOf window own m
    → (own.ticks -ℤ previous.ticks) ≤ℤ window.span → AreStepsOf (speed_in window) (own.ticks -ℤ previous.ticks) least greatest → v ≡ clamped (previous.value +ℤ least) (previous.value +ℤ greatest) m
    → v ≡ clamped_after view.speed view.last own (median_before view.speed own view.keys)
result_within window last own previous m least greatest v view e some times is within are clamp =
    let speed = speed_in window in
    let dt = own.ticks -ℤ previous.ticks in
    let middle = median_before speed own window.keys in
    let V : SensorView → Type 0 = λ w. ResultIs w own v in
    let L : Option Key → Type 0 = λ l. ResultIs (sensor_view window l) own v in
    let C : Bool → Type 0 = λ b. v ≡ cond b (clamped (previous.value +ℤ least_step speed dt) (previous.value +ℤ greatest_step speed dt) middle) middle in
    let value : v ≡ clamped (previous.value +ℤ least_step speed dt) (previous.value +ℤ greatest_step speed dt) middle =
    clamp
    ∙ ap (λ (z : ℤ). clamped (previous.value +ℤ z) (previous.value +ℤ greatest) m) are.least_is
    ∙ ap (λ (z : ℤ). clamped (previous.value +ℤ least_step speed dt) (previous.value +ℤ z) m) are.greatest_is
    ∙ ap (λ (z : ℤ). clamped (previous.value +ℤ least_step speed dt) (previous.value +ℤ greatest_step speed dt) z) (median_value window own m times is) in
    subst V e (subst L (sym some) (subst C (sym (le_true dt window.span within)) value))

-- ---- sums as the code has them

pub record IsSum (a b : ℤ) : Type 0 where
  pub fits : FitsSigned w64 (to_z w64 (of_z w64 a) +ℤ to_z w64 (of_z w64 b))
  pub same : to_z w64 (of_z w64 (to_z w64 (of_z w64 a) +ℤ to_z w64 (of_z w64 b))) ≡ a +ℤ b

sum_fits : (value step : ℤ) → IsUnits value → unsigned_abs step ≤ 4 * 10 ^ 15 → FitsSigned w64 (value +ℤ step)
sum_fits value step units small =
    let size = within_size step (4 * 10 ^ 15) small in
    omega (arith, ints, units, size)

pub sum_of : (value step : ℤ) → FitsSigned w64 value → IsUnits value → unsigned_abs step ≤ 4 * 10 ^ 15 → IsSum value step
sum_of value step f units small =
    let g = step_fits step small in
    let fits = sum_fits value step units small in
    let P : ℤ → Type 0 = λ x. FitsSigned w64 (x +ℤ to_z w64 (of_z w64 step)) in
    let Q : ℤ → Type 0 = λ y. FitsSigned w64 (value +ℤ y) in
    record {
      fits = subst P (sym (to_z-of_z w64 value f)) (subst Q (sym (to_z-of_z w64 step g)) fits);
      same = ap (λ x. to_z w64 (of_z w64 (x +ℤ to_z w64 (of_z w64 step)))) (to_z-of_z w64 value f) ∙ ap (λ y. to_z w64 (of_z w64 (value +ℤ y))) (to_z-of_z w64 step g) ∙ to_z-of_z w64 (value +ℤ step) fits;
    }

pub clamp_read : (low high number mn mx l h : ℤ) → l ≡ low → h ≡ high → FitsSigned w64 number → FitsSigned w64 mn → FitsSigned w64 mx → mn ≡ int_min (to_z w64 (of_z w64 number)) h → mx ≡ int_max l (to_z w64 (of_z w64 mn)) → to_z w64 (of_z w64 mx) ≡ clamped low high number
clamp_read low high number mn mx l h e f n m x min_is max_is =
    to_z-of_z w64 mx x
    ∙ max_is
    ∙ ap (λ (z : ℤ). int_max z (to_z w64 (of_z w64 mn))) e
    ∙ ap (λ (z : ℤ). int_max low z) (to_z-of_z w64 mn m ∙ min_is ∙ ap (λ (z : ℤ). int_min z h) (to_z-of_z w64 number n) ∙ ap (λ (z : ℤ). int_min number z) f)

-- the number that is clamped, as the code has it
pub clamped_read : (last least greatest m v : ℤ) → FitsSigned w64 last → FitsSigned w64 m → FitsSigned w64 v → v ≡ clamped (to_z w64 (of_z w64 last) +ℤ least) (to_z w64 (of_z w64 last) +ℤ greatest) (to_z w64 (of_z w64 m))
    → to_z w64 (of_z w64 v) ≡ clamped (last +ℤ least) (last +ℤ greatest) m
clamped_read last least greatest m v l f g is =
    to_z-of_z w64 v g
    ∙ is
    ∙ ap (λ (z : ℤ). clamped (z +ℤ least) (z +ℤ greatest) (to_z w64 (of_z w64 m))) (to_z-of_z w64 last l)
    ∙ ap (λ (z : ℤ). clamped (last +ℤ least) (last +ℤ greatest) z) (to_z-of_z w64 m f)

pub units_read : (value : ℤ) → FitsSigned w64 value → IsUnits value → IsUnits (to_z w64 (of_z w64 value))
units_read value fits units =
    let U : ℤ → Type 0 = λ z. IsUnits z in
    subst U (sym (to_z-of_z w64 value fits)) units
