-- The results obey the speed rule.
use Rattle.std.proofs.Common.{◌≡◌, Bool, cond, ℤ, ◌+ℤ◌, ◌-ℤ◌, ◌≤ℤ◌, ◌<ℤ◌, List, [], ◌∷◌, ◌++◌, reverse, sym, ap, ◌∙◌, subst, arith, append_assoc}
use Rattle.std.specs.Prelude.{IsTrue, Some}
use Rattle.std.proofs.lemmas.Int.{ints, clamps}
use Rattle.words.proofs.Lists.{reverse_cons}
use Rattle.window_median.specs.LocalCost.{clamped}
use Rattle.order_window.specs.declared.key.Key.{Key}
use Rattle.online_values.specs.Results.{Speed, clamped_after, greatest_step, is_within, least_step, median_before, result, successors}
use Rattle.online_values.specs.Laws.{AreReadings, Follows, IsSeriesBack, KeepsRates}
use Rattle.online_values.proofs.Steps.{HaveTimes, IsStep, step_over, within_first, within_last}

-- ---- one reading after the other

clamp_low : (low high m : ℤ) → low ≤ℤ high → low ≤ℤ clamped low high m
clamp_low low high m h = omega (arith, ints, clamps)

clamp_high : (low high m : ℤ) → low ≤ℤ high → clamped low high m ≤ℤ high
clamp_high low high m h = omega (arith, ints, clamps)

shifted : (value least most : ℤ) → least ≤ℤ most → (value +ℤ least) ≤ℤ (value +ℤ most)
shifted value least most h = omega (arith, ints)

change_low : (value least v : ℤ) → (value +ℤ least) ≤ℤ v → least ≤ℤ (v -ℤ value)
change_low value least v h = omega (arith, ints)

change_high : (value most v : ℤ) → v ≤ℤ (value +ℤ most) → (v -ℤ value) ≤ℤ most
change_high value most v h = omega (arith, ints)

clamped_step : (speed : Speed) (last own : Key) (m : ℤ) → IsTrue (is_within speed last own) → least_step speed (own.ticks -ℤ last.ticks) ≤ℤ greatest_step speed (own.ticks -ℤ last.ticks)
    → IsStep speed (own.ticks -ℤ last.ticks) (clamped_after speed (Some last) own m -ℤ last.value)
clamped_step speed last own m within order =
    let least = least_step speed (own.ticks -ℤ last.ticks) in
    let most = greatest_step speed (own.ticks -ℤ last.ticks) in
    let low = last.value +ℤ least in
    let high = last.value +ℤ most in
    let P : Bool → Type 0 = λ b. IsStep speed (own.ticks -ℤ last.ticks) (cond b (clamped low high m) m -ℤ last.value) in
    subst P (sym within) (record {
      least = change_low last.value least (clamped low high m) (clamp_low low high m (shifted last.value least most order));
      most = change_high last.value most (clamped low high m) (clamp_high low high m (shifted last.value least most order));
    })

next_step : (speed : Speed) (earlier : List Key) (last own : Key) (later : List Key) → Follows speed last own → IsTrue (is_within speed last own)
    → IsStep speed (own.ticks -ℤ last.ticks) (result speed (last ∷ earlier) own later -ℤ result speed earlier last (own ∷ later))
next_step speed earlier last own later follows within =
    let before : Key = record { value = result speed earlier last (own ∷ later); ticks = last.ticks } in
    clamped_step speed before own (median_before speed own (successors speed own later)) within (follows.step within)

-- ---- over several

less_chain : (a b c : ℤ) → a <ℤ b → b <ℤ c → a <ℤ c
less_chain a b c g h = omega (arith, ints)

first_before : (speed : Speed) (first : Key) (before between : List Key) (own : Key) → IsSeriesBack speed (own ∷ (between ++ first ∷ before)) → first.ticks <ℤ own.ticks
first_before speed first before [] own series = series.0.later
first_before speed first before (key ∷ between) own series =
    less_chain first.ticks key.ticks own.ticks (first_before speed first before between key series.1) series.0.later

changes_join : (a b c : ℤ) → (b -ℤ a) +ℤ (c -ℤ b) ≡ c -ℤ a
changes_join a b c = omega (arith, ints)

turned : (key : Key) (between later : List Key) → reverse (key ∷ between) ++ later ≡ reverse between ++ key ∷ later
turned key between later = ap (λ (ks : List Key). ks ++ later) (reverse_cons key between) ∙ append_assoc (reverse between) (key ∷ []) later

steps_over : (speed : Speed) (before : List Key) (first : Key) (between : List Key) (own : Key) (later : List Key) → HaveTimes speed → IsSeriesBack speed (own ∷ (between ++ first ∷ before)) → IsTrue (is_within speed first own)
    → IsStep speed (own.ticks -ℤ first.ticks) (result speed (between ++ first ∷ before) own later -ℤ result speed before first (reverse between ++ own ∷ later))
steps_over speed before first [] own later times series within = next_step speed before first own later series.0 within
steps_over speed before first (key ∷ between) own later times series within =
    let g = first_before speed first before between key series.1 in
    let h = series.0.later in
    let one = steps_over speed before first between key (own ∷ later) times series.1 (within_first speed first key own g h within) in
    let other = next_step speed (between ++ first ∷ before) key own later series.0 (within_last speed first key own g h within) in
    let start = result speed before first (reverse between ++ key ∷ own ∷ later) in
    let middle = result speed (between ++ first ∷ before) key (own ∷ later) in
    let end = result speed (key ∷ (between ++ first ∷ before)) own later in
    let both = step_over speed first.ticks key.ticks own.ticks (middle -ℤ start) (end -ℤ middle) times one other in
    let S : ℤ → Type 0 = λ change. IsStep speed (own.ticks -ℤ first.ticks) change in
    let K : List Key → Type 0 = λ keys. IsStep speed (own.ticks -ℤ first.ticks) (end -ℤ result speed before first keys) in
    subst K (sym (turned key between (own ∷ later))) (subst S (changes_join start middle end) both)

pub keeps_rates : (speed : Speed) (before : List Key) (first : Key) (between : List Key) (own : Key) (later : List Key) → AreReadings speed (between ++ first ∷ before) own later → KeepsRates speed before first between own later
keeps_rates speed before first between own later readings within =
    let times : HaveTimes speed = record { min = readings.min_per; max = readings.max_per } in
    let step = steps_over speed before first between own later times readings.before within in
    (step.least, step.most)
