-- How many bounds a rule of each kind makes, as the code counts them.
use Rattle.std.proofs.Common.{◌≡◌, ℕ, ◌*◌, ℤ, ◌&&◌, min, List, length, sym, ap, ◌∙◌, arith}
use Rattle.std.specs.Prelude.{is_some}
use Rattle.std.specs.List.{count_by}
use Rattle.screen_model.specs.declared.bound.Bound.{Bound}
use Rattle.rule_file.specs.Numbers.{Rule, speed, swing, drift, range, trust, weight, between}
use Rattle.rule_file.specs.declared.rules.SpeedRule.{SpeedRule}
use Rattle.rule_file.specs.declared.rules.SwingRule.{SwingRule}
use Rattle.rule_file.specs.declared.rules.DriftRule.{DriftRule}
use Rattle.rule_file.specs.declared.rules.RangeRule.{RangeRule}
use Rattle.rule_file.specs.declared.rules.TrustRule.{TrustRule}
use Rattle.rule_file.specs.declared.rules.WeightRule.{WeightRule}
use Rattle.rule_file.specs.declared.rules.BetweenRule.{BetweenRule}
use Rattle.pair_bounds.specs.Pairs.{is_within}
use Rattle.series_rows.specs.Row.{RowView}
use Rattle.bound_maker.specs.declared.reading.Reading.{Reading}
use Rattle.bound_maker.specs.Bounds.{bounds_in_time, bounds_of_kind, bounds_of_pairs, made_pairs}
use Rattle.bound_maker.specs.Pairs.{pair_bound, pairs_of}
use Rattle.bound_maker.specs.Readings.{reading_in, readings_of}
use Rattle.bound_maker.proofs.Counts.{capped_two, rows_count, values_count}

module _ (d : ℕ) (rows : List RowView) (number col second most m : ℕ) (r : Rule) where
  -- the count says how many bounds there are
  abbrev pub IsCounted : Type 0
  IsCounted = min (2 * m) most ≡ min (length (bounds_of_kind made_pairs d rows number col second r)) most

  in_time : (f t from to : ℤ) (least most_of : ℤ → ℤ) (readings : List Reading) (n : ℕ) → bounds_of_kind made_pairs d rows number col second r ≡ bounds_in_time number col from to least most_of (readings_of col rows)
      → f ≡ from → t ≡ to → readings ≡ readings_of col rows → n ≡ count_by (λ (reading : Reading). is_within f t reading.stamp.ticks) readings → m ≡ min n most → IsCounted
  in_time f t from to least most_of readings n are same equal is counted capped =
      let count : n ≡ count_by (λ (reading : Reading). is_within from to reading.stamp.ticks) (readings_of col rows) =
      counted ∙ (ap (λ (z : ℤ). count_by (λ (reading : Reading). is_within z t reading.stamp.ticks) readings) same
      ∙ (ap (λ (z : ℤ). count_by (λ (reading : Reading). is_within from z reading.stamp.ticks) readings) equal
      ∙ ap (λ (rs : List Reading). count_by (λ (reading : Reading). is_within from to reading.stamp.ticks) rs) is)) in
      let values = values_count number col from to least most_of (readings_of col rows) in
      let long = ap (λ (bs : List Bound). length bs) are in
      capped_two n m (length (bounds_of_kind made_pairs d rows number col second r)) most (omega (arith, count, values, long)) capped

  pub range_counted : (rule : RangeRule) (f t : ℤ) (readings : List Reading) (n : ℕ) → r ≡ range rule → f ≡ rule.from → t ≡ rule.to → readings ≡ readings_of col rows
      → n ≡ count_by (λ (reading : Reading). is_within f t reading.stamp.ticks) readings → m ≡ min n most → IsCounted
  range_counted rule f t readings n is =
      in_time f t rule.from rule.to (λ value. rule.min) (λ value. rule.max) readings n (ap (λ (q : Rule). bounds_of_kind made_pairs d rows number col second q) is)

  pub trust_counted : (rule : TrustRule) (f t : ℤ) (readings : List Reading) (n : ℕ) → r ≡ trust rule → f ≡ rule.from → t ≡ rule.to → readings ≡ readings_of col rows
      → n ≡ count_by (λ (reading : Reading). is_within f t reading.stamp.ticks) readings → m ≡ min n most → IsCounted
  trust_counted rule f t readings n is =
      in_time f t rule.from rule.to (λ value. value) (λ value. value) readings n (ap (λ (q : Rule). bounds_of_kind made_pairs d rows number col second q) is)

  pub between_counted : (rule : BetweenRule) (n : ℕ) → r ≡ between rule → n ≡ count_by (λ (row : RowView). is_some (reading_in col row) && is_some (reading_in second row)) rows → m ≡ min n most → IsCounted
  between_counted rule n is counted capped =
      let count = rows_count number 1 col second rule rows in
      let long : length (bounds_of_kind made_pairs d rows number col second r) ≡ length (bounds_of_kind made_pairs d rows number col second (between rule)) = ap (λ (q : Rule). length (bounds_of_kind made_pairs d rows number col second q)) is in
      capped_two n m (length (bounds_of_kind made_pairs d rows number col second r)) most (omega (arith, count, counted, long)) capped

  pub weight_counted : (rule : WeightRule) → r ≡ weight rule → 0 ≡ min (length (bounds_of_kind made_pairs d rows number col second r)) most
  weight_counted rule is =
      let none : ◌≡◌ {A = ℕ} (length (bounds_of_kind made_pairs d rows number col second r)) 0 = ap (λ (q : Rule). length (bounds_of_kind made_pairs d rows number col second q)) is in
      omega (arith, none)

  of_pairs : (readings : List Reading) → bounds_of_kind made_pairs d rows number col second r ≡ bounds_of_pairs (pair_bound number r d col) (pairs_of r (readings_of col rows)) → readings ≡ readings_of col rows
      → min (2 * m) most ≡ min (length (bounds_of_pairs (pair_bound number r d col) (pairs_of r readings))) most → IsCounted
  of_pairs readings are is counted =
      counted ∙ (ap (λ (rs : List Reading). min (length (bounds_of_pairs (pair_bound number r d col) (pairs_of r rs))) most) is ∙ sym (ap (λ (bs : List Bound). min (length bs) most) are))

  pub speed_counted : (rule : SpeedRule) (readings : List Reading) → r ≡ speed rule → readings ≡ readings_of col rows
      → min (2 * m) most ≡ min (length (bounds_of_pairs (pair_bound number r d col) (pairs_of r readings))) most → IsCounted
  speed_counted rule readings is =
      of_pairs readings (ap (λ (q : Rule). bounds_of_kind made_pairs d rows number col second q) is ∙ sym (ap (λ (q : Rule). bounds_of_pairs (pair_bound number q d col) (pairs_of q (readings_of col rows))) is))

  pub swing_counted : (rule : SwingRule) (readings : List Reading) → r ≡ swing rule → readings ≡ readings_of col rows
      → min (2 * m) most ≡ min (length (bounds_of_pairs (pair_bound number r d col) (pairs_of r readings))) most → IsCounted
  swing_counted rule readings is =
      of_pairs readings (ap (λ (q : Rule). bounds_of_kind made_pairs d rows number col second q) is ∙ sym (ap (λ (q : Rule). bounds_of_pairs (pair_bound number q d col) (pairs_of q (readings_of col rows))) is))

  pub drift_counted : (rule : DriftRule) (readings : List Reading) → r ≡ drift rule → readings ≡ readings_of col rows
      → min (2 * m) most ≡ min (length (bounds_of_pairs (pair_bound number r d col) (pairs_of r readings))) most → IsCounted
  drift_counted rule readings is =
      of_pairs readings (ap (λ (q : Rule). bounds_of_kind made_pairs d rows number col second q) is ∙ sym (ap (λ (q : Rule). bounds_of_pairs (pair_bound number q d col) (pairs_of q (readings_of col rows))) is))
