-- What the entries of a table are known to be: each number within the limits of its key.
use Rattle.std.proofs.Common.{◌≡◌, ◌≤◌, ℕ, ℤ, pos, neg_ℤ, ◌≤ℤ◌, IsTrue, List, [], ◌∷◌, Some, inl, inr, refl, sym, subst, ◌∙◌, arith, w64, to_z, of_z, FitsSigned}
use Rattle.std.specs.Prelude.{IsSome}
use Rattle.std.specs.List.{AllByRecursion}
use Rattle.std.proofs.lemmas.Int.{ints, to_z-of_z}
use Rattle.words.proofs.Products.{size_within}
use Rattle.fix_point.specs.declared.rate.Rate.{Rate}
use Rattle.fix_point.specs.Rates.{IsRate}
use Rattle.fix_point.specs.declared.scale.TheConstants.{MOST_UNITS}
use Rattle.rule_keys.specs.declared.key.Choice.TheVariants as choice
use Rattle.rule_keys.specs.declared.key.Chosen.{Chosen}
use Rattle.rule_keys.specs.declared.key.KeyName.{KeyName}
use Rattle.rule_keys.specs.declared.key.KeyName.TheVariants.{Decimals, Form, Separator, Extra, Hold, Sensor, Min, Max, Per, Window, Most, Over, From, To, Weight, First, Second, Price}
use Rattle.rule_keys.specs.declared.key.TableKind.TheVariants as table
use Rattle.rule_keys.specs.declared.key.Kind.TheVariants.{Name}
use Rattle.rule_keys.specs.declared.key.Absent.TheVariants.{Refused}
use Rattle.rule_keys.specs.declared.key.Key.{Key}
use Rattle.fix_point.specs.declared.rate.TheConstants.{MOST_MILLIONTHS, MOST_PER}
use Rattle.rule_keys.specs.declared.limits.TheConstants.{MOST_DECIMALS, MOST_HOLD, MOST_WEIGHT, MOST_PRICE}
use Rattle.rule_keys.specs.Entries.{Meaning, number, name, chosen, nothing, meaning_at, number_in, name_in, form_in, separator_in, extra_in, number_at, name_at, form_at, separator_at, extra_at, IsWithin, IsName, IsMeant, IsOfKind, MayLack, CanStandAt, Fit}
use Rattle.rule_keys.specs.Keys.{key_of, keys_of, price_key}
use Rattle.rule_keys.specs.Words.{words, Means}
use Rattle.rule_keys.proofs.Fits.{key_named, entry_stands, entry_fits}
use Rattle.words.specs.Separators.{is_separator}
use Rattle.rule_file.specs.Limits.{AreRates, IsSpan, IsUnits, IsMoment, IsPeriod}
use Rattle.rule_file.specs.Meaning.{Entries, IsRateAt}

pub within_limits : (least most : ℤ) (meaning : Meaning) → IsWithin least most meaning → (least ≤ℤ number_in meaning) × (number_in meaning ≤ℤ most)
within_limits least most (number z) within = within
within_limits least most (name s) within = absurd within
within_limits least most (chosen c) within = absurd within
within_limits least most nothing within = absurd within

pub number_within : (k : KeyName) (least most : ℤ) (keys : List Key) (entries : Entries) (key : Key) → key_named k keys ≡ Some key → (MayLack key.absent → ⊥)
    → ((m : Meaning) → IsOfKind key.kind m → IsWithin least most m) → Fit keys entries → (least ≤ℤ number_at k entries) × (number_at k entries ≤ℤ most)
number_within k least most keys entries key is there means fit = within_limits least most _ (means _ (entry_fits k keys entries key is there fit))

-- a name that may not lack is there
a_name : (m : Meaning) → IsName m → IsSome (name_in m)
a_name (name s) is = refl
a_name (number z) is = absurd is
a_name (chosen c) is = absurd is
a_name nothing is = absurd is

pub name_there : (k : KeyName) (keys : List Key) (entries : Entries) → key_named k keys ≡ Some (key_of k Name Refused) → Fit keys entries → IsSome (name_at k entries)
name_there k keys entries is fit = a_name (meaning_at k entries) (entry_fits k keys entries _ is (λ lacks. lacks) fit)

-- the price, 0 where none is
a_price : (m : Meaning) → CanStandAt price_key m → (pos 0 ≤ℤ number_in m) × (number_in m ≤ℤ pos MOST_PRICE)
a_price (number z) within = (omega (arith, ints, within.0), within.1)
a_price (name s) within = absurd within
a_price (chosen c) within = absurd within
a_price nothing within = (omega (arith, ints), omega (arith, ints))

pub price_within : (keys : List Key) (entries : Entries) → key_named Price keys ≡ Some price_key → Fit keys entries
    → (pos 0 ≤ℤ number_at Price entries) × (number_at Price entries ≤ℤ pos MOST_PRICE)
price_within keys entries is fit = a_price (meaning_at Price entries) (entry_stands Price keys entries price_key is fit)

-- what holds of the meaning of each word holds of what one of them means
one_meant : (P : Meaning → Type 0) (some : List (List ℕ × Chosen)) (text : List ℕ) (c : Chosen) → AllByRecursion (λ word. P (chosen word.1)) some → Means some text c → P (chosen c)
one_meant P [] text c all means = absurd means
one_meant P (word ∷ others) text c all (inl means) = subst (λ given. P (chosen given)) (sym means.1) all.0
one_meant P (word ∷ others) text c all (inr means) = one_meant P others text c all.1 means

is_meant : (P : Meaning → Type 0) (some : List (List ℕ × Chosen)) (m : Meaning) → AllByRecursion (λ word. P (chosen word.1)) some → IsMeant some m → P m
is_meant P some (chosen c) all meant = one_meant P some meant.0 c all meant.1
is_meant P some (number z) all meant = absurd meant
is_meant P some (name s) all meant = absurd meant
is_meant P some nothing all meant = absurd meant

-- a separator that may stand between fields
is_one : (here : ℕ) → IsTrue (is_separator here) → (c : ℕ) → Some here ≡ Some c → IsTrue (is_separator c)
is_one here is c same = let e : here ≡ c = cc in rw (← e) is

-- the numbers and the words of a format
pub record FormatLimits (entries : Entries) : Type 0 where
  pub decimals : (pos 0 ≤ℤ number_at Decimals entries) × (number_at Decimals entries ≤ℤ pos MOST_DECIMALS)
  pub form : IsSome (form_at Form entries)
  pub separator : IsSome (separator_at Separator entries)
  pub separator_is : (c : ℕ) → separator_at Separator entries ≡ Some c → IsTrue (is_separator c)
  pub extra : IsSome (extra_at Extra entries)
  pub hold : (pos 1 ≤ℤ number_at Hold entries) × (number_at Hold entries ≤ℤ pos MOST_HOLD)

pub format_limits : (entries : Entries) → Fit (keys_of table.Format) entries → FormatLimits entries
format_limits entries fit = record {
  decimals = number_within Decimals (pos 0) (pos MOST_DECIMALS) (keys_of table.Format) entries _ refl (λ lacks. lacks) (λ m h. h) fit;
  form = is_meant (λ m. IsSome (form_in m)) (words choice.Form) _ (refl, (refl, (refl, (refl, (refl, (refl, tt)))))) (entry_fits Form (keys_of table.Format) entries _ refl (λ lacks. lacks) fit);
  separator = is_meant (λ m. IsSome (separator_in m)) (words choice.Separator) _ (refl, (refl, (refl, (refl, tt)))) (entry_fits Separator (keys_of table.Format) entries _ refl (λ lacks. lacks) fit);
  separator_is = is_meant (λ m. (c : ℕ) → separator_in m ≡ Some c → IsTrue (is_separator c)) (words choice.Separator) _ (is_one 44 refl, (is_one 59 refl, (is_one 9 refl, (is_one 124 refl, tt))))
      (entry_fits Separator (keys_of table.Format) entries _ refl (λ lacks. lacks) fit);
  extra = is_meant (λ m. IsSome (extra_in m)) (words choice.Extra) _ (refl, (refl, tt)) (entry_fits Extra (keys_of table.Format) entries _ refl (λ lacks. lacks) fit);
  hold = number_within Hold (pos 1) (pos MOST_HOLD) (keys_of table.Format) entries _ refl (λ lacks. lacks) (λ m h. h) fit;
}

-- the numbers of rates
pub record RateLimits (entries : Entries) : Type 0 where
  pub min : (neg_ℤ (pos MOST_MILLIONTHS) ≤ℤ number_at Min entries) × (number_at Min entries ≤ℤ pos MOST_MILLIONTHS)
  pub max : (neg_ℤ (pos MOST_MILLIONTHS) ≤ℤ number_at Max entries) × (number_at Max entries ≤ℤ pos MOST_MILLIONTHS)
  pub per : (pos 1 ≤ℤ number_at Per entries) × (number_at Per entries ≤ℤ pos MOST_PER)

pub is_rate : (z per : ℤ) (rate : Rate) → (neg_ℤ (pos MOST_MILLIONTHS) ≤ℤ z) × (z ≤ℤ pos MOST_MILLIONTHS) → (pos 1 ≤ℤ per) × (per ≤ℤ pos MOST_PER) → z ≡ rate.millionths → per ≡ pos rate.per → IsRate rate
is_rate z per rate limits seconds is_z is_per = record {
  size = rw (← is_z) (size_within z MOST_MILLIONTHS limits.0 limits.1);
  per_least = omega (arith, ints);
  per_most = omega (arith, ints);
}

pub same_number : (z : ℤ) (a b : ℕ) → z ≡ pos a → z ≡ pos b → a ≡ b
same_number z a b first second = cc

pub are_rates : (entries : Entries) (low high : Rate) → RateLimits entries → IsRateAt Min entries low → IsRateAt Max entries high
    → number_at Min entries ≤ℤ number_at Max entries → AreRates low high
are_rates entries low high limits is_low is_high ordered = record {
  min = is_rate (number_at Min entries) (number_at Per entries) low limits.min limits.per is_low.0 is_low.1;
  max = is_rate (number_at Max entries) (number_at Per entries) high limits.max limits.per is_high.0 is_high.1;
  per = same_number (number_at Per entries) low.per high.per is_low.1 is_high.1;
  ordered = rw (← is_low.0, ← is_high.0) ordered;
}

pub speed_rates : (entries : Entries) → Fit (keys_of table.Speed) entries → RateLimits entries
speed_rates entries fit = record {
  min = number_within Min _ _ (keys_of table.Speed) entries _ refl (λ lacks. lacks) (λ m h. h) fit;
  max = number_within Max _ _ (keys_of table.Speed) entries _ refl (λ lacks. lacks) (λ m h. h) fit;
  per = number_within Per _ _ (keys_of table.Speed) entries _ refl (λ lacks. lacks) (λ m h. h) fit;
}

pub drift_rates : (entries : Entries) → Fit (keys_of table.Drift) entries → RateLimits entries
drift_rates entries fit = record {
  min = number_within Min _ _ (keys_of table.Drift) entries _ refl (λ lacks. lacks) (λ m h. h) fit;
  max = number_within Max _ _ (keys_of table.Drift) entries _ refl (λ lacks. lacks) (λ m h. h) fit;
  per = number_within Per _ _ (keys_of table.Drift) entries _ refl (λ lacks. lacks) (λ m h. h) fit;
}

pub speed_window : (entries : Entries) → Fit (keys_of table.Speed) entries → IsSpan (number_at Window entries)
speed_window entries fit = number_within Window _ _ (keys_of table.Speed) entries _ refl (λ lacks. lacks) (λ m h. h) fit

pub swing_window : (entries : Entries) → Fit (keys_of table.Swing) entries → IsSpan (number_at Window entries)
swing_window entries fit = number_within Window _ _ (keys_of table.Swing) entries _ refl (λ lacks. lacks) (λ m h. h) fit

pub swing_most : (entries : Entries) → Fit (keys_of table.Swing) entries → (pos 0 ≤ℤ number_at Most entries) × (number_at Most entries ≤ℤ MOST_UNITS)
swing_most entries fit = number_within Most _ _ (keys_of table.Swing) entries _ refl (λ lacks. lacks) (λ m h. h) fit

pub drift_over : (entries : Entries) → Fit (keys_of table.Drift) entries → IsSpan (number_at Over entries)
drift_over entries fit = number_within Over _ _ (keys_of table.Drift) entries _ refl (λ lacks. lacks) (λ m h. h) fit

pub drift_window : (entries : Entries) → Fit (keys_of table.Drift) entries → IsSpan (number_at Window entries)
drift_window entries fit = number_within Window _ _ (keys_of table.Drift) entries _ refl (λ lacks. lacks) (λ m h. h) fit

pub range_min : (entries : Entries) → Fit (keys_of table.Range) entries → IsUnits (number_at Min entries)
range_min entries fit = number_within Min _ _ (keys_of table.Range) entries _ refl (λ lacks. lacks) (λ m h. h) fit

pub range_max : (entries : Entries) → Fit (keys_of table.Range) entries → IsUnits (number_at Max entries)
range_max entries fit = number_within Max _ _ (keys_of table.Range) entries _ refl (λ lacks. lacks) (λ m h. h) fit

pub range_from : (entries : Entries) → Fit (keys_of table.Range) entries → IsMoment (number_at From entries)
range_from entries fit = number_within From _ _ (keys_of table.Range) entries _ refl (λ lacks. lacks) (λ m h. h) fit

pub range_to : (entries : Entries) → Fit (keys_of table.Range) entries → IsMoment (number_at To entries)
range_to entries fit = number_within To _ _ (keys_of table.Range) entries _ refl (λ lacks. lacks) (λ m h. h) fit

pub trust_from : (entries : Entries) → Fit (keys_of table.Trust) entries → IsMoment (number_at From entries)
trust_from entries fit = number_within From _ _ (keys_of table.Trust) entries _ refl (λ lacks. lacks) (λ m h. h) fit

pub trust_to : (entries : Entries) → Fit (keys_of table.Trust) entries → IsMoment (number_at To entries)
trust_to entries fit = number_within To _ _ (keys_of table.Trust) entries _ refl (λ lacks. lacks) (λ m h. h) fit

pub weight_weight : (entries : Entries) → Fit (keys_of table.Weight) entries → (pos 1 ≤ℤ number_at Weight entries) × (number_at Weight entries ≤ℤ pos MOST_WEIGHT)
weight_weight entries fit = number_within Weight _ _ (keys_of table.Weight) entries _ refl (λ lacks. lacks) (λ m h. h) fit

pub weight_from : (entries : Entries) → Fit (keys_of table.Weight) entries → IsMoment (number_at From entries)
weight_from entries fit = number_within From _ _ (keys_of table.Weight) entries _ refl (λ lacks. lacks) (λ m h. h) fit

pub weight_to : (entries : Entries) → Fit (keys_of table.Weight) entries → IsMoment (number_at To entries)
weight_to entries fit = number_within To _ _ (keys_of table.Weight) entries _ refl (λ lacks. lacks) (λ m h. h) fit

pub between_min : (entries : Entries) → Fit (keys_of table.Between) entries → IsUnits (number_at Min entries)
between_min entries fit = number_within Min _ _ (keys_of table.Between) entries _ refl (λ lacks. lacks) (λ m h. h) fit

pub between_max : (entries : Entries) → Fit (keys_of table.Between) entries → IsUnits (number_at Max entries)
between_max entries fit = number_within Max _ _ (keys_of table.Between) entries _ refl (λ lacks. lacks) (λ m h. h) fit

pub speed_sensor : (entries : Entries) → Fit (keys_of table.Speed) entries → IsSome (name_at Sensor entries)
speed_sensor entries fit = name_there Sensor (keys_of table.Speed) entries refl fit

pub swing_sensor : (entries : Entries) → Fit (keys_of table.Swing) entries → IsSome (name_at Sensor entries)
swing_sensor entries fit = name_there Sensor (keys_of table.Swing) entries refl fit

pub drift_sensor : (entries : Entries) → Fit (keys_of table.Drift) entries → IsSome (name_at Sensor entries)
drift_sensor entries fit = name_there Sensor (keys_of table.Drift) entries refl fit

pub range_sensor : (entries : Entries) → Fit (keys_of table.Range) entries → IsSome (name_at Sensor entries)
range_sensor entries fit = name_there Sensor (keys_of table.Range) entries refl fit

pub trust_sensor : (entries : Entries) → Fit (keys_of table.Trust) entries → IsSome (name_at Sensor entries)
trust_sensor entries fit = name_there Sensor (keys_of table.Trust) entries refl fit

pub weight_sensor : (entries : Entries) → Fit (keys_of table.Weight) entries → IsSome (name_at Sensor entries)
weight_sensor entries fit = name_there Sensor (keys_of table.Weight) entries refl fit

pub between_first : (entries : Entries) → Fit (keys_of table.Between) entries → IsSome (name_at First entries)
between_first entries fit = name_there First (keys_of table.Between) entries refl fit

pub between_second : (entries : Entries) → Fit (keys_of table.Between) entries → IsSome (name_at Second entries)
between_second entries fit = name_there Second (keys_of table.Between) entries refl fit

pub speed_price : (entries : Entries) → Fit (keys_of table.Speed) entries → (pos 0 ≤ℤ number_at Price entries) × (number_at Price entries ≤ℤ pos MOST_PRICE)
speed_price entries fit = price_within (keys_of table.Speed) entries refl fit

pub swing_price : (entries : Entries) → Fit (keys_of table.Swing) entries → (pos 0 ≤ℤ number_at Price entries) × (number_at Price entries ≤ℤ pos MOST_PRICE)
swing_price entries fit = price_within (keys_of table.Swing) entries refl fit

pub drift_price : (entries : Entries) → Fit (keys_of table.Drift) entries → (pos 0 ≤ℤ number_at Price entries) × (number_at Price entries ≤ℤ pos MOST_PRICE)
drift_price entries fit = price_within (keys_of table.Drift) entries refl fit

pub range_price : (entries : Entries) → Fit (keys_of table.Range) entries → (pos 0 ≤ℤ number_at Price entries) × (number_at Price entries ≤ℤ pos MOST_PRICE)
range_price entries fit = price_within (keys_of table.Range) entries refl fit

pub between_price : (entries : Entries) → Fit (keys_of table.Between) entries → (pos 0 ≤ℤ number_at Price entries) × (number_at Price entries ≤ℤ pos MOST_PRICE)
between_price entries fit = price_within (keys_of table.Between) entries refl fit

-- a price as the code holds it
pub price_held : (z : ℤ) (price : ℕ) → z ≡ pos price → (pos 0 ≤ℤ z) × (z ≤ℤ pos MOST_PRICE) → price ≤ MOST_PRICE
price_held z price is limits = omega (arith, ints)

-- a number of 64 bits as the code holds it
pub as_held : (x z : ℤ) → x ≡ z → IsMoment z → to_z w64 (of_z w64 x) ≡ z
as_held x z is limits = let fits : FitsSigned w64 x = omega (arith, ints) in to_z-of_z w64 x fits ∙ is

pub span_held : (x z : ℤ) → x ≡ z → IsSpan z → IsSpan (to_z w64 (of_z w64 x))
span_held x z is limits =
    let within : IsMoment z = (omega (arith, ints), omega (arith, ints)) in
    rw (as_held x z is within) limits

pub moment_held : (x z : ℤ) → x ≡ z → IsMoment z → IsMoment (to_z w64 (of_z w64 x))
moment_held x z is limits = rw (as_held x z is limits) limits

pub units_held : (x z : ℤ) → x ≡ z → IsUnits z → IsUnits (to_z w64 (of_z w64 x))
units_held x z is limits =
    let within : IsMoment z = (omega (arith, ints), omega (arith, ints)) in
    rw (as_held x z is within) limits

pub ordered_held : (x y a b : ℤ) → x ≡ a → y ≡ b → IsMoment a → IsMoment b → a ≤ℤ b → to_z w64 (of_z w64 x) ≤ℤ to_z w64 (of_z w64 y)
ordered_held x y a b is_a is_b of_a of_b ordered = rw (as_held x a is_a of_a, as_held y b is_b of_b) ordered

pub period_held : (x y a b : ℤ) → x ≡ a → y ≡ b → IsMoment a → IsMoment b → a ≤ℤ b → IsPeriod (to_z w64 (of_z w64 x)) (to_z w64 (of_z w64 y))
period_held x y a b is_a is_b of_a of_b ordered =
    (moment_held x a is_a of_a, moment_held y b is_b of_b, ordered_held x y a b is_a is_b of_a of_b ordered)

pub moment_from_units : (z : ℤ) → IsUnits z → IsMoment z
moment_from_units z limits = (omega (arith, ints), omega (arith, ints))

pub moment_from_span : (z : ℤ) → IsSpan z → IsMoment z
moment_from_span z limits = (omega (arith, ints), omega (arith, ints))
