-- What is read at a key is of the key's kind, so that the reach of a rate can be reckoned.
use Rattle.std.proofs.Common.{◌≡◌, ℕ, zero, suc, ◌*◌, ◌^◌, ◌≤◌, ℤ, pos, neg_ℤ, ◌≤ℤ◌, Bool, true, false, List, [], ◌∷◌, Ok, Option, Some, None, unsigned_abs, refl, inl, inr, codes, arith, rules, if◌then◌else◌}
use Rattle.std.proofs.lemmas.Int.{ints}
use Rattle.std.specs.Fmt.{signed_decimal}
use Rattle.std.specs.List.{AllByRecursion}
use Rattle.fix_point.specs.Grammar.{Sign, none, plus, minus}
use Rattle.fix_point.specs.Scaled.{IsScaled, signed}
use Rattle.fix_point.specs.declared.scale.Extra.TheVariants.{Refuse}
use Rattle.fix_point.specs.declared.scale.TheConstants.{MOST_UNITS}
use Rattle.time_text.specs.Ticks.{Spells}
use Rattle.time_text.specs.Trimmed.{trimmed}
use Rattle.time_text.specs.declared.form.TimeForm.{TimeForm}
use Rattle.time_text.specs.declared.form.TimeForm.TheVariants.{Sec, Milli, Micro, Nano, Instant, Civil}
use Rattle.words.proofs.Products.{within_size, size_within}
use Rattle.toml.specs.Data.{Data, string, integer, float, boolean, datetime, array, table, Members}
use Rattle.rule_keys.specs.declared.key.TableKind.{TableKind}
use Rattle.rule_keys.specs.declared.key.TableKind.TheVariants as kind_of
use Rattle.rule_keys.specs.declared.key.KeyName.{KeyName}
use Rattle.rule_keys.specs.declared.key.KeyName.TheVariants.{Min, Max, Per, Window}
use Rattle.rule_keys.specs.declared.key.Choice.{Choice}
use Rattle.rule_keys.specs.declared.key.Chosen.{Chosen as ChosenWord}
use Rattle.rule_keys.specs.declared.key.Kind.{Kind}
use Rattle.rule_keys.specs.declared.key.Kind.TheVariants.{Whole, Value, Amount, Rate, Span, Moment, Name, Word}
use Rattle.rule_keys.specs.declared.key.Absent.{Absent}
use Rattle.rule_keys.specs.declared.key.Absent.TheVariants.{Refused, Number, Chosen, Nothing}
use Rattle.rule_keys.specs.declared.key.Key.{Key}
use Rattle.rule_keys.specs.declared.read.Scale.{Scale}
use Rattle.fix_point.specs.declared.rate.TheConstants.{MOST_MILLIONTHS, MOST_PER, MOST_SPAN}
use Rattle.rule_keys.specs.Entries.{Meaning, number, name, chosen, nothing, is_same_key, meaning_at, number_at, number_in, IsWithin, IsMeant, IsOfKind, MayLack, CanStandAt, Fit}
use Rattle.rule_keys.specs.Keys.{key_of, keys_of, checks_of}
use Rattle.rule_keys.specs.Table.{ReadsAbsent, ReadsFound, ReadsKeys, Reads}
use Rattle.rule_keys.specs.Values.{ReadsWhole, ReadsScaled, ReadsMoment, ReadsWord, ReadsName, ReadsValue, ReadsInteger}
use Rattle.rule_keys.specs.Within.{HasSmallNumbers}
use Rattle.rule_keys.specs.Words.{words}

size_of_opposite : (n : ℕ) → unsigned_abs (neg_ℤ (pos n)) ≡ n
size_of_opposite zero = refl
size_of_opposite (suc n) = refl

size_of_signed : (sign : Sign) (n : ℕ) → unsigned_abs (signed sign n) ≡ n
size_of_signed none n = refl
size_of_signed plus n = refl
size_of_signed minus n = size_of_opposite n

-- a number text in range
scaled_within : (text : List ℕ) (d n : ℕ) (z : ℤ) → IsScaled text d Refuse (pos n) z → IsWithin (neg_ℤ (pos n)) (pos n) (number z)
scaled_within text d n z is =
    within_size z n (rw (is.value_is, size_of_signed is.parts.sign is.size) is.small)

whole_within : (least most : ℕ) (found : Data) (z : ℤ) → ReadsWhole least most found (Ok z) → IsWithin (pos least) (pos most) (number z)
whole_within least most (integer w) z reads = rw (reads.0) (reads.1, reads.2)
whole_within least most (string s) z reads = cc
whole_within least most (float x) z reads = cc
whole_within least most (boolean b) z reads = cc
whole_within least most (datetime t) z reads = cc
whole_within least most (array items) z reads = cc
whole_within least most (table _) z reads = cc

units_within : (d n : ℕ) (found : Data) (z : ℤ) → ReadsScaled d n found (Ok z) → IsWithin (neg_ℤ (pos n)) (pos n) (number z)
units_within d n (integer w) z reads = within_size z n reads.1
units_within d n (string s) z reads = scaled_within s d n z reads
units_within d n (float x) z reads = cc
units_within d n (boolean b) z reads = cc
units_within d n (datetime t) z reads = cc
units_within d n (array items) z reads = cc
units_within d n (table _) z reads = cc

time_within : (form : TimeForm) (text : List ℕ) (z : ℤ) → Spells form text z → IsWithin (neg_ℤ (pos (9 * 10 ^ 18))) (pos (9 * 10 ^ 18)) (number z)
time_within Sec text z is = scaled_within (trimmed text) 9 (9 * 10 ^ 18) z is
time_within Milli text z is = scaled_within (trimmed text) 6 (9 * 10 ^ 18) z is
time_within Micro text z is = scaled_within (trimmed text) 3 (9 * 10 ^ 18) z is
time_within Nano text z is = scaled_within (trimmed text) 0 (9 * 10 ^ 18) z is
time_within Instant text z is = within_size z (9 * 10 ^ 18) is.small
time_within Civil text z is = within_size z (9 * 10 ^ 18) is.small

integer_within : (form : TimeForm) (w z : ℤ) → ReadsInteger form w (Ok z) → IsWithin (neg_ℤ (pos (9 * 10 ^ 18))) (pos (9 * 10 ^ 18)) (number z)
integer_within Sec w z reads = time_within Sec (signed_decimal w) z reads
integer_within Milli w z reads = time_within Milli (signed_decimal w) z reads
integer_within Micro w z reads = time_within Micro (signed_decimal w) z reads
integer_within Nano w z reads = time_within Nano (signed_decimal w) z reads
integer_within Instant w z reads = cc
integer_within Civil w z reads = cc

moment_within : (form : TimeForm) (found : Data) (z : ℤ) → ReadsMoment form found (Ok z) → IsWithin (neg_ℤ (pos (9 * 10 ^ 18))) (pos (9 * 10 ^ 18)) (number z)
moment_within form (integer w) z reads = integer_within form w z reads
moment_within form (string s) z reads = time_within form s z reads
moment_within form (float x) z reads = cc
moment_within form (boolean b) z reads = cc
moment_within form (datetime t) z reads = cc
moment_within form (array items) z reads = cc
moment_within form (table _) z reads = cc

word_meant : (choice : Choice) (found : Data) (c : ChosenWord) → ReadsWord choice found (Ok (chosen c)) → IsMeant (words choice) (chosen c)
word_meant choice (string s) c reads = (s, reads)
word_meant choice (integer w) c reads = cc
word_meant choice (float x) c reads = cc
word_meant choice (boolean b) c reads = cc
word_meant choice (datetime t) c reads = cc
word_meant choice (array items) c reads = cc
word_meant choice (table _) c reads = cc

no_number_word : (choice : Choice) (found : Data) (z : ℤ) → ReadsWord choice found (Ok (number z)) → ⊥
no_number_word choice (string s) z reads = reads
no_number_word choice (integer w) z reads = absurd (cc reads)
no_number_word choice (float x) z reads = absurd (cc reads)
no_number_word choice (boolean b) z reads = absurd (cc reads)
no_number_word choice (datetime t) z reads = absurd (cc reads)
no_number_word choice (array items) z reads = absurd (cc reads)
no_number_word choice (table _) z reads = absurd (cc reads)

no_name_word : (choice : Choice) (found : Data) (t : List ℕ) → ReadsWord choice found (Ok (name t)) → ⊥
no_name_word choice (string s) z reads = reads
no_name_word choice (integer w) z reads = absurd (cc reads)
no_name_word choice (float x) z reads = absurd (cc reads)
no_name_word choice (boolean b) z reads = absurd (cc reads)
no_name_word choice (datetime t) z reads = absurd (cc reads)
no_name_word choice (array items) z reads = absurd (cc reads)
no_name_word choice (table _) z reads = absurd (cc reads)

no_nothing_word : (choice : Choice) (found : Data) → ReadsWord choice found (Ok nothing) → ⊥
no_nothing_word choice (string s) reads = reads
no_nothing_word choice (integer w) reads = absurd (cc reads)
no_nothing_word choice (float x) reads = absurd (cc reads)
no_nothing_word choice (boolean b) reads = absurd (cc reads)
no_nothing_word choice (datetime t) reads = absurd (cc reads)
no_nothing_word choice (array items) reads = absurd (cc reads)
no_nothing_word choice (table _) reads = absurd (cc reads)

no_number_name : (found : Data) (z : ℤ) → ReadsName found (Ok (number z)) → ⊥
no_number_name (string s) z reads = absurd (cc reads)
no_number_name (integer w) z reads = absurd (cc reads)
no_number_name (float x) z reads = absurd (cc reads)
no_number_name (boolean b) z reads = absurd (cc reads)
no_number_name (datetime t) z reads = absurd (cc reads)
no_number_name (array items) z reads = absurd (cc reads)
no_number_name (table _) z reads = absurd (cc reads)

no_chosen_name : (found : Data) (c : ChosenWord) → ReadsName found (Ok (chosen c)) → ⊥
no_chosen_name (string s) c reads = absurd (cc reads)
no_chosen_name (integer w) c reads = absurd (cc reads)
no_chosen_name (float x) c reads = absurd (cc reads)
no_chosen_name (boolean b) c reads = absurd (cc reads)
no_chosen_name (datetime t) c reads = absurd (cc reads)
no_chosen_name (array items) c reads = absurd (cc reads)
no_chosen_name (table _) c reads = absurd (cc reads)

no_nothing_name : (found : Data) → ReadsName found (Ok nothing) → ⊥
no_nothing_name (string s) reads = absurd (cc reads)
no_nothing_name (integer w) reads = absurd (cc reads)
no_nothing_name (float x) reads = absurd (cc reads)
no_nothing_name (boolean b) reads = absurd (cc reads)
no_nothing_name (datetime t) reads = absurd (cc reads)
no_nothing_name (array items) reads = absurd (cc reads)
no_nothing_name (table _) reads = absurd (cc reads)

number_fits : (scale : Scale) (kind : Kind) (found : Data) (z : ℤ) → ReadsValue scale kind found (Ok (number z)) → IsOfKind kind (number z)
number_fits scale (Whole least most) found z reads = whole_within least most found z reads
number_fits scale Value found z reads = units_within scale.decimals (unsigned_abs MOST_UNITS) found z reads
number_fits scale Amount found z reads = (reads.1, (units_within scale.decimals (unsigned_abs MOST_UNITS) found z reads.0).1)
number_fits scale Rate found z reads = units_within 6 MOST_MILLIONTHS found z reads
number_fits scale Span found z reads = (reads.1, (units_within 9 MOST_SPAN found z reads.0).1)
number_fits scale Moment found z reads = moment_within scale.form found z reads
number_fits scale (Word choice) found z reads = absurd (no_number_word choice found z reads)
number_fits scale Name found z reads = absurd (no_number_name found z reads)

name_fits : (scale : Scale) (kind : Kind) (found : Data) (s : List ℕ) → ReadsValue scale kind found (Ok (name s)) → IsOfKind kind (name s)
name_fits scale Name found s reads = tt
name_fits scale (Whole least most) found s reads = absurd reads
name_fits scale Value found s reads = absurd reads
name_fits scale Amount found s reads = absurd reads
name_fits scale Rate found s reads = absurd reads
name_fits scale Span found s reads = absurd reads
name_fits scale Moment found s reads = absurd reads
name_fits scale (Word choice) found s reads = absurd (no_name_word choice found s reads)

chosen_fits : (scale : Scale) (kind : Kind) (found : Data) (c : ChosenWord) → ReadsValue scale kind found (Ok (chosen c)) → IsOfKind kind (chosen c)
chosen_fits scale Name found c reads = absurd (no_chosen_name found c reads)
chosen_fits scale (Whole least most) found c reads = absurd reads
chosen_fits scale Value found c reads = absurd reads
chosen_fits scale Amount found c reads = absurd reads
chosen_fits scale Rate found c reads = absurd reads
chosen_fits scale Span found c reads = absurd reads
chosen_fits scale Moment found c reads = absurd reads
chosen_fits scale (Word choice) found c reads = word_meant choice found c reads

nothing_read : (scale : Scale) (kind : Kind) (found : Data) → ReadsValue scale kind found (Ok nothing) → ⊥
nothing_read scale Name found reads = no_nothing_name found reads
nothing_read scale (Whole least most) found reads = reads
nothing_read scale Value found reads = reads
nothing_read scale Amount found reads = reads
nothing_read scale Rate found reads = reads
nothing_read scale Span found reads = reads
nothing_read scale Moment found reads = reads
nothing_read scale (Word choice) found reads = no_nothing_word choice found reads

value_stands : (scale : Scale) (key : Key) (found : Data) (m : Meaning) → ReadsValue scale key.kind found (Ok m) → CanStandAt key m
value_stands scale key found (number z) reads = number_fits scale key.kind found z reads
value_stands scale key found (name s) reads = name_fits scale key.kind found s reads
value_stands scale key found (chosen c) reads = chosen_fits scale key.kind found c reads
value_stands scale key found nothing reads = absurd (nothing_read scale key.kind found reads)

-- what is taken in a key's place is of its kind
abbrev pub IsFitDefault : Kind → Absent → Type 0
IsFitDefault kind Refused = Unit {0}
IsFitDefault kind (Number z) = IsOfKind kind (number z)
IsFitDefault kind (Chosen c) = IsOfKind kind (chosen c)
IsFitDefault kind Nothing = Unit {0}

absent_stands : (n : KeyName) (kind : Kind) (absent : Absent) (m : Meaning) → IsFitDefault kind absent → ReadsAbsent absent (Ok m) → CanStandAt (key_of n kind absent) m
absent_stands n kind Refused m fit reads = absurd (cc reads)
absent_stands n kind (Number z) m fit reads = let same : m ≡ number z = cc in rw same fit
absent_stands n kind (Chosen c) m fit reads = let same : m ≡ chosen c = cc in rw same fit
absent_stands n kind Nothing m fit reads = let same : m ≡ nothing = cc in rw same tt

found_stands : (scale : Scale) (key : Key) (found : Option Data) (m : Meaning) → IsFitDefault key.kind key.absent → ReadsFound scale key found (Ok m) → CanStandAt key m
found_stands scale key None m fit reads = absent_stands key.name key.kind key.absent m fit reads
found_stands scale key (Some value) m fit reads = value_stands scale key value m reads

pub fit_of_reads : (scale : Scale) (given : Members) (keys : List Key) (entries : List (KeyName × Meaning))
    → AllByRecursion (λ key. IsFitDefault key.kind key.absent) keys → ReadsKeys scale given keys (Ok entries) → Fit keys entries
fit_of_reads scale given [] [] fits reads = tt
fit_of_reads scale given [] (e ∷ es) fits reads = cc
fit_of_reads scale given (key ∷ keys) [] fits reads = absurd reads
fit_of_reads scale given (key ∷ keys) (e ∷ es) fits reads =
    ((reads.0, found_stands scale key _ e.1 fits.0 reads.1), fit_of_reads scale given keys es fits.1 reads.2)

pub defaults_fit : (kind : TableKind) → AllByRecursion (λ key. IsFitDefault key.kind key.absent) (keys_of kind)
defaults_fit kind_of.Format = (tt, (tt, ((codes "s", inl (refl, refl)), ((codes ",", inl (refl, refl)), ((codes "refuse", inl (refl, refl)), ((omega (arith, ints), omega (arith, ints)), tt))))))
defaults_fit kind_of.Speed = search rules
defaults_fit kind_of.Swing = search rules
defaults_fit kind_of.Drift = search rules
defaults_fit kind_of.Range = search rules
defaults_fit kind_of.Trust = search rules
defaults_fit kind_of.Weight = search rules
defaults_fit kind_of.Between = search rules

pub fits_if_read : (scale : Scale) (kind : TableKind) (given : Members) (entries : List (KeyName × Meaning)) → Reads scale kind given (Ok entries) → Fit (keys_of kind) entries
fits_if_read scale kind given entries (inl refused) = absurd (cc refused.1)
fits_if_read scale kind given entries (inr read) = fit_of_reads scale given (keys_of kind) entries (defaults_fit kind) read.1.0

-- the key of a name among some keys
abbrev pub key_named : KeyName → List Key → Option Key
key_named n [] = None
key_named n (key ∷ keys) = if is_same_key n key.name then Some key else key_named n keys

either_stands : (same : Bool) (key wanted : Key) (others : Option Key) (m rest : Meaning) → (if same then Some key else others) ≡ Some wanted
    → CanStandAt key m → (others ≡ Some wanted → CanStandAt wanted rest) → CanStandAt wanted (if same then m else rest)
either_stands true key wanted others m rest is here later = let is_it : key ≡ wanted = cc in rw (← is_it) here
either_stands false key wanted others m rest is here later = later is

-- what was read at a key can stand there
pub entry_stands : (n : KeyName) (keys : List Key) (entries : List (KeyName × Meaning)) (wanted : Key)
    → key_named n keys ≡ Some wanted → Fit keys entries → CanStandAt wanted (meaning_at n entries)
entry_stands n [] entries wanted is fit = cc
entry_stands n (key ∷ keys) [] wanted is fit = absurd fit
entry_stands n (key ∷ keys) (e ∷ es) wanted is fit =
    rw fit.0.0 (either_stands (is_same_key n key.name) key wanted (key_named n keys) e.1 (meaning_at n es) is fit.0.1 (λ later. entry_stands n keys es wanted later fit.1))

-- and is of the key's kind, unless the table may do without it
pub of_kind : (key : Key) (m : Meaning) → (MayLack key.absent → ⊥) → CanStandAt key m → IsOfKind key.kind m
of_kind key (number z) there stands = stands
of_kind key (name s) there stands = stands
of_kind key (chosen c) there stands = stands
of_kind key nothing there stands = absurd (there stands)

pub entry_fits : (n : KeyName) (keys : List Key) (entries : List (KeyName × Meaning)) (wanted : Key)
    → key_named n keys ≡ Some wanted → (MayLack wanted.absent → ⊥) → Fit keys entries → IsOfKind wanted.kind (meaning_at n entries)
entry_fits n keys entries wanted is there fit = of_kind wanted (meaning_at n entries) there (entry_stands n keys entries wanted is fit)

number_size : (m : Meaning) (least : ℤ) (n : ℕ) → neg_ℤ (pos n) ≤ℤ least → IsWithin least (pos n) m → unsigned_abs (number_in m) ≤ n
number_size (number z) least n low within = size_within z n (omega (arith, ints, low, within.0)) within.1
number_size (name s) least n low within = absurd within
number_size (chosen c) least n low within = absurd within
number_size nothing least n low within = absurd within

-- a rate, its `per` and its window
rate_within : (keys : List Key) (entries : List (KeyName × Meaning)) (rate : KeyName)
    → key_named rate keys ≡ Some (key_of rate Rate Refused) → key_named Per keys ≡ Some (key_of Per (Whole 1 MOST_PER) (Number (pos 1)))
    → key_named Window keys ≡ Some (key_of Window Span Refused) → Fit keys entries
    → (unsigned_abs (number_at rate entries) ≤ MOST_MILLIONTHS) × (unsigned_abs (number_at Per entries) ≤ MOST_PER) × (unsigned_abs (number_at Window entries) ≤ MOST_SPAN)
rate_within keys entries rate of_rate of_per of_window fit = (
  number_size (meaning_at rate entries) (neg_ℤ (pos MOST_MILLIONTHS)) MOST_MILLIONTHS (omega (arith, ints)) (entry_fits rate keys entries _ of_rate (λ lacks. lacks) fit),
  number_size (meaning_at Per entries) (pos 1) MOST_PER (omega (arith, ints)) (entry_fits Per keys entries _ of_per (λ lacks. lacks) fit),
  number_size (meaning_at Window entries) (pos 1) MOST_SPAN (omega (arith, ints)) (entry_fits Window keys entries _ of_window (λ lacks. lacks) fit),
)

pub checks_within : (kind : TableKind) (entries : List (KeyName × Meaning)) → Fit (keys_of kind) entries → AllByRecursion (HasSmallNumbers entries) (checks_of kind)
checks_within kind_of.Format entries fit = tt
checks_within kind_of.Speed entries fit = (
  tt,
  (
    rate_within (keys_of kind_of.Speed) entries Min refl refl refl fit,
    (rate_within (keys_of kind_of.Speed) entries Max refl refl refl fit, tt),
  ),
)
checks_within kind_of.Swing entries fit = tt
checks_within kind_of.Drift entries fit = (
  tt,
  (
    tt,
    (
      rate_within (keys_of kind_of.Drift) entries Min refl refl refl fit,
      (rate_within (keys_of kind_of.Drift) entries Max refl refl refl fit, tt),
    ),
  ),
)
checks_within kind_of.Range entries fit = (tt, (tt, tt))
checks_within kind_of.Trust entries fit = (tt, tt)
checks_within kind_of.Weight entries fit = (tt, tt)
checks_within kind_of.Between entries fit = (tt, (tt, tt))
