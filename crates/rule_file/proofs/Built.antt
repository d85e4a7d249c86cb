-- What was read from the tables of a file means rules.
use Rattle.std.proofs.Common.{◌≡◌, ℕ, ◌+◌, ◌≤◌, ℤ, pos, negsuc, ◌≤ℤ◌, List, [], ◌∷◌, length, Option, Some, None, refl, sym, ap, ◌∙◌, subst, arith}
use Rattle.std.specs.Prelude.{Ok, IsSome}
use Rattle.std.specs.List.{AllByRecursion, AllZip}
use Rattle.std.proofs.lemmas.Bool.{false≢true}
use Rattle.std.proofs.lemmas.Int.{ints}
use Rattle.std.proofs.lemmas.List.Elements.{All-from_recursion}
use Rattle.toml.specs.Data.{Members}
use Rattle.fix_point.specs.declared.rate.Rate.{Rate}
use Rattle.rule_keys.specs.declared.key.KeyName.TheVariants.{Decimals, Time, Form, Separator, Extra, Hold, Sensor, Min, Max, Per, Window, Most, Over, From, To, Weight as WeightKey, First, Second, Price}
use Rattle.rule_keys.specs.declared.key.TableKind.{TableKind}
use Rattle.rule_keys.specs.declared.key.TableKind.TheVariants as table
use Rattle.rule_keys.specs.declared.read.Scale.{Scale}
use Rattle.rule_keys.specs.Entries.{Fit, number_at, name_at, form_at, separator_at, extra_at}
use Rattle.rule_keys.specs.Keys.{keys_of}
use Rattle.rule_keys.proofs.Fits.{fits_if_read}
use Rattle.rule_file.specs.declared.rules.Format.{Format}
use Rattle.rule_file.specs.declared.rules.SpeedRule.{SpeedRule}
use Rattle.rule_file.specs.declared.rules.SwingRule.{SwingRule}
use Rattle.rule_file.specs.declared.rules.DriftRule.{DriftRule}
use Rattle.rule_file.specs.declared.rules.RangeRule.{RangeRule}
use Rattle.rule_file.specs.declared.rules.TrustRule.{TrustRule}
use Rattle.rule_file.specs.declared.rules.WeightRule.{WeightRule}
use Rattle.rule_file.specs.declared.rules.BetweenRule.{BetweenRule}
use Rattle.rule_file.specs.declared.rules.Rules.{Rules}
use Rattle.rule_file.specs.declared.rules.TheConstants.{MOST_RULES}
use Rattle.rule_file.specs.Document.{ReadsRules}
use Rattle.rule_file.specs.Limits.{AreInReach}
use Rattle.rule_file.specs.Meaning.{Entries, of_kind, IsFormatOf, IsSpeed, IsSwing, IsDrift, IsRange, IsTrust, IsWeight, IsBetween, AreRulesOf}
use Rattle.rule_file.proofs.Checks.{reads_passes}
use Rattle.rule_file.proofs.Facts.{format_limits, are_rates, speed_rates, speed_window, speed_sensor, speed_price, swing_sensor, swing_most, swing_window, swing_price, drift_sensor, drift_rates, drift_over, drift_window, drift_price, range_sensor, range_min, range_max, range_from, range_to, range_price, trust_sensor, trust_from, trust_to, weight_sensor, weight_weight, weight_from, weight_to, between_first, between_second, between_min, between_max, between_price, price_held}
use Rattle.rule_file.proofs.ByKind.{of_speeds, of_swings, of_drifts, of_ranges, of_trusts, of_weights, of_betweens, no_more}
use Rattle.rule_file.proofs.Reach.{PassesAll, speed_reaches, drift_reaches, carried}

some_value : {A : Type 0} (found : Option A) → IsSome found → (x : A) × (found ≡ Some x)
some_value None is = absurd (false≢true is)
some_value (Some x) is = (x, refl)

natural : (z : ℤ) → pos 0 ≤ℤ z → (n : ℕ) × (z ≡ pos n)
natural (pos n) least = (n, refl)
natural (negsuc n) least = absurd (omega (arith, ints, least))

-- entries that fit the keys of their kind, and pass its checks
abbrev pub Good : ℕ → TableKind → Entries → Type 0
Good d kind entries = Fit (keys_of kind) entries × PassesAll d kind entries

speed_built : (d : ℕ) (entries : Entries) → Good d table.Speed entries → (rule : SpeedRule) × IsSpeed entries rule
speed_built d entries (fit, passes) =
    let (sensor, named) = some_value (name_at Sensor entries) (speed_sensor entries fit) in
    let limits = speed_rates entries fit in
    let (per, seconds) = natural (number_at Per entries) (omega (arith, ints, limits.per.0)) in
    let (price, priced) = natural (number_at Price entries) (speed_price entries fit).0 in
    let min : Rate = record { millionths = number_at Min entries; per = per } in
    let max : Rate = record { millionths = number_at Max entries; per = per } in (
      record {
        sensor = sensor;
        min = min;
        max = max;
        window = number_at Window entries;
        price = price;
        rates = are_rates entries min max limits (refl, seconds) (refl, seconds) passes.0;
        span = speed_window entries fit;
        price_most = price_held _ price priced (speed_price entries fit);
      },
      record { sensor = named; min = (refl, seconds); max = (refl, seconds); window = refl; price = priced },
    )

swing_built : (d : ℕ) (entries : Entries) → Good d table.Swing entries → (rule : SwingRule) × IsSwing entries rule
swing_built d entries (fit, passes) =
    let (sensor, named) = some_value (name_at Sensor entries) (swing_sensor entries fit) in
    let most = swing_most entries fit in
    let (price, priced) = natural (number_at Price entries) (swing_price entries fit).0 in (
      record {
        sensor = sensor;
        most = number_at Most entries;
        window = number_at Window entries;
        price = price;
        least = most.0;
        size = (omega (arith, ints, most.0), most.1);
        span = swing_window entries fit;
        price_most = price_held _ price priced (swing_price entries fit);
      },
      record { sensor = named; most = refl; window = refl; price = priced },
    )

drift_built : (d : ℕ) (entries : Entries) → Good d table.Drift entries → (rule : DriftRule) × IsDrift entries rule
drift_built d entries (fit, passes) =
    let (sensor, named) = some_value (name_at Sensor entries) (drift_sensor entries fit) in
    let limits = drift_rates entries fit in
    let (per, seconds) = natural (number_at Per entries) (omega (arith, ints, limits.per.0)) in
    let (price, priced) = natural (number_at Price entries) (drift_price entries fit).0 in
    let min : Rate = record { millionths = number_at Min entries; per = per } in
    let max : Rate = record { millionths = number_at Max entries; per = per } in (
      record {
        sensor = sensor;
        min = min;
        max = max;
        over = number_at Over entries;
        window = number_at Window entries;
        price = price;
        rates = are_rates entries min max limits (refl, seconds) (refl, seconds) passes.0;
        least = (drift_over entries fit).0;
        ordered = passes.1.0;
        span = drift_window entries fit;
        price_most = price_held _ price priced (drift_price entries fit);
      },
      record { sensor = named; min = (refl, seconds); max = (refl, seconds); over = refl; window = refl; price = priced },
    )

range_built : (d : ℕ) (entries : Entries) → Good d table.Range entries → (rule : RangeRule) × IsRange entries rule
range_built d entries (fit, passes) =
    let (sensor, named) = some_value (name_at Sensor entries) (range_sensor entries fit) in
    let (price, priced) = natural (number_at Price entries) (range_price entries fit).0 in (
      record {
        sensor = sensor;
        min = number_at Min entries;
        max = number_at Max entries;
        from = number_at From entries;
        to = number_at To entries;
        price = price;
        least = range_min entries fit;
        most = range_max entries fit;
        ordered = passes.0;
        period = (range_from entries fit, range_to entries fit, passes.1.0);
        price_most = price_held _ price priced (range_price entries fit);
      },
      record { sensor = named; min = refl; max = refl; from = refl; to = refl; price = priced },
    )

trust_built : (d : ℕ) (entries : Entries) → Good d table.Trust entries → (rule : TrustRule) × IsTrust entries rule
trust_built d entries (fit, passes) =
    let (sensor, named) = some_value (name_at Sensor entries) (trust_sensor entries fit) in (
      record {
        sensor = sensor;
        from = number_at From entries;
        to = number_at To entries;
        period = (trust_from entries fit, trust_to entries fit, passes.0);
      },
      record { sensor = named; from = refl; to = refl },
    )

weight_built : (d : ℕ) (entries : Entries) → Good d table.Weight entries → (rule : WeightRule) × IsWeight entries rule
weight_built d entries (fit, passes) =
    let (sensor, named) = some_value (name_at Sensor entries) (weight_sensor entries fit) in
    let limits = weight_weight entries fit in
    let (weight, weighted) = natural (number_at WeightKey entries) (omega (arith, ints, limits.0)) in (
      record {
        sensor = sensor;
        weight = weight;
        from = number_at From entries;
        to = number_at To entries;
        least = omega (arith, ints, weighted, limits.0);
        most = omega (arith, ints, weighted, limits.1);
        period = (weight_from entries fit, weight_to entries fit, passes.0);
      },
      record { sensor = named; weight = weighted; from = refl; to = refl },
    )

between_built : (d : ℕ) (entries : Entries) → Good d table.Between entries → (rule : BetweenRule) × IsBetween entries rule
between_built d entries (fit, passes) =
    let (first, first_named) = some_value (name_at First entries) (between_first entries fit) in
    let (second, second_named) = some_value (name_at Second entries) (between_second entries fit) in
    let (price, priced) = natural (number_at Price entries) (between_price entries fit).0 in (
      record {
        first = first;
        second = second;
        min = number_at Min entries;
        max = number_at Max entries;
        price = price;
        apart = λ same. passes.1.0 (first_named ∙ (ap Some same ∙ sym second_named));
        least = between_min entries fit;
        most = between_max entries fit;
        ordered = passes.0;
        price_most = price_held _ price priced (between_price entries fit);
      },
      record { first = first_named; second = second_named; min = refl; max = refl; price = priced },
    )

pub format_built : (entries : Entries) → Fit (keys_of table.Format) entries → (format : Format) × IsFormatOf entries format
format_built entries fit =
    let limits = format_limits entries fit in
    let (decimals, counted) = natural (number_at Decimals entries) limits.decimals.0 in
    let (form, formed) = some_value (form_at Form entries) limits.form in
    let (separator, separated) = some_value (separator_at Separator entries) limits.separator in
    let (extra, extra_is) = some_value (extra_at Extra entries) limits.extra in
    let (hold, held) = natural (number_at Hold entries) (omega (arith, ints, limits.hold.0)) in (
      record {
        decimals = decimals;
        time = name_at Time entries;
        form = form;
        separator = separator;
        extra = extra;
        hold = hold;
        limits = record {
          decimals = omega (arith, ints, counted, limits.decimals.1);
          separator = limits.separator_is separator separated;
          hold_least = omega (arith, ints, held, limits.hold.0);
          hold_most = omega (arith, ints, held, limits.hold.1);
        };
      },
      record { decimals = counted; time = refl; form = formed; separator = separated; extra = extra_is; hold = held },
    )

-- ---- all rules

built : {R : Type 0} (Is : Entries → R → Type 0) (P : Entries → Type 0) → ((entries : Entries) → P entries → (rule : R) × Is entries rule)
    → (read : List Entries) → AllByRecursion P read → (rules : List R) × AllZip Is read rules
built Is P one [] all = ([], tt)
built Is P one (entries ∷ read) all =
    let (rule, is) = one entries all.0 in
    let (rules, are) = built Is P one read all.1 in
    (rule ∷ rules, (is, are))

zip_length : {A B : Type 0} (Is : A → B → Type 0) (xs : List A) (ys : List B) → AllZip Is xs ys → length xs ≡ length ys
zip_length Is [] [] zip = refl
zip_length Is [] (y ∷ ys) zip = absurd zip
zip_length Is (x ∷ xs) [] zip = absurd zip
zip_length Is (x ∷ xs) (y ∷ ys) zip = omega (arith, zip_length Is xs ys zip.1)

passes_of : (d : ℕ) (read : List (TableKind × Entries)) → AllByRecursion (λ rule. Good d rule.0 rule.1) read → AllByRecursion (λ rule. PassesAll d rule.0 rule.1) read
passes_of d [] all = tt
passes_of d (rule ∷ read) all = (all.0.1, passes_of d read all.1)

pub rules_built : (format : Format) (read : List (TableKind × Entries)) → AllByRecursion (λ rule. Good format.decimals rule.0 rule.1) read → length read ≤ MOST_RULES
    → (rules : Rules) × (rules.format ≡ format) × AreRulesOf read rules
rules_built format read all few =
    let d = format.decimals in
    let (speeds, are_speeds) = built IsSpeed (Good d table.Speed) (speed_built d) (of_kind table.Speed read) (of_speeds (Good d) read all) in
    let (swings, are_swings) = built IsSwing (Good d table.Swing) (swing_built d) (of_kind table.Swing read) (of_swings (Good d) read all) in
    let (drifts, are_drifts) = built IsDrift (Good d table.Drift) (drift_built d) (of_kind table.Drift read) (of_drifts (Good d) read all) in
    let (ranges, are_ranges) = built IsRange (Good d table.Range) (range_built d) (of_kind table.Range read) (of_ranges (Good d) read all) in
    let (trusts, are_trusts) = built IsTrust (Good d table.Trust) (trust_built d) (of_kind table.Trust read) (of_trusts (Good d) read all) in
    let (weights, are_weights) = built IsWeight (Good d table.Weight) (weight_built d) (of_kind table.Weight read) (of_weights (Good d) read all) in
    let (betweens, are_betweens) = built IsBetween (Good d table.Between) (between_built d) (of_kind table.Between read) (of_betweens (Good d) read all) in
    let passes = passes_of d read all in (
      record {
        format = format;
        speeds = speeds;
        swings = swings;
        drifts = drifts;
        ranges = ranges;
        trusts = trusts;
        weights = weights;
        betweens = betweens;
        few = omega (
          arith,
          few,
          no_more read,
          zip_length IsSpeed (of_kind table.Speed read) speeds are_speeds,
          zip_length IsSwing (of_kind table.Swing read) swings are_swings,
          zip_length IsDrift (of_kind table.Drift read) drifts are_drifts,
          zip_length IsRange (of_kind table.Range read) ranges are_ranges,
          zip_length IsTrust (of_kind table.Trust read) trusts are_trusts,
          zip_length IsWeight (of_kind table.Weight read) weights are_weights,
          zip_length IsBetween (of_kind table.Between read) betweens are_betweens,
        );
        speed_reach = All-from_recursion (λ (rule : SpeedRule). AreInReach d rule.min rule.max rule.window) speeds
            (carried IsSpeed (PassesAll d table.Speed) (λ (rule : SpeedRule). AreInReach d rule.min rule.max rule.window) (speed_reaches d) (of_kind table.Speed read) speeds are_speeds (of_speeds (PassesAll d) read passes));
        drift_reach = All-from_recursion (λ (rule : DriftRule). AreInReach d rule.min rule.max rule.window) drifts
            (carried IsDrift (PassesAll d table.Drift) (λ (rule : DriftRule). AreInReach d rule.min rule.max rule.window) (drift_reaches d) (of_kind table.Drift read) drifts are_drifts (of_drifts (PassesAll d) read passes));
      },
      refl,
      record {
        speeds = are_speeds;
        swings = are_swings;
        drifts = are_drifts;
        ranges = are_ranges;
        trusts = are_trusts;
        weights = are_weights;
        betweens = are_betweens;
      },
    )

-- what was read of the tables of a file
pub all_good : (scale : Scale) (number : ℕ) (tables : List (TableKind × Members)) (read : List (TableKind × Entries))
    → ReadsRules scale number tables (Ok read) → AllByRecursion (λ rule. Good scale.decimals rule.0 rule.1) read
all_good scale number [] [] reads = tt
all_good scale number [] (entry ∷ read) reads = absurd (cc reads)
all_good scale number (rule ∷ tables) [] reads = absurd reads
all_good scale number (rule ∷ tables) (entry ∷ read) reads =
    let good : Good scale.decimals rule.0 entry.1 = (fits_if_read scale rule.0 rule.1 entry.1 reads.1, reads_passes scale rule.0 rule.1 entry.1 reads.1) in
    (subst (λ kind. Good scale.decimals kind entry.1) (sym reads.0) good, all_good scale (number + 1) tables read reads.2)

pub as_many : (scale : Scale) (number : ℕ) (tables : List (TableKind × Members)) (read : List (TableKind × Entries))
    → ReadsRules scale number tables (Ok read) → length read ≡ length tables
as_many scale number [] [] reads = refl
as_many scale number [] (entry ∷ read) reads = absurd (cc reads)
as_many scale number (rule ∷ tables) [] reads = absurd reads
as_many scale number (rule ∷ tables) (entry ∷ read) reads = omega (arith, as_many scale (number + 1) tables read reads.2)
