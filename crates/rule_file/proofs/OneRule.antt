-- The entries of a table mean one rule.
use mathlib.Core.HLevel.{is_prop→PathP}
use Rattle.std.proofs.Common.{◌≡◌, ◌≢◌, ◌≤◌, ◌≤ℤ◌, pos, List, [], ◌∷◌, Option, Some, refl, sym, ◌∙◌}
use Rattle.std.specs.List.{All, AllZip}
use Rattle.std.proofs.Props.{props}
use Rattle.fix_point.specs.declared.rate.Rate.{Rate}
use Rattle.rule_keys.specs.declared.key.KeyName.{KeyName}
use Rattle.rule_keys.specs.declared.key.KeyName.TheVariants.{Decimals, Form, Separator, Extra, Hold, Sensor, Min, Max, Per, Weight, First, Second, Price}
use Rattle.rule_keys.specs.declared.key.TableKind.{TableKind}
use Rattle.rule_keys.specs.declared.key.TableKind.TheVariants as table
use Rattle.rule_keys.specs.Entries.{number_at, name_at, form_at, separator_at, extra_at}
use Rattle.rule_file.specs.declared.rules.Format.{Format}
use Rattle.rule_file.specs.declared.rules.SpeedRule.{SpeedRule}
use Rattle.rule_file.specs.declared.rules.SwingRule.{SwingRule}
use Rattle.rule_file.specs.declared.rules.DriftRule.{DriftRule}
use Rattle.rule_file.specs.declared.rules.RangeRule.{RangeRule}
use Rattle.rule_file.specs.declared.rules.TrustRule.{TrustRule}
use Rattle.rule_file.specs.declared.rules.WeightRule.{WeightRule}
use Rattle.rule_file.specs.declared.rules.BetweenRule.{BetweenRule}
use Rattle.rule_file.specs.declared.rules.Rules.{Rules}
use Rattle.rule_file.specs.declared.rules.TheConstants.{MOST_RULES}
use Rattle.rule_keys.specs.declared.limits.TheConstants.{MOST_PRICE, MOST_WEIGHT}
use Rattle.rule_file.specs.Count.{count_of}
use Rattle.rule_file.specs.Limits.{IsFormat, AreRates, IsSpan, IsUnits, IsPeriod, AreInReach}
use Rattle.rule_file.proofs.Facts.{same_number}
use Rattle.rule_file.specs.Meaning.{Entries, of_kind, IsFormatOf, IsRateAt, IsSpeed, IsSwing, IsDrift, IsRange, IsTrust, IsWeight, IsBetween, AreRulesOf}

same_value : {A : Type 0} (found : Option A) (one other : A) → found ≡ Some one → found ≡ Some other → one ≡ other
same_value found one other p q = cc

one_rate : (key : KeyName) (entries : Entries) (one other : Rate) → IsRateAt key entries one → IsRateAt key entries other → one ≡ other
one_rate key entries one other p q =
    let same_millionths : one.millionths ≡ other.millionths = sym p.0 ∙ q.0 in
    let same_per : one.per ≡ other.per = same_number (number_at Per entries) one.per other.per p.1 q.1 in
    λ i. record { millionths = same_millionths i; per = same_per i }

one_speed : (entries : Entries) (one other : SpeedRule) → IsSpeed entries one → IsSpeed entries other → one ≡ other
one_speed entries one other p q =
    let same_sensor : one.sensor ≡ other.sensor = same_value (name_at Sensor entries) one.sensor other.sensor p.sensor q.sensor in
    let same_min : one.min ≡ other.min = one_rate Min entries one.min other.min p.min q.min in
    let same_max : one.max ≡ other.max = one_rate Max entries one.max other.max p.max q.max in
    let same_window : one.window ≡ other.window = sym p.window ∙ q.window in
    let same_price : one.price ≡ other.price = same_number (number_at Price entries) one.price other.price p.price q.price in
    λ i. record {
      sensor = same_sensor i;
      min = same_min i;
      max = same_max i;
      window = same_window i;
      price = same_price i;
      rates = is_prop→PathP (λ i. AreRates (same_min i) (same_max i)) (λ i. hlevel props) one.rates other.rates i;
      span = is_prop→PathP (λ i. IsSpan (same_window i)) (λ i. hlevel props) one.span other.span i;
      price_most = is_prop→PathP (λ i. same_price i ≤ MOST_PRICE) (λ i. hlevel props) one.price_most other.price_most i;
    }

one_swing : (entries : Entries) (one other : SwingRule) → IsSwing entries one → IsSwing entries other → one ≡ other
one_swing entries one other p q =
    let same_sensor : one.sensor ≡ other.sensor = same_value (name_at Sensor entries) one.sensor other.sensor p.sensor q.sensor in
    let same_most : one.most ≡ other.most = sym p.most ∙ q.most in
    let same_window : one.window ≡ other.window = sym p.window ∙ q.window in
    let same_price : one.price ≡ other.price = same_number (number_at Price entries) one.price other.price p.price q.price in
    λ i. record {
      sensor = same_sensor i;
      most = same_most i;
      window = same_window i;
      price = same_price i;
      least = is_prop→PathP (λ i. pos 0 ≤ℤ same_most i) (λ i. hlevel props) one.least other.least i;
      size = is_prop→PathP (λ i. IsUnits (same_most i)) (λ i. hlevel props) one.size other.size i;
      span = is_prop→PathP (λ i. IsSpan (same_window i)) (λ i. hlevel props) one.span other.span i;
      price_most = is_prop→PathP (λ i. same_price i ≤ MOST_PRICE) (λ i. hlevel props) one.price_most other.price_most i;
    }

one_drift : (entries : Entries) (one other : DriftRule) → IsDrift entries one → IsDrift entries other → one ≡ other
one_drift entries one other p q =
    let same_sensor : one.sensor ≡ other.sensor = same_value (name_at Sensor entries) one.sensor other.sensor p.sensor q.sensor in
    let same_min : one.min ≡ other.min = one_rate Min entries one.min other.min p.min q.min in
    let same_max : one.max ≡ other.max = one_rate Max entries one.max other.max p.max q.max in
    let same_over : one.over ≡ other.over = sym p.over ∙ q.over in
    let same_window : one.window ≡ other.window = sym p.window ∙ q.window in
    let same_price : one.price ≡ other.price = same_number (number_at Price entries) one.price other.price p.price q.price in
    λ i. record {
      sensor = same_sensor i;
      min = same_min i;
      max = same_max i;
      over = same_over i;
      window = same_window i;
      price = same_price i;
      rates = is_prop→PathP (λ i. AreRates (same_min i) (same_max i)) (λ i. hlevel props) one.rates other.rates i;
      least = is_prop→PathP (λ i. pos 1 ≤ℤ same_over i) (λ i. hlevel props) one.least other.least i;
      ordered = is_prop→PathP (λ i. same_over i ≤ℤ same_window i) (λ i. hlevel props) one.ordered other.ordered i;
      span = is_prop→PathP (λ i. IsSpan (same_window i)) (λ i. hlevel props) one.span other.span i;
      price_most = is_prop→PathP (λ i. same_price i ≤ MOST_PRICE) (λ i. hlevel props) one.price_most other.price_most i;
    }

one_range : (entries : Entries) (one other : RangeRule) → IsRange entries one → IsRange entries other → one ≡ other
one_range entries one other p q =
    let same_sensor : one.sensor ≡ other.sensor = same_value (name_at Sensor entries) one.sensor other.sensor p.sensor q.sensor in
    let same_min : one.min ≡ other.min = sym p.min ∙ q.min in
    let same_max : one.max ≡ other.max = sym p.max ∙ q.max in
    let same_from : one.from ≡ other.from = sym p.from ∙ q.from in
    let same_to : one.to ≡ other.to = sym p.to ∙ q.to in
    let same_price : one.price ≡ other.price = same_number (number_at Price entries) one.price other.price p.price q.price in
    λ i. record {
      sensor = same_sensor i;
      min = same_min i;
      max = same_max i;
      from = same_from i;
      to = same_to i;
      price = same_price i;
      least = is_prop→PathP (λ i. IsUnits (same_min i)) (λ i. hlevel props) one.least other.least i;
      most = is_prop→PathP (λ i. IsUnits (same_max i)) (λ i. hlevel props) one.most other.most i;
      ordered = is_prop→PathP (λ i. same_min i ≤ℤ same_max i) (λ i. hlevel props) one.ordered other.ordered i;
      period = is_prop→PathP (λ i. IsPeriod (same_from i) (same_to i)) (λ i. hlevel props) one.period other.period i;
      price_most = is_prop→PathP (λ i. same_price i ≤ MOST_PRICE) (λ i. hlevel props) one.price_most other.price_most i;
    }

one_trust : (entries : Entries) (one other : TrustRule) → IsTrust entries one → IsTrust entries other → one ≡ other
one_trust entries one other p q =
    let same_sensor : one.sensor ≡ other.sensor = same_value (name_at Sensor entries) one.sensor other.sensor p.sensor q.sensor in
    let same_from : one.from ≡ other.from = sym p.from ∙ q.from in
    let same_to : one.to ≡ other.to = sym p.to ∙ q.to in
    λ i. record {
      sensor = same_sensor i;
      from = same_from i;
      to = same_to i;
      period = is_prop→PathP (λ i. IsPeriod (same_from i) (same_to i)) (λ i. hlevel props) one.period other.period i;
    }

one_weight : (entries : Entries) (one other : WeightRule) → IsWeight entries one → IsWeight entries other → one ≡ other
one_weight entries one other p q =
    let same_sensor : one.sensor ≡ other.sensor = same_value (name_at Sensor entries) one.sensor other.sensor p.sensor q.sensor in
    let same_weight : one.weight ≡ other.weight = same_number (number_at Weight entries) one.weight other.weight p.weight q.weight in
    let same_from : one.from ≡ other.from = sym p.from ∙ q.from in
    let same_to : one.to ≡ other.to = sym p.to ∙ q.to in
    λ i. record {
      sensor = same_sensor i;
      weight = same_weight i;
      from = same_from i;
      to = same_to i;
      least = is_prop→PathP (λ i. 1 ≤ same_weight i) (λ i. hlevel props) one.least other.least i;
      most = is_prop→PathP (λ i. same_weight i ≤ MOST_WEIGHT) (λ i. hlevel props) one.most other.most i;
      period = is_prop→PathP (λ i. IsPeriod (same_from i) (same_to i)) (λ i. hlevel props) one.period other.period i;
    }

one_between : (entries : Entries) (one other : BetweenRule) → IsBetween entries one → IsBetween entries other → one ≡ other
one_between entries one other p q =
    let same_first : one.first ≡ other.first = same_value (name_at First entries) one.first other.first p.first q.first in
    let same_second : one.second ≡ other.second = same_value (name_at Second entries) one.second other.second p.second q.second in
    let same_min : one.min ≡ other.min = sym p.min ∙ q.min in
    let same_max : one.max ≡ other.max = sym p.max ∙ q.max in
    let same_price : one.price ≡ other.price = same_number (number_at Price entries) one.price other.price p.price q.price in
    λ i. record {
      first = same_first i;
      second = same_second i;
      min = same_min i;
      max = same_max i;
      price = same_price i;
      apart = is_prop→PathP (λ i. same_first i ≢ same_second i) (λ i. hlevel props) one.apart other.apart i;
      least = is_prop→PathP (λ i. IsUnits (same_min i)) (λ i. hlevel props) one.least other.least i;
      most = is_prop→PathP (λ i. IsUnits (same_max i)) (λ i. hlevel props) one.most other.most i;
      ordered = is_prop→PathP (λ i. same_min i ≤ℤ same_max i) (λ i. hlevel props) one.ordered other.ordered i;
      price_most = is_prop→PathP (λ i. same_price i ≤ MOST_PRICE) (λ i. hlevel props) one.price_most other.price_most i;
    }

one_list : {R : Type 0} (Is : Entries → R → Type 0) → ((entries : Entries) (one other : R) → Is entries one → Is entries other → one ≡ other) → (read : List Entries) (ones others : List R) → AllZip Is read ones → AllZip Is read others → ones ≡ others
one_list Is same [] [] [] p q = refl
one_list Is same [] [] (other ∷ others) p q = absurd q
one_list Is same [] (one ∷ ones) others p q = absurd p
one_list Is same (entries ∷ read) [] others p q = absurd p
one_list Is same (entries ∷ read) (one ∷ ones) [] p q = absurd q
one_list Is same (entries ∷ read) (one ∷ ones) (other ∷ others) p q =
    let first = same entries one other p.0 q.0 in
    let rest = one_list Is same read ones others p.1 q.1 in
    cc

-- ---- the format

one_format : (entries : Entries) (one other : Format) → IsFormatOf entries one → IsFormatOf entries other → one ≡ other
one_format entries one other p q =
    let same_decimals : one.decimals ≡ other.decimals = same_number (number_at Decimals entries) one.decimals other.decimals p.decimals q.decimals in
    let same_time : one.time ≡ other.time = sym p.time ∙ q.time in
    let same_form : one.form ≡ other.form = same_value (form_at Form entries) one.form other.form p.form q.form in
    let same_separator : one.separator ≡ other.separator = same_value (separator_at Separator entries) one.separator other.separator p.separator q.separator in
    let same_extra : one.extra ≡ other.extra = same_value (extra_at Extra entries) one.extra other.extra p.extra q.extra in
    let same_hold : one.hold ≡ other.hold = same_number (number_at Hold entries) one.hold other.hold p.hold q.hold in
    λ i. record {
      decimals = same_decimals i;
      time = same_time i;
      form = same_form i;
      separator = same_separator i;
      extra = same_extra i;
      hold = same_hold i;
      limits = is_prop→PathP (λ i. IsFormat (same_decimals i) (same_separator i) (same_hold i)) (λ i. hlevel props) one.limits other.limits i;
    }

-- ---- all rules

pub one_rules : (format : Entries) (read : List (TableKind × Entries)) (one other : Rules) → IsFormatOf format one.format → AreRulesOf read one → IsFormatOf format other.format → AreRulesOf read other → one ≡ other
one_rules format read one other p rules q others =
    let same_format : one.format ≡ other.format = one_format format one.format other.format p q in
    let same_speeds : one.speeds ≡ other.speeds = one_list IsSpeed one_speed (of_kind table.Speed read) one.speeds other.speeds rules.speeds others.speeds in
    let same_swings : one.swings ≡ other.swings = one_list IsSwing one_swing (of_kind table.Swing read) one.swings other.swings rules.swings others.swings in
    let same_drifts : one.drifts ≡ other.drifts = one_list IsDrift one_drift (of_kind table.Drift read) one.drifts other.drifts rules.drifts others.drifts in
    let same_ranges : one.ranges ≡ other.ranges = one_list IsRange one_range (of_kind table.Range read) one.ranges other.ranges rules.ranges others.ranges in
    let same_trusts : one.trusts ≡ other.trusts = one_list IsTrust one_trust (of_kind table.Trust read) one.trusts other.trusts rules.trusts others.trusts in
    let same_weights : one.weights ≡ other.weights = one_list IsWeight one_weight (of_kind table.Weight read) one.weights other.weights rules.weights others.weights in
    let same_betweens : one.betweens ≡ other.betweens = one_list IsBetween one_between (of_kind table.Between read) one.betweens other.betweens rules.betweens others.betweens in
    λ i. record {
      format = same_format i;
      speeds = same_speeds i;
      swings = same_swings i;
      drifts = same_drifts i;
      ranges = same_ranges i;
      trusts = same_trusts i;
      weights = same_weights i;
      betweens = same_betweens i;
      few = is_prop→PathP (λ i. count_of (same_speeds i) (same_swings i) (same_drifts i) (same_ranges i) (same_trusts i) (same_weights i) (same_betweens i) ≤ MOST_RULES) (λ i. hlevel props) one.few other.few i;
      speed_reach = is_prop→PathP (λ i. All (λ rule. AreInReach (same_format i).decimals rule.min rule.max rule.window) (same_speeds i)) (λ i. hlevel props) one.speed_reach other.speed_reach i;
      drift_reach = is_prop→PathP (λ i. All (λ rule. AreInReach (same_format i).decimals rule.min rule.max rule.window) (same_drifts i)) (λ i. hlevel props) one.drift_reach other.drift_reach i;
    }
