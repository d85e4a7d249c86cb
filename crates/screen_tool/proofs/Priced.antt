-- Whether a rule has a price, kind by kind.
use Rattle.std.proofs.Common.{◌≡◌, ◌||◌, Bool, false, true, nat_lt, List, [], ◌∷◌, ◌++◌, map, refl, ap, ◌∙◌}
use Rattle.std.specs.List.{list_any}
use Rattle.std.proofs.lemmas.List.Folds.{list_any-append}
use Rattle.rule_file.specs.Numbers.{Rule, speed, swing, drift, range, trust, weight, between, price_of}
use Rattle.rule_file.specs.declared.rules.BetweenRule.{BetweenRule}
use Rattle.rule_file.specs.declared.rules.DriftRule.{DriftRule}
use Rattle.rule_file.specs.declared.rules.RangeRule.{RangeRule}
use Rattle.rule_file.specs.declared.rules.Rules.{Rules}
use Rattle.rule_file.specs.declared.rules.SpeedRule.{SpeedRule}
use Rattle.rule_file.specs.declared.rules.SwingRule.{SwingRule}
use Rattle.screen_tool.specs.Certificates.{has_price}

any_map : {X Y : Type 0} (test : Y → Bool) (f : X → Y) (xs : List X) → list_any test (map f xs) ≡ list_any (λ x. test (f x)) xs
any_map test f [] = refl
any_map test f (x ∷ xs) = ap (λ b. test (f x) || b) (any_map test f xs)

-- a test that no image passes
none_map : {X Y : Type 0} (test : Y → Bool) (f : X → Y) (xs : List X) → ((x : X) → test (f x) ≡ false) → list_any test (map f xs) ≡ false
none_map test f [] none = refl
none_map test f (x ∷ xs) none = ap (λ b. b || list_any test (map f xs)) (none x) ∙ none_map test f xs none

or_none : (b : Bool) → (b || false) ≡ b
or_none true = refl
or_none false = refl

-- a list, and then one of images
more_any : {X Y : Type 0} (test : Y → Bool) (f : X → Y) (front : List Y) (xs : List X) → list_any test (front ++ map f xs) ≡ (list_any test front || list_any (λ x. test (f x)) xs)
more_any test f front xs = list_any-append test front (map f xs) ∙ ap (λ b. list_any test front || b) (any_map test f xs)

more_none : {X Y : Type 0} (test : Y → Bool) (f : X → Y) (front : List Y) (xs : List X) → ((x : X) → test (f x) ≡ false) → list_any test (front ++ map f xs) ≡ list_any test front
more_none test f front xs none =
    list_any-append test front (map f xs) ∙ (ap (λ b. list_any test front || b) (none_map test f xs none) ∙ or_none (list_any test front))

abbrev is_priced : Rule → Bool
is_priced rule = nat_lt 0 (price_of rule)

-- ---- the rules of each kind

abbrev pub any_speed : Rules → Bool
any_speed rules = list_any (λ (rule : SpeedRule). nat_lt 0 rule.price) rules.speeds

abbrev pub any_swing : Rules → Bool
any_swing rules = list_any (λ (rule : SwingRule). nat_lt 0 rule.price) rules.swings

abbrev pub any_drift : Rules → Bool
any_drift rules = list_any (λ (rule : DriftRule). nat_lt 0 rule.price) rules.drifts

abbrev pub any_range : Rules → Bool
any_range rules = list_any (λ (rule : RangeRule). nat_lt 0 rule.price) rules.ranges

abbrev pub any_between : Rules → Bool
any_between rules = list_any (λ (rule : BetweenRule). nat_lt 0 rule.price) rules.betweens

-- ---- the rules up to a kind

abbrev up_to_speeds : Rules → List Rule
up_to_speeds rules = map speed rules.speeds

abbrev up_to_swings : Rules → List Rule
up_to_swings rules = up_to_speeds rules ++ map swing rules.swings

abbrev up_to_drifts : Rules → List Rule
up_to_drifts rules = up_to_swings rules ++ map drift rules.drifts

abbrev up_to_ranges : Rules → List Rule
up_to_ranges rules = up_to_drifts rules ++ map range rules.ranges

abbrev up_to_trusts : Rules → List Rule
up_to_trusts rules = up_to_ranges rules ++ map trust rules.trusts

abbrev up_to_weights : Rules → List Rule
up_to_weights rules = up_to_trusts rules ++ map weight rules.weights

swings_any : (rules : Rules) → list_any is_priced (up_to_swings rules) ≡ (any_speed rules || any_swing rules)
swings_any rules = more_any is_priced swing (up_to_speeds rules) rules.swings ∙ ap (λ b. b || any_swing rules) (any_map is_priced speed rules.speeds)

drifts_any : (rules : Rules) → list_any is_priced (up_to_drifts rules) ≡ ((any_speed rules || any_swing rules) || any_drift rules)
drifts_any rules = more_any is_priced drift (up_to_swings rules) rules.drifts ∙ ap (λ b. b || any_drift rules) (swings_any rules)

ranges_any : (rules : Rules) → list_any is_priced (up_to_ranges rules) ≡ (((any_speed rules || any_swing rules) || any_drift rules) || any_range rules)
ranges_any rules = more_any is_priced range (up_to_drifts rules) rules.ranges ∙ ap (λ b. b || any_range rules) (drifts_any rules)

weights_any : (rules : Rules) → list_any is_priced (up_to_weights rules) ≡ (((any_speed rules || any_swing rules) || any_drift rules) || any_range rules)
weights_any rules =
    more_none is_priced weight (up_to_trusts rules) rules.weights (λ rule. refl)
    ∙ (more_none is_priced trust (up_to_ranges rules) rules.trusts (λ rule. refl) ∙ ranges_any rules)

pub has_price_is : (rules : Rules) → has_price rules ≡ ((((any_speed rules || any_swing rules) || any_drift rules) || any_range rules) || any_between rules)
has_price_is rules = more_any is_priced between (up_to_weights rules) rules.betweens ∙ ap (λ b. b || any_between rules) (weights_any rules)
