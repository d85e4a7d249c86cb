-- The rules of each kind, and the sensors of rules, by their places in the order of the numbers.
use Rattle.std.proofs.Common.{◌≡◌, ℕ, zero, suc, ◌+◌, ◌-◌, ◌<◌, ◌≤◌, ◌==◌, if◌then◌else◌, List, [], ◌∷◌, ◌++◌, length, map, Option, Some, None, Bor, inl, inr, refl, sym, ap, ◌∙◌, arith, append_assoc}
use Rattle.std.specs.Prelude.{slice_get, option_map}
use Rattle.std.specs.List.{AllByRecursion}
use Rattle.std.specs.Option.{option_copied}
use Rattle.std.proofs.lemmas.Bool.{cases_lt}
use Rattle.std.proofs.lemmas.List.{length-append, length-map}
use Rattle.std.proofs.lemmas.Option.{slice_get-map, slice_get_past, slice_get_within}
use Rattle.rule_keys.specs.declared.key.TableKind.TheVariants as kind
use Rattle.rule_file.specs.declared.numbers.RuleAt.{RuleAt}
use Rattle.rule_file.specs.declared.numbers.RuleAt.TheVariants.{Between}
use Rattle.rule_file.specs.declared.rules.BetweenRule.{BetweenRule}
use Rattle.rule_file.specs.declared.rules.Rules.{Rules}
use Rattle.rule_file.specs.Count.{count_of}
use Rattle.rule_file.specs.Numbers.{Rule, speed, swing, drift, range, trust, weight, between, rules_in_order, rule_of, NamedSensor, sensor_names, sensors_of, sensors_from, sensors, count_before, AreNumbered, StandFrom, SensorsStandFrom, seen_rule}
use Rattle.rule_file.specs.Single.{first_name}

-- ---- lists

past_end : {A : Type 0} (xs : List A) (k : ℕ) → slice_get xs k ≡ None → length xs ≤ k
past_end [] k none = omega arith
past_end (x ∷ xs) zero none = absurd (cc none)
past_end (x ∷ xs) (suc k) none = omega (arith, past_end xs k none)

get_within : {A : Type 0} (xs : List A) (k : ℕ) → k < length xs → (x : A) × (slice_get xs k ≡ Some x)
get_within [] k within = absurd (omega arith)
get_within (x ∷ xs) zero within = (x, refl)
get_within (x ∷ xs) (suc k) within = get_within xs k (omega arith)

get_front : {A : Type 0} (xs ys : List A) (k : ℕ) → k < length xs → slice_get (xs ++ ys) k ≡ slice_get xs k
get_front [] ys k within = absurd (omega arith)
get_front (x ∷ xs) ys zero within = refl
get_front (x ∷ xs) ys (suc k) within = get_front xs ys k (omega arith)

get_later : {A : Type 0} (xs ys : List A) (m k : ℕ) → m ≡ length xs + k → slice_get (xs ++ ys) m ≡ slice_get ys k
get_later [] ys m k is = let e : m ≡ k = omega arith in ap (slice_get ys) e
get_later (x ∷ xs) ys zero k is = absurd (omega arith)
get_later (x ∷ xs) ys (suc m) k is = get_later xs ys m k (omega arith)

-- past the rules of a kind
skip : {R : Type 0} (f : R → Rule) (xs : List R) (ys : List Rule) (m k : ℕ) (found : Option Rule)
    → slice_get ys k ≡ found → m ≡ length xs + k → slice_get (map f xs ++ ys) m ≡ found
skip f xs ys m k found at is = get_later (map f xs) ys m k (is ∙ ap (λ n. n + k) (sym (length-map xs f))) ∙ at

-- among them
among : {R : Type 0} (f : R → Rule) (xs : List R) (ys : List Rule) (k : ℕ) → k < length xs
    → slice_get (map f xs ++ ys) k ≡ option_map f (slice_get xs k)
among f xs ys k within = get_front (map f xs) ys k (omega (arith, length-map xs f)) ∙ slice_get-map f xs k

nested : {A : Type 0} (a b c d e f g : List A) → a ++ b ++ c ++ d ++ e ++ f ++ g ≡ a ++ (b ++ (c ++ (d ++ (e ++ (f ++ g)))))
nested a b c d e f g =
    append_assoc (a ++ b ++ c ++ d ++ e) f g
    ∙ append_assoc (a ++ b ++ c ++ d) e (f ++ g)
    ∙ append_assoc (a ++ b ++ c) d (e ++ (f ++ g))
    ∙ append_assoc (a ++ b) c (d ++ (e ++ (f ++ g)))
    ∙ append_assoc a b (c ++ (d ++ (e ++ (f ++ g))))

-- ---- the rules of each kind

unnested : (rules : Rules) (m : ℕ) (found : Option Rule)
    → slice_get (map speed rules.speeds ++ (map swing rules.swings ++ (map drift rules.drifts ++ (map range rules.ranges ++ (map trust rules.trusts ++ (map weight rules.weights ++ map between rules.betweens)))))) m ≡ found
    → slice_get (rules_in_order rules) m ≡ found
unnested rules m found at =
    ap (λ all. slice_get all m)
    (nested (map speed rules.speeds) (map swing rules.swings) (map drift rules.drifts) (map range rules.ranges) (map trust rules.trusts) (map weight rules.weights) (map between rules.betweens))
    ∙ at

pub speed_at : (rules : Rules) (m k : ℕ) → m ≡ count_before kind.Speed rules + k → k < length rules.speeds → slice_get (rules_in_order rules) m ≡ option_map speed (slice_get rules.speeds k)
speed_at rules m k is within = let e : m ≡ k = omega arith in unnested rules m _ (ap (slice_get _) e ∙ among speed rules.speeds _ k within)

pub swing_at : (rules : Rules) (m k : ℕ) → m ≡ count_before kind.Swing rules + k → k < length rules.swings → slice_get (rules_in_order rules) m ≡ option_map swing (slice_get rules.swings k)
swing_at rules m k is within = unnested rules m _ (skip speed rules.speeds _ m k _ (among swing rules.swings _ k within) is)

pub drift_at : (rules : Rules) (m k : ℕ) → m ≡ count_before kind.Drift rules + k → k < length rules.drifts → slice_get (rules_in_order rules) m ≡ option_map drift (slice_get rules.drifts k)
drift_at rules m k is within =
    unnested rules m _
    (skip speed rules.speeds _ m (length rules.swings + k) _
    (skip swing rules.swings _ (length rules.swings + k) k _ (among drift rules.drifts _ k within) refl) (omega arith))

pub range_at : (rules : Rules) (m k : ℕ) → m ≡ count_before kind.Range rules + k → k < length rules.ranges → slice_get (rules_in_order rules) m ≡ option_map range (slice_get rules.ranges k)
range_at rules m k is within =
    unnested rules m _
    (skip speed rules.speeds _ m (length rules.swings + (length rules.drifts + k)) _
    (skip swing rules.swings _ _ (length rules.drifts + k) _
    (skip drift rules.drifts _ _ k _ (among range rules.ranges _ k within) refl) refl) (omega arith))

pub trust_at : (rules : Rules) (m k : ℕ) → m ≡ count_before kind.Trust rules + k → k < length rules.trusts → slice_get (rules_in_order rules) m ≡ option_map trust (slice_get rules.trusts k)
trust_at rules m k is within =
    unnested rules m _
    (skip speed rules.speeds _ m (length rules.swings + (length rules.drifts + (length rules.ranges + k))) _
    (skip swing rules.swings _ _ (length rules.drifts + (length rules.ranges + k)) _
    (skip drift rules.drifts _ _ (length rules.ranges + k) _
    (skip range rules.ranges _ _ k _ (among trust rules.trusts _ k within) refl) refl) refl) (omega arith))

pub weight_at : (rules : Rules) (m k : ℕ) → m ≡ count_before kind.Weight rules + k → k < length rules.weights → slice_get (rules_in_order rules) m ≡ option_map weight (slice_get rules.weights k)
weight_at rules m k is within =
    unnested rules m _
    (skip speed rules.speeds _ m (length rules.swings + (length rules.drifts + (length rules.ranges + (length rules.trusts + k)))) _
    (skip swing rules.swings _ _ (length rules.drifts + (length rules.ranges + (length rules.trusts + k))) _
    (skip drift rules.drifts _ _ (length rules.ranges + (length rules.trusts + k)) _
    (skip range rules.ranges _ _ (length rules.trusts + k) _
    (skip trust rules.trusts _ _ k _ (among weight rules.weights _ k within) refl) refl) refl) refl) (omega arith))

-- the rules that speak of one sensor each
abbrev pub singles : Rules → List Rule
singles rules =
    map speed rules.speeds ++ map swing rules.swings ++ map drift rules.drifts ++ map range rules.ranges
    ++ map trust rules.trusts ++ map weight rules.weights

length_of_six : {A : Type 0} (a b c d e f : List A) → length (a ++ b ++ c ++ d ++ e ++ f) ≡ length a + length b + length c + length d + length e + length f
length_of_six a b c d e f =
    omega (arith, length-append (a ++ b ++ c ++ d ++ e) f, length-append (a ++ b ++ c ++ d) e, length-append (a ++ b ++ c) d, length-append (a ++ b) c, length-append a b)

pub single_length : (rules : Rules) → length (singles rules) ≡ count_before kind.Between rules
single_length rules =
    omega (
      arith,
      length_of_six (map speed rules.speeds) (map swing rules.swings) (map drift rules.drifts) (map range rules.ranges) (map trust rules.trusts) (map weight rules.weights),
      length-map rules.speeds speed,
      length-map rules.swings swing,
      length-map rules.drifts drift,
      length-map rules.ranges range,
      length-map rules.trusts trust,
      length-map rules.weights weight,
    )

-- also past the end
pub between_at : (rules : Rules) (m k : ℕ) → m ≡ count_before kind.Between rules + k → slice_get (rules_in_order rules) m ≡ option_map between (slice_get rules.betweens k)
between_at rules m k is =
    get_later (singles rules) (map between rules.betweens) m k (is ∙ ap (λ n. n + k) (sym (single_length rules))) ∙ slice_get-map between rules.betweens k

pub rules_length : (rules : Rules) → length (rules_in_order rules) ≡ count_before kind.Between rules + length rules.betweens
rules_length rules = omega (arith, length-append (singles rules) (map between rules.betweens), single_length rules, length-map rules.betweens between)

pub are_numbered : (rules : Rules) → AreNumbered rules
are_numbered rules = record {
  speeds = λ k within. speed_at rules _ k refl within;
  swings = λ k within. swing_at rules _ k refl within;
  drifts = λ k within. drift_at rules _ k refl within;
  ranges = λ k within. range_at rules _ k refl within;
  trusts = λ k within. trust_at rules _ k refl within;
  weights = λ k within. weight_at rules _ k refl within;
  betweens = λ k within. between_at rules _ k refl;
}

-- ---- a rule by its number

pub number_zero : (rules : Rules) (number : ℕ) → number ≡ 0 → rule_of rules number ≡ None
number_zero rules zero is = refl
number_zero rules (suc n) is = absurd (omega arith)

pub by_place : (rules : Rules) (number place : ℕ) → number ≡ suc place → rule_of rules number ≡ slice_get (rules_in_order rules) place
by_place rules number place is = ap (rule_of rules) is

pub is_numbered : {R : Type 0} (rules : Rules) (f : R → Rule) (list : List R) (number place k : ℕ) (rule : R) → number ≡ suc place
    → (k < length list → slice_get (rules_in_order rules) place ≡ option_map f (slice_get list k)) → slice_get list k ≡ Some rule → Some (f rule) ≡ rule_of rules number
is_numbered rules f list number place k rule is at found =
    sym (by_place rules number place is ∙ at (slice_get_within list k rule found) ∙ ap (option_map f) found)

lent_between : (got : Option (Bor BetweenRule)) → option_map seen_rule (option_map Between got) ≡ option_map between (option_copied got)
lent_between None = refl
lent_between (Some rule) = refl

pub last_rule : (rules : Rules) (number place k : ℕ) (got : Option (Bor BetweenRule)) (mapped : Option RuleAt) → number ≡ suc place
    → place ≡ count_before kind.Between rules + k → option_copied got ≡ slice_get rules.betweens k → mapped ≡ option_map Between got
    → option_map seen_rule mapped ≡ rule_of rules number
last_rule rules number place k got mapped is at found means =
    ap (option_map seen_rule) means ∙ lent_between got ∙ ap (option_map between) found ∙ sym (by_place rules number place is ∙ between_at rules place k at)

pub number_beyond : (rules : Rules) (number : ℕ)
    → count_of rules.speeds rules.swings rules.drifts rules.ranges rules.trusts rules.weights rules.betweens < number → rule_of rules number ≡ None
number_beyond rules zero beyond = absurd (omega arith)
number_beyond rules (suc n) beyond = slice_get_past (rules_in_order rules) n (omega (arith, rules_length rules))

-- ---- the sensors of rules

sensors_append : (n : ℕ) (xs ys : List Rule) → sensors_from n (xs ++ ys) ≡ sensors_from n xs ++ sensors_from (n + length xs) ys
sensors_append n [] ys = let e : n + 0 ≡ n = omega arith in ap (λ m. sensors_from m ys) (sym e)
sensors_append n (x ∷ xs) ys =
    let e : suc n + length xs ≡ n + suc (length xs) = omega arith in
    ap (λ rest. sensors_of n x ++ rest) (sensors_append (suc n) xs ys)
    ∙ sym (append_assoc (sensors_of n x) (sensors_from (suc n) xs) (sensors_from (suc n + length xs) ys))
    ∙ ap (λ m. sensors_of n x ++ sensors_from (suc n) xs ++ sensors_from m ys) e

abbrev pub sensor_of : ℕ → Rule → NamedSensor
sensor_of number rule = record { rule = number; name = first_name rule }

single_is : (n : ℕ) (rule : Rule) → length (sensor_names rule) ≡ 1 → sensors_of n rule ≡ sensor_of n rule ∷ []
single_is n (speed rule) one = refl
single_is n (swing rule) one = refl
single_is n (drift rule) one = refl
single_is n (range rule) one = refl
single_is n (trust rule) one = refl
single_is n (weight rule) one = refl
single_is n (between rule) one = absurd (omega (arith, one))

-- rules that speak of one sensor each
abbrev AreSingle : List Rule → Type 0
AreSingle rules = AllByRecursion (λ rule. length (sensor_names rule) ≡ 1) rules

singles_length : (n : ℕ) (some : List Rule) → AreSingle some → length (sensors_from n some) ≡ length some
singles_length n [] all = refl
singles_length n (rule ∷ some) all = rw (single_is n rule all.0) (ap suc (singles_length (suc n) some all.1))

single_sensor : (n : ℕ) (some rest : List Rule) (i number : ℕ) → AreSingle some → i < length some → number ≡ n + i
    → slice_get (sensors_from n (some ++ rest)) i ≡ option_map (sensor_of number) (slice_get (some ++ rest) i)
single_sensor n [] rest i number all within is = absurd (omega arith)
single_sensor n (rule ∷ some) rest zero number all within is =
    let e : n ≡ number = omega arith in
    rw (single_is n rule all.0) (ap (λ m. Some (sensor_of m rule)) e)
single_sensor n (rule ∷ some) rest (suc i) number all within is =
    rw (single_is n rule all.0) (single_sensor (suc n) some rest i number all.1 (omega arith) (omega arith))

-- rules between two sensors have two each
pairs_length : (n : ℕ) (some : List BetweenRule) → length (sensors_from n (map between some)) ≡ length some + length some
pairs_length n [] = refl
pairs_length n (rule ∷ some) = omega (arith, pairs_length (suc n) some)

first_of_pair : (n number : ℕ) (some : List BetweenRule) (h : ℕ) (rule : BetweenRule) → number ≡ n + h → slice_get some h ≡ Some rule
    → slice_get (sensors_from n (map between some)) (h + h) ≡ Some (record { rule = number; name = rule.first })
first_of_pair n number [] h rule is found = absurd (cc found)
first_of_pair n number (one ∷ some) zero rule is found =
    let same : one ≡ rule = cc in
    let e : n ≡ number = omega arith in
    rw (same, e) refl
first_of_pair n number (one ∷ some) (suc h) rule is found =
    let e : suc h + suc h ≡ suc (suc (h + h)) = omega arith in
    rw e (first_of_pair (suc n) number some h rule (omega arith) found)

second_of_pair : (n number : ℕ) (some : List BetweenRule) (h : ℕ) (rule : BetweenRule) → number ≡ n + h → slice_get some h ≡ Some rule
    → slice_get (sensors_from n (map between some)) (suc (h + h)) ≡ Some (record { rule = number; name = rule.second })
second_of_pair n number [] h rule is found = absurd (cc found)
second_of_pair n number (one ∷ some) zero rule is found =
    let same : one ≡ rule = cc in
    let e : n ≡ number = omega arith in
    rw (same, e) refl
second_of_pair n number (one ∷ some) (suc h) rule is found =
    let e : suc h + suc h ≡ suc (suc (h + h)) = omega arith in
    rw e (second_of_pair (suc n) number some h rule (omega arith) found)

-- ---- the sensors of all rules

map_single : {R : Type 0} (f : R → Rule) (list : List R) → ((rule : R) → length (sensor_names (f rule)) ≡ 1) → AreSingle (map f list)
map_single f [] one = tt
map_single f (rule ∷ list) one = (one rule, map_single f list one)

append_single : (xs ys : List Rule) → AreSingle xs → AreSingle ys → AreSingle (xs ++ ys)
append_single [] ys first second = second
append_single (x ∷ xs) ys first second = (first.0, append_single xs ys first.1 second)

singles_single : (rules : Rules) → AreSingle (singles rules)
singles_single rules =
    append_single (map speed rules.speeds ++ map swing rules.swings ++ map drift rules.drifts ++ map range rules.ranges ++ map trust rules.trusts) (map weight rules.weights)
    (append_single (map speed rules.speeds ++ map swing rules.swings ++ map drift rules.drifts ++ map range rules.ranges) (map trust rules.trusts)
    (append_single (map speed rules.speeds ++ map swing rules.swings ++ map drift rules.drifts) (map range rules.ranges)
    (append_single (map speed rules.speeds ++ map swing rules.swings) (map drift rules.drifts)
    (append_single (map speed rules.speeds) (map swing rules.swings) (map_single speed rules.speeds (λ rule. refl)) (map_single swing rules.swings (λ rule. refl)))
    (map_single drift rules.drifts (λ rule. refl)))
    (map_single range rules.ranges (λ rule. refl)))
    (map_single trust rules.trusts (λ rule. refl)))
    (map_single weight rules.weights (λ rule. refl))

-- the sensors of the single rules, and then those of the others
sensors_parts : (rules : Rules) → sensors rules ≡ sensors_from 1 (singles rules) ++ sensors_from (1 + length (singles rules)) (map between rules.betweens)
sensors_parts rules = sensors_append 1 (singles rules) (map between rules.betweens)

pub sensors_length : (rules : Rules) → length (sensors rules) ≡ count_before kind.Between rules + (length rules.betweens + length rules.betweens)
sensors_length rules =
    omega (
      arith,
      ap length (sensors_parts rules),
      length-append (sensors_from 1 (singles rules)) (sensors_from (1 + length (singles rules)) (map between rules.betweens)),
      singles_length 1 (singles rules) (singles_single rules),
      pairs_length (1 + length (singles rules)) rules.betweens,
      single_length rules,
    )

pub sensor_single : (rules : Rules) (i number : ℕ) → i < count_before kind.Between rules → number ≡ suc i
    → slice_get (sensors rules) i ≡ option_map (sensor_of number) (rule_of rules number)
sensor_single rules i number within is =
    single_sensor 1 (singles rules) (map between rules.betweens) i number (singles_single rules) (omega (arith, single_length rules)) (omega arith)
    ∙ ap (option_map (sensor_of number)) (sym (by_place rules number i is))

past_singles : (rules : Rules) (i j : ℕ) → i ≡ count_before kind.Between rules + j
    → slice_get (sensors rules) i ≡ slice_get (sensors_from (1 + length (singles rules)) (map between rules.betweens)) j
past_singles rules i j is =
    ap (λ all. slice_get all i) (sensors_parts rules)
    ∙ get_later (sensors_from 1 (singles rules)) (sensors_from (1 + length (singles rules)) (map between rules.betweens)) i j
    (omega (arith, is, singles_length 1 (singles rules) (singles_single rules), single_length rules))

pub sensor_first : (rules : Rules) (i number h : ℕ) (rule : BetweenRule) → i ≡ count_before kind.Between rules + (h + h)
    → number ≡ count_before kind.Between rules + h + 1 → slice_get rules.betweens h ≡ Some rule
    → slice_get (sensors rules) i ≡ Some (record { rule = number; name = rule.first })
sensor_first rules i number h rule at is found =
    past_singles rules i (h + h) at ∙ first_of_pair (1 + length (singles rules)) number rules.betweens h rule (omega (arith, is, single_length rules)) found

pub sensor_second : (rules : Rules) (i number h : ℕ) (rule : BetweenRule) → i ≡ count_before kind.Between rules + suc (h + h)
    → number ≡ count_before kind.Between rules + h + 1 → slice_get rules.betweens h ≡ Some rule
    → slice_get (sensors rules) i ≡ Some (record { rule = number; name = rule.second })
sensor_second rules i number h rule at is found =
    past_singles rules i (suc (h + h)) at ∙ second_of_pair (1 + length (singles rules)) number rules.betweens h rule (omega (arith, is, single_length rules)) found

-- as the code finds them
pub sensor_found : (rules : Rules) (i number single : ℕ) (rule : Rule) (name : List ℕ) → i < single → single ≡ count_before kind.Between rules → number ≡ suc i
    → Some rule ≡ rule_of rules number → name ≡ first_name rule → Some (record { rule = number; name = name }) ≡ slice_get (sensors rules) i
sensor_found rules i number single rule name within before is found named =
    rw named (sym (sensor_single rules i number (omega arith) is ∙ ap (option_map (sensor_of number)) (sym found)))

pub sensor_pair : (rules : Rules) (i number h m : ℕ) (rule : BetweenRule) → i ≡ count_before kind.Between rules + (h + h) + m → m < 2
    → number ≡ count_before kind.Between rules + h + 1 → slice_get rules.betweens h ≡ Some rule
    → slice_get (sensors rules) i ≡ Some (record { rule = number; name = if m == 1 then rule.second else rule.first })
sensor_pair rules i number h zero rule at few is found = sensor_first rules i number h rule (omega arith) is found
sensor_pair rules i number h (suc zero) rule at few is found = sensor_second rules i number h rule (omega arith) is found
sensor_pair rules i number h (suc (suc m)) rule at few is found = absurd (omega arith)

pub sensor_beyond : (rules : Rules) (i h : ℕ) → count_before kind.Between rules + (h + h) ≤ i → slice_get rules.betweens h ≡ None → slice_get (sensors rules) i ≡ None
sensor_beyond rules i h past none = slice_get_past (sensors rules) i (omega (arith, sensors_length rules, past_end rules.betweens h none))

-- ---- the place of the sensors of a rule

only_one : (list : List NamedSensor) (place : ℕ) (one : NamedSensor) → slice_get list place ≡ Some one → StandFrom list place (one ∷ [])
only_one list place one at zero few = let e : place + 0 ≡ place = omega arith in rw e at
only_one list place one at (suc k) few = absurd (omega arith)

only_two : (list : List NamedSensor) (place : ℕ) (one other : NamedSensor) → slice_get list place ≡ Some one → slice_get list (suc place) ≡ Some other
    → StandFrom list place (one ∷ other ∷ [])
only_two list place one other at after zero few = let e : place + 0 ≡ place = omega arith in rw e at
only_two list place one other at after (suc zero) few = let e : place + 1 ≡ suc place = omega arith in rw e after
only_two list place one other at after (suc (suc k)) few = absurd (omega arith)

single_stands : (rules : Rules) (number place : ℕ) (rule : Rule) → number ≡ suc place → place < count_before kind.Between rules → rule_of rules number ≡ Some rule
    → length (sensor_names rule) ≡ 1 → StandFrom (sensors rules) place (sensors_of number rule)
single_stands rules number place rule is within found one =
    rw (single_is number rule one)
    (only_one (sensors rules) place (sensor_of number rule) (sensor_single rules place number within is ∙ ap (option_map (sensor_of number)) found))

-- the rule at a place before the rules between two sensors
single_at : (some : List Rule) (k : ℕ) (rule : Rule) → AreSingle some → slice_get some k ≡ Some rule → length (sensor_names rule) ≡ 1
single_at [] k rule all found = absurd (cc found)
single_at (x ∷ some) zero rule all found = let same : x ≡ rule = cc in rw (← same) all.0
single_at (x ∷ some) (suc k) rule all found = single_at some k rule all.1 found

pub index_of_single : (rules : Rules) (number place : ℕ) → number ≡ suc place → place < count_before kind.Between rules → SensorsStandFrom rules number place
index_of_single rules number place is within =
    let inside : place < length (singles rules) = omega (arith, single_length rules) in
    let (rule, found) = get_within (singles rules) place inside in
    let at : rule_of rules number ≡ Some rule = by_place rules number place is ∙ (get_front (singles rules) (map between rules.betweens) place inside ∙ found) in
    (rule, at, single_stands rules number place rule is within at (single_at (singles rules) place rule (singles_single rules) found))

pub index_of_pair : (rules : Rules) (number h place : ℕ) → number ≡ count_before kind.Between rules + h + 1 → place ≡ count_before kind.Between rules + (h + h) → h < length rules.betweens
    → SensorsStandFrom rules number place
index_of_pair rules number h place is at within =
    let (rule, found) = get_within rules.betweens h within in (
      between rule,
      by_place rules number (count_before kind.Between rules + h) (omega arith) ∙ (between_at rules _ h refl ∙ ap (option_map between) found),
      only_two (sensors rules) place _ _ (sensor_first rules place number h rule at is found) (sensor_second rules (suc place) number h rule (omega arith) is found),
    )

pub index_stands : (rules : Rules) (number place single : ℕ) → number ≡ suc place
    → number ≤ count_of rules.speeds rules.swings rules.drifts rules.ranges rules.trusts rules.weights rules.betweens
    → single ≡ count_before kind.Between rules → SensorsStandFrom rules number (place + (place - single))
index_stands rules number place single is within before =
    elim (cases_lt place single) [
      | inl less ↦ let e : place + (place - single) ≡ place = omega arith in rw e (index_of_single rules number place is (omega arith))
      | inr more ↦ index_of_pair rules number (place - single) (place + (place - single)) (omega arith) (omega arith) (omega arith)
    ]
