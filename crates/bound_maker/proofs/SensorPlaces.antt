-- The place of a rule's sensors among the sensors of all rules.
use Rattle.std.proofs.Common.{◌≡◌, ℕ, zero, suc, ◌+◌, ◌-◌, ◌*◌, ◌<◌, ◌≤◌, ◌⊎◌, inl, inr, List, [], ◌∷◌, length, map, take, Option, Some, None, refl, sym, ap, ◌∙◌, subst, arith}
use Rattle.std.specs.Prelude.{slice_get}
use Rattle.std.specs.List.{AllByRecursion}
use Rattle.std.proofs.lemmas.List.{length-map}
use Rattle.std.proofs.lemmas.Option.{slice_get_within}
use Rattle.words.proofs.Lists.{all_append, all_at}
use Rattle.rule_file.specs.Numbers.{NamedSensor, Rule, speed, swing, drift, range, trust, weight, between, rule_of, rules_in_order, sensor_names, sensors, sensors_from, sensors_of, StandFrom, SensorsStandFrom}
use Rattle.rule_file.specs.declared.rules.Rules.{Rules}
use Rattle.bound_maker.specs.Ruled.{named, named_before}
use Rattle.bound_maker.proofs.Changes.{either_side, on_right}
use Rattle.bound_maker.proofs.Found.{contains_at}
use Rattle.bound_maker.proofs.Making.{few_sensors, rules_few}

none_is_some : {A : Type 0} (x : A) → ◌≡◌ {A = Option A} None (Some x) → ⊥
none_is_some x e = cc

some_same : {A : Type 0} {x y : A} → ◌≡◌ {A = Option A} (Some x) (Some y) → x ≡ y
some_same e = cc

-- ---- the sensors of rules from a number on

same_number : (least number : ℕ) (names : List (List ℕ)) → least ≤ number → AllByRecursion (λ (s : NamedSensor). least ≤ s.rule) (map (λ (name : List ℕ). record { rule = number; name = name }) names)
same_number least number [] h = tt
same_number least number (name ∷ names) h = (h, same_number least number names h)

sensors_above : (least n : ℕ) (rules : List Rule) → least ≤ n → AllByRecursion (λ (s : NamedSensor). least ≤ s.rule) (sensors_from n rules)
sensors_above least n [] h = tt
sensors_above least n (rule ∷ rules) h =
    all_append (λ (s : NamedSensor). least ≤ s.rule) (sensors_of n rule) (sensors_from (suc n) rules) (same_number least n (sensor_names rule) h) (sensors_above least (suc n) rules (omega (arith, h)))

sensor_least : (n : ℕ) (rules : List Rule) (place : ℕ) (s : NamedSensor) → slice_get (sensors_from n rules) place ≡ Some s → n ≤ s.rule
sensor_least n rules place s found =
    all_at (λ (s : NamedSensor). n ≤ s.rule) (sensors_from n rules) s (sensors_above n n rules (omega arith)) (contains_at (sensors_from n rules) place s found)

-- ---- the sensors of one rule

-- a sensor of the rule of this number
pub record IsSensor (number : ℕ) (rule : Rule) (k : ℕ) : Type 0 where
  pub sensor : NamedSensor
  pub found : slice_get (sensors_of number rule) k ≡ Some sensor
  pub number_is : sensor.rule ≡ number

first_sensor : (number : ℕ) (rule : Rule) → IsSensor number rule 0
first_sensor number (speed rule) = record { sensor = record { rule = number; name = rule.sensor }; found = refl; number_is = refl }
first_sensor number (swing rule) = record { sensor = record { rule = number; name = rule.sensor }; found = refl; number_is = refl }
first_sensor number (drift rule) = record { sensor = record { rule = number; name = rule.sensor }; found = refl; number_is = refl }
first_sensor number (range rule) = record { sensor = record { rule = number; name = rule.sensor }; found = refl; number_is = refl }
first_sensor number (trust rule) = record { sensor = record { rule = number; name = rule.sensor }; found = refl; number_is = refl }
first_sensor number (weight rule) = record { sensor = record { rule = number; name = rule.sensor }; found = refl; number_is = refl }
first_sensor number (between rule) = record { sensor = record { rule = number; name = rule.first }; found = refl; number_is = refl }

last_sensor : (number : ℕ) (rule : Rule) → IsSensor number rule (length (sensor_names rule) - 1)
last_sensor number (speed rule) = first_sensor number (speed rule)
last_sensor number (swing rule) = first_sensor number (swing rule)
last_sensor number (drift rule) = first_sensor number (drift rule)
last_sensor number (range rule) = first_sensor number (range rule)
last_sensor number (trust rule) = first_sensor number (trust rule)
last_sensor number (weight rule) = first_sensor number (weight rule)
last_sensor number (between rule) = record { sensor = record { rule = number; name = rule.second }; found = refl; number_is = refl }

sensors_long : (number : ℕ) (rule : Rule) → length (sensors_of number rule) ≡ length (sensor_names rule)
sensors_long number rule = length-map (sensor_names rule) (λ (name : List ℕ). record { rule = number; name = name })

-- ---- where they stand

first_side : (n : ℕ) (r : Rule) (rs : List Rule) (place : ℕ) (last : IsSensor n r (length (sensor_names r) - 1))
    → (slice_get (sensors_of n r) (place + (length (sensor_names r) - 1)) ≡ Some last.sensor) ⊎ ((j : ℕ) × (place + (length (sensor_names r) - 1) ≡ length (sensors_of n r) + j) × (slice_get (sensors_from (suc n) rs) j ≡ Some last.sensor))
    → place ≡ 0
first_side n r rs place last (inl here) =
    let inside = slice_get_within (sensors_of n r) (place + (length (sensor_names r) - 1)) last.sensor here in
    let long = sensors_long n r in
    omega (arith, inside, long)
first_side n r rs place last (inr later) =
    let least = sensor_least (suc n) rs later.0 last.sensor later.2 in
    let number = last.number_is in
    absurd (omega (arith, least, number))

first_place : (n : ℕ) (r : Rule) (rs : List Rule) (place : ℕ) → StandFrom (sensors_from n (r ∷ rs)) place (sensors_of n r) → place ≡ 0
first_place n r rs place stand =
    let last = last_sensor n r in
    let inside : length (sensor_names r) - 1 < length (sensors_of n r) = slice_get_within (sensors_of n r) (length (sensor_names r) - 1) last.sensor last.found in
    first_side n r rs place last (either_side (sensors_of n r) (sensors_from (suc n) rs) (place + (length (sensor_names r) - 1)) last.sensor (stand (length (sensor_names r) - 1) inside ∙ last.found))

numbered : (number : ℕ) (names : List (List ℕ)) → AllByRecursion (λ (s : NamedSensor). s.rule ≡ number) (map (λ (name : List ℕ). record { rule = number; name = name }) names)
numbered number [] = tt
numbered number (name ∷ names) = (refl, numbered number names)

own_number : (n : ℕ) (r : Rule) (place : ℕ) (s : NamedSensor) → slice_get (sensors_of n r) place ≡ Some s → s.rule ≡ n
own_number n r place s found = all_at (λ (s : NamedSensor). s.rule ≡ n) (sensors_of n r) s (numbered n (sensor_names r)) (contains_at (sensors_of n r) place s found)

-- the sensors of a later rule stand past those of the first
pub record IsPast (n : ℕ) (r : Rule) (place : ℕ) : Type 0 where
  pub past : ℕ
  pub place_is : place ≡ length (sensors_of n r) + past

later_side : (n m : ℕ) (r : Rule) (rs : List Rule) (place : ℕ) (s : NamedSensor) → s.rule ≡ m → n < m
    → (slice_get (sensors_of n r) place ≡ Some s) ⊎ ((j : ℕ) × (place ≡ length (sensors_of n r) + j) × (slice_get (sensors_from (suc n) rs) j ≡ Some s)) → IsPast n r place
later_side n m r rs place s is less (inl here) = absurd (omega (arith, less, is, own_number n r place s here))
later_side n m r rs place s is less (inr later) = record { past = later.0; place_is = later.1 }

past_first : (n m : ℕ) (r rule : Rule) (rs : List Rule) (place : ℕ) → n < m → StandFrom (sensors_from n (r ∷ rs)) place (sensors_of m rule) → IsPast n r place
past_first n m r rule rs place less stand =
    let first = first_sensor m rule in
    let inside : 0 < length (sensors_of m rule) = slice_get_within (sensors_of m rule) 0 first.sensor first.found in
    let here : place ≡ place + 0 = omega arith in
    later_side n m r rs place first.sensor first.number_is less
    (either_side (sensors_of n r) (sensors_from (suc n) rs) place first.sensor (ap (slice_get (sensors_from n (r ∷ rs))) here ∙ (stand 0 inside ∙ first.found)))

stand_later : (n m : ℕ) (r rule : Rule) (rs : List Rule) (place past : ℕ) → place ≡ length (sensors_of n r) + past → StandFrom (sensors_from n (r ∷ rs)) place (sensors_of m rule) → StandFrom (sensors_from (suc n) rs) past (sensors_of m rule)
stand_later n m r rule rs place past is stand = λ i inside.
    let at : place + i ≡ length (sensors_of n r) + (past + i) = omega (arith, is) in
    sym (on_right (sensors_of n r) (sensors_from (suc n) rs) (past + i)) ∙ (ap (slice_get (sensors_from n (r ∷ rs))) (sym at) ∙ stand i inside)

pub place_found : (n m : ℕ) (rules : List Rule) (k place : ℕ) (rule : Rule) → m ≡ n + k → slice_get rules k ≡ Some rule → StandFrom (sensors_from n rules) place (sensors_of m rule) → place ≡ named (take k rules)
place_found n m [] k place rule number found stand = absurd (none_is_some rule found)
place_found n m (r ∷ rs) zero place rule number found stand =
    let same : rule ≡ r = sym (some_same found) in
    let here : m ≡ n = omega (arith, number) in
    first_place n r rs place (subst (λ (q : Rule). StandFrom (sensors_from n (r ∷ rs)) place (sensors_of n q)) same (subst (λ (i : ℕ). StandFrom (sensors_from n (r ∷ rs)) place (sensors_of i rule)) here stand))
place_found n m (r ∷ rs) (suc k) place rule number found stand =
    let past = past_first n m r rule rs place (omega (arith, number)) stand in
    let place_is = past.place_is in
    let rest = place_found (suc n) m rs k past.past rule (omega (arith, number)) found (stand_later n m r rule rs place past.past place_is stand) in
    let long = sensors_long n r in
    omega (arith, place_is, rest, long)

-- ---- the place of a rule's sensors

named_take : (k : ℕ) (rules : List Rule) → named (take k rules) ≤ 2 * length rules
named_take zero rules = omega arith
named_take (suc k) [] = omega arith
named_take (suc k) (rule ∷ rules) = let few = few_sensors rule in let rest = named_take k rules in omega (arith, few, rest)

pub named_few : (rules : Rules) (number : ℕ) → named_before rules number ≤ 10000
named_few rules number = let most = named_take (number - 1) (rules_in_order rules) in let few = rules_few rules in omega (arith, most, few)

index_of : (rules : Rules) (number place : ℕ) (rule : Rule) → rule_of rules number ≡ Some rule → StandFrom (sensors rules) place (sensors_of number rule) → place ≡ named_before rules number
index_of rules zero place rule at stand = absurd (none_is_some rule at)
index_of rules (suc k) place rule at stand =
    let number : suc k ≡ 1 + k = omega arith in
    let same : suc k - 1 ≡ k = omega arith in
    place_found 1 (suc k) (rules_in_order rules) k place rule number at stand ∙ ap (λ (i : ℕ). named (take i (rules_in_order rules))) (sym same)

pub index_is : (rules : Rules) (number place : ℕ) → SensorsStandFrom rules number place → place ≡ named_before rules number
index_is rules number place stands = index_of rules number place stands.0 stands.1 stands.2
