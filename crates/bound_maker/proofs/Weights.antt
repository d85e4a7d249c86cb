-- The weights of the weight rules among all rules.
use Rattle.std.proofs.Common.{◌≡◌, ℕ, zero, suc, ◌+◌, ◌<◌, ℤ, Bool, true, false, cond, List, [], ◌∷◌, ◌++◌, length, map, take, drop, get_or, Option, Some, None, refl, sym, ap, ◌∙◌, add-zero, arith}
use Rattle.std.specs.Prelude.{◌==◌, ◌&&◌}
use Rattle.std.specs.List.{AllByRecursion, cons_option, filter_map}
use Rattle.std.proofs.lemmas.List.{append-nil, drop_more, drop-drop, length-append, length-map}
use Rattle.std.proofs.lemmas.List.Elements.{filter_map-append}
use Rattle.words.proofs.Lists.{all_append, all_weaker}
use Rattle.rule_keys.specs.declared.key.TableKind.TheVariants as kind
use Rattle.rule_file.specs.Numbers.{Rule, speed, swing, drift, range, trust, weight, between, count_before, rules_in_order, sensor_names}
use Rattle.rule_file.specs.declared.rules.BetweenRule.{BetweenRule}
use Rattle.rule_file.specs.declared.rules.Rules.{Rules}
use Rattle.rule_file.specs.declared.rules.WeightRule.{WeightRule}
use Rattle.pair_bounds.specs.Pairs.{is_within}
use Rattle.bound_maker.specs.Bounds.{Ruled, col_of, with_columns}
use Rattle.bound_maker.specs.Costs.{last_or_one, weight_by, weight_of}
use Rattle.bound_maker.specs.Ruled.{named}
use Rattle.bound_maker.specs.Weighed.{covering, last_or}

-- the weight so far, with one rule more
pub last_more : (place : ℕ) (cols : List ℕ) (rules : List WeightRule) (col : ℕ) (ticks : ℤ) (i other next : ℕ) (d : WeightRule) → i < length rules
    → next ≡ cond ((get_or cols (place + i) 0 == col) && is_within (get_or rules i d).from (get_or rules i d).to ticks) (get_or rules i d).weight other
    → last_or other (covering (place + i) cols (drop i rules) col ticks) ≡ last_or next (covering (place + (i + 1)) cols (drop (i + 1) rules) col ticks)
last_more place cols rules col ticks i other next d h is =
    let number : suc (place + i) ≡ place + (i + 1) = omega arith in
    let rule = get_or rules i d in
    let test = (get_or cols (place + i) 0 == col) && is_within rule.from rule.to ticks in
    let step : (b : Bool) → last_or other (cond b (rule.weight ∷ covering (suc (place + i)) cols (drop (i + 1) rules) col ticks) (covering (suc (place + i)) cols (drop (i + 1) rules) col ticks)) ≡ last_or (cond b rule.weight other) (covering (suc (place + i)) cols (drop (i + 1) rules) col ticks) =
    λ b. elim b as (λ b. last_or other (cond b (rule.weight ∷ covering (suc (place + i)) cols (drop (i + 1) rules) col ticks) (covering (suc (place + i)) cols (drop (i + 1) rules) col ticks)) ≡ last_or (cond b rule.weight other) (covering (suc (place + i)) cols (drop (i + 1) rules) col ticks)) [ true ↦ refl | false ↦ refl ] in
    ap (λ rs. last_or other (covering (place + i) cols rs col ticks)) (drop_more rules i d h)
    ∙ (step test
    ∙ (ap (λ n. last_or n (covering (suc (place + i)) cols (drop (i + 1) rules) col ticks)) (sym is)
    ∙ ap (λ n. last_or next (covering n cols (drop (i + 1) rules) col ticks)) number))

-- ---- the last of numbers

last_same : (n : ℕ) (ns : List ℕ) → last_or_one (n ∷ ns) ≡ last_or n ns
last_same n [] = refl
last_same n (m ∷ ns) = last_same m ns

pub last_is : (ns : List ℕ) → last_or_one ns ≡ last_or 1 ns
last_is [] = refl
last_is (n ∷ ns) = last_same n ns

-- ---- rules with their columns, in lists that are joined

pub with_columns-append : (n : ℕ) (xs ys : List Rule) (cols : List ℕ) → with_columns n (xs ++ ys) cols ≡ with_columns n xs cols ++ with_columns (n + length xs) ys (drop (named xs) cols)
with_columns-append n [] ys cols = ap (λ m. with_columns m ys cols) (sym (add-zero n))
with_columns-append n (x ∷ xs) ys cols =
    let first : Ruled = record { number = n; rule = x; cols = take (length (sensor_names x)) cols } in
    let rest = drop (length (sensor_names x)) cols in
    let number : suc n + length xs ≡ n + suc (length xs) = omega arith in
    ap (λ rs. first ∷ rs)
    (with_columns-append (suc n) xs ys rest
    ∙ (ap (λ m. with_columns (suc n) xs rest ++ with_columns m ys (drop (named xs) rest)) number
    ∙ ap (λ cs. with_columns (suc n) xs rest ++ with_columns (n + suc (length xs)) ys cs) (drop-drop (named xs) (length (sensor_names x)) cols)))

-- ---- the weights that cover

abbrev by_rule : ℕ → ℤ → Ruled → Option ℕ
by_rule col ticks r = weight_by col ticks (col_of r) r.rule

-- rules of other kinds have no weight
abbrev pub HasNoWeight : Rule → Type 0
HasNoWeight rule = (col : ℕ) (ticks : ℤ) (rule_col : ℕ) → weight_by col ticks rule_col rule ≡ None

pub no_weights : (n : ℕ) (rules : List Rule) (cols : List ℕ) (col : ℕ) (ticks : ℤ) → AllByRecursion HasNoWeight rules → filter_map (by_rule col ticks) (with_columns n rules cols) ≡ []
no_weights n [] cols col ticks none = refl
no_weights n (rule ∷ rules) cols col ticks none =
    let rest = drop (length (sensor_names rule)) cols in
    ap (λ o. cons_option o (filter_map (by_rule col ticks) (with_columns (suc n) rules rest))) (none.0 col ticks (get_or (take (length (sensor_names rule)) cols) 0 0))
    ∙ no_weights (suc n) rules rest col ticks none.1

-- each of the weight rules has one column, the next one
choose : (b : Bool) (w : ℕ) (rest other : List ℕ) → rest ≡ other → cons_option (cond b (Some w) None) rest ≡ cond b (w ∷ other) other
choose true w rest other same = ap (λ ns. w ∷ ns) same
choose false w rest other same = same

pub first_col : (place : ℕ) (cols : List ℕ) → get_or (take 1 (drop place cols)) 0 0 ≡ get_or cols place 0
first_col zero [] = refl
first_col zero (c ∷ cols) = refl
first_col (suc place) [] = refl
first_col (suc place) (c ∷ cols) = first_col place cols

next_cols : (place : ℕ) (cols : List ℕ) → drop 1 (drop place cols) ≡ drop (suc place) cols
next_cols zero [] = refl
next_cols zero (c ∷ cols) = refl
next_cols (suc place) [] = refl
next_cols (suc place) (c ∷ cols) = next_cols place cols

pub covering_is : (n place : ℕ) (rules : List WeightRule) (cols : List ℕ) (col : ℕ) (ticks : ℤ) → filter_map (by_rule col ticks) (with_columns n (map weight rules) (drop place cols)) ≡ covering place cols rules col ticks
covering_is n place [] cols col ticks = refl
covering_is n place (rule ∷ rules) cols col ticks =
    let rest = with_columns (suc n) (map weight rules) (drop 1 (drop place cols)) in
    ap (λ c. cons_option (weight_by col ticks c (weight rule)) (filter_map (by_rule col ticks) rest)) (first_col place cols)
    ∙ choose ((get_or cols place 0 == col) && is_within rule.from rule.to ticks) rule.weight (filter_map (by_rule col ticks) rest) (covering (suc place) cols rules col ticks)
    (ap (λ cs. filter_map (by_rule col ticks) (with_columns (suc n) (map weight rules) cs)) (next_cols place cols) ∙ covering_is (suc n) (suc place) rules cols col ticks)

-- ---- the weights among all rules

-- rules of one sensor each that have no weight
abbrev IsPlain : Rule → Type 0
IsPlain rule = (length (sensor_names rule) ≡ 1) × HasNoWeight rule

plain_named : (rules : List Rule) → AllByRecursion IsPlain rules → named rules ≡ length rules
plain_named [] all = refl
plain_named (rule ∷ rules) all = omega (arith, all.0.0, plain_named rules all.1)

plain_map : {A : Type 0} (f : A → Rule) → ((x : A) → IsPlain (f x)) → (xs : List A) → AllByRecursion IsPlain (map f xs)
plain_map f plain [] = tt
plain_map f plain (x ∷ xs) = (plain x, plain_map f plain xs)

-- the rules before the weight rules
abbrev before : Rules → List Rule
before rules = map speed rules.speeds ++ map swing rules.swings ++ map drift rules.drifts ++ map range rules.ranges ++ map trust rules.trusts

before_plain : (rules : Rules) → AllByRecursion IsPlain (before rules)
before_plain rules =
    let a = map speed rules.speeds in
    let b = map swing rules.swings in
    let c = map drift rules.drifts in
    let d = map range rules.ranges in
    let e = map trust rules.trusts in
    all_append IsPlain (a ++ b ++ c ++ d) e
    (all_append IsPlain (a ++ b ++ c) d
    (all_append IsPlain (a ++ b) c
    (all_append IsPlain a b
    (plain_map speed (λ rule. (refl, λ col ticks rule_col. refl)) rules.speeds)
    (plain_map swing (λ rule. (refl, λ col ticks rule_col. refl)) rules.swings))
    (plain_map drift (λ rule. (refl, λ col ticks rule_col. refl)) rules.drifts))
    (plain_map range (λ rule. (refl, λ col ticks rule_col. refl)) rules.ranges))
    (plain_map trust (λ rule. (refl, λ col ticks rule_col. refl)) rules.trusts)

before_length : (rules : Rules) → length (before rules) ≡ count_before kind.Weight rules
before_length rules =
    simp (length-append, length-map) refl

no_between : (rules : List BetweenRule) → AllByRecursion HasNoWeight (map between rules)
no_between [] = tt
no_between (rule ∷ rules) = (λ col ticks rule_col. refl, no_between rules)

-- the weight of a reading is that of the last weight rule that covers it
pub weight_is : (rules : Rules) (cols : List ℕ) (col : ℕ) (ticks : ℤ) → weight_of (with_columns 1 (rules_in_order rules) cols) col ticks ≡ last_or 1 (covering (count_before kind.Weight rules) cols rules.weights col ticks)
weight_is rules cols col ticks =
    let first = before rules in
    let ws = map weight rules.weights in
    let bs = map between rules.betweens in
    let after = drop (named (first ++ ws)) cols in
    let g = filter_map (by_rule col ticks) in
    let plain = before_plain rules in
    let place : named first ≡ count_before kind.Weight rules = plain_named first plain ∙ before_length rules in
    let nothing : g (with_columns 1 first cols) ≡ [] = no_weights 1 first cols col ticks (all_weaker IsPlain HasNoWeight (λ rule h. h.1) first plain) in
    let last : g (with_columns (1 + length (first ++ ws)) bs after) ≡ [] = no_weights (1 + length (first ++ ws)) bs after col ticks (no_between rules.betweens) in
    let middle : g (with_columns (1 + length first) ws (drop (named first) cols)) ≡ covering (count_before kind.Weight rules) cols rules.weights col ticks =
    covering_is (1 + length first) (named first) rules.weights cols col ticks ∙ ap (λ p. covering p cols rules.weights col ticks) place in
    let split : g (with_columns 1 (first ++ ws ++ bs) cols) ≡ covering (count_before kind.Weight rules) cols rules.weights col ticks =
    ap g (with_columns-append 1 (first ++ ws) bs cols)
    ∙ (filter_map-append (by_rule col ticks) (with_columns 1 (first ++ ws) cols) (with_columns (1 + length (first ++ ws)) bs after)
    ∙ (ap (λ ns. g (with_columns 1 (first ++ ws) cols) ++ ns) last
    ∙ (append-nil (g (with_columns 1 (first ++ ws) cols))
    ∙ (ap g (with_columns-append 1 first ws cols)
    ∙ (filter_map-append (by_rule col ticks) (with_columns 1 first cols) (with_columns (1 + length first) ws (drop (named first) cols))
    ∙ (ap (λ ns. ns ++ g (with_columns (1 + length first) ws (drop (named first) cols))) nothing
    ∙ middle)))))) in
    last_is (g (with_columns 1 (rules_in_order rules) cols)) ∙ ap (last_or 1) split

-- as the code finds it
pub weight_found : (rules : Rules) (cols : List ℕ) (col place : ℕ) (ticks t : ℤ) (ws : List WeightRule) (found : ℕ) → found ≡ last_or 1 (covering place cols ws col t) → place ≡ count_before kind.Weight rules → ws ≡ rules.weights → t ≡ ticks
    → found ≡ weight_of (with_columns 1 (rules_in_order rules) cols) col ticks
weight_found rules cols col place ticks t ws found is at are time =
    is ∙ (ap (λ (p : ℕ). last_or 1 (covering p cols ws col t)) at ∙ (ap (λ (xs : List WeightRule). last_or 1 (covering (count_before kind.Weight rules) cols xs col t)) are
    ∙ (ap (λ (z : ℤ). last_or 1 (covering (count_before kind.Weight rules) cols rules.weights col z)) time ∙ sym (weight_is rules cols col ticks))))
