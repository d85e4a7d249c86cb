-- For how long the weight of a column stays.
use Rattle.std.proofs.Common.{◌≡◌, ℕ, suc, ◌+◌, ◌<◌, ◌≤◌, ◌≢◌, ℤ, ◌≤ℤ◌, ◌<ℤ◌, Bool, true, false, cond, List, [], ◌∷◌, length, get_or, set, replicate, Some, ◌⊎◌, inl, inr, refl, sym, ap, ◌∙◌, subst, below_more, get_or-set_same, get_or-set_other, arith}
use Rattle.std.specs.Prelude.{◌==◌, ◌&&◌, int_le, slice_get}
use Rattle.std.proofs.lemmas.Bool.{cases_eq}
use Rattle.std.proofs.lemmas.Int.{ints}
use Rattle.std.proofs.lemmas.List.{get_or-replicate, get_or_read, length-replicate, length-set}
use Rattle.std.proofs.lemmas.Option.{get_or_from_slice_get, slice_get_within}
use Rattle.rule_keys.specs.declared.key.TableKind.TheVariants as kind
use Rattle.rule_file.specs.Numbers.{count_before, rules_in_order}
use Rattle.rule_file.specs.declared.rules.Rules.{Rules}
use Rattle.rule_file.specs.declared.rules.WeightRule.{WeightRule}
use Rattle.pair_bounds.specs.Pairs.{is_within}
use Rattle.bound_maker.specs.declared.weigher.Stay.{Stay}
use Rattle.bound_maker.specs.Bounds.{with_columns}
use Rattle.bound_maker.specs.Costs.{weight_of}
use Rattle.bound_maker.specs.Weighed.{AreStays, IsStay, StaysSo, covering, last_or}
use Rattle.bound_maker.proofs.Weights.{weight_found}

-- ---- one rule at two times

above_fails : (from t : ℤ) → t <ℤ from → int_le from t ≡ false
above_fails from t before = grind (arith, ints)

at_most_holds : (from t : ℤ) → from ≤ℤ t → int_le from t ≡ true
at_most_holds from t h = grind (arith, ints)

outside_before : (from to t : ℤ) → t <ℤ from → is_within from to t ≡ false
outside_before from to t before = ap (λ (b : Bool). b && int_le t to) (above_fails from t before)

inside : (from to t : ℤ) → from ≤ℤ t → t ≤ℤ to → is_within from to t ≡ true
inside from to t least last = ap (λ (b : Bool). b && int_le t to) (at_most_holds from t least) ∙ at_most_holds t to last

-- a rule covers neither of two times before it begins
pub both_before : (of_column : Bool) (from to t u : ℤ) → t <ℤ from → u <ℤ from → (of_column && is_within from to t) ≡ (of_column && is_within from to u)
both_before of_column from to t u before earlier = ap (λ (b : Bool). of_column && b) (outside_before from to t before ∙ sym (outside_before from to u earlier))

-- and both of two that it lies about
pub both_within : (of_column : Bool) (from to t u : ℤ) → from ≤ℤ t → t ≤ℤ to → from ≤ℤ u → u ≤ℤ to → (of_column && is_within from to t) ≡ (of_column && is_within from to u)
both_within of_column from to t u a b c d = ap (λ (s : Bool). of_column && s) (inside from to t a b ∙ sym (inside from to u c d))

-- ---- the rules that cover a column

-- whether the rule at a place covers this column at a time
abbrev pub covers : List ℕ → ℕ → ℕ → WeightRule → ℤ → Bool
covers cols place col rule ticks = (get_or cols place 0 == col) && is_within rule.from rule.to ticks

-- the first so many rules cover the column at each of these times as at the first
abbrev pub CoverAlike : ℕ → List ℕ → List WeightRule → ℕ → ℤ → ℤ → ℕ → Type 0
CoverAlike first cols rules col from until i = (k : ℕ) → k < i → (d : WeightRule) → StaysSo (covers cols (first + k) col (get_or rules k d)) from until

-- one rule more
pub alike_more : (first : ℕ) (cols : List ℕ) (rules : List WeightRule) (col : ℕ) (from until next : ℤ) (i : ℕ) (rule : WeightRule) (of_column : Bool) → i < length rules → rule ≡ get_or rules i rule
    → of_column ≡ (get_or cols (first + i) 0 == col) → next ≤ℤ until → StaysSo (λ (t : ℤ). of_column && is_within rule.from rule.to t) from next
    → CoverAlike first cols rules col from until i → CoverAlike first cols rules col from next (i + 1)
alike_more first cols rules col from until next i rule of_column h is of most here so_far =
    below_more (λ (k : ℕ). (d : WeightRule) → StaysSo (covers cols (first + k) col (get_or rules k d)) from next) i
    (λ k below d t least last. so_far k below d t least (omega (arith, ints, most, last)))
    (λ d t least last.
    let same : rule ≡ get_or rules i d = get_or_read rules i rule h is d in
    let both : (u : ℤ) → (of_column && is_within rule.from rule.to u) ≡ covers cols (first + i) col (get_or rules i d) u =
    λ u. ap (λ (b : Bool). b && is_within rule.from rule.to u) of ∙ ap (λ (r : WeightRule). covers cols (first + i) col r u) same in
    sym (both t) ∙ (here t least last ∙ both from))

choose : (b c : Bool) (w : ℕ) (xs ys : List ℕ) → b ≡ c → xs ≡ ys → cond b (w ∷ xs) xs ≡ cond c (w ∷ ys) ys
choose b c w xs ys test rest = ap (λ (t : Bool). cond t (w ∷ xs) xs) test ∙ ap (λ (zs : List ℕ). cond c (w ∷ zs) zs) rest

covering_alike : (place : ℕ) (cols : List ℕ) (rules : List WeightRule) (col : ℕ) (t u : ℤ)
    → ((k at : ℕ) → at ≡ place + k → k < length rules → (d : WeightRule) → covers cols at col (get_or rules k d) t ≡ covers cols at col (get_or rules k d) u)
    → covering place cols rules col t ≡ covering place cols rules col u
covering_alike place cols [] col t u each = refl
covering_alike place cols (rule ∷ rules) col t u each =
    choose (covers cols place col rule t) (covers cols place col rule u) rule.weight (covering (suc place) cols rules col t) (covering (suc place) cols rules col u)
    (each 0 place (omega arith) (omega arith) rule)
    (covering_alike (suc place) cols rules col t u (λ k at is h. each (suc k) at (omega (arith, is)) (omega (arith, h))))

-- all of them
pub alike_all : (first : ℕ) (cols : List ℕ) (rules : List WeightRule) (col : ℕ) (from until : ℤ) (i : ℕ) → length rules ≤ i → CoverAlike first cols rules col from until i → StaysSo (covering first cols rules col) from until
alike_all first cols rules col from until i past alike t least last =
    covering_alike first cols rules col t from
    (λ k at is h d.
    let there = alike k (omega (arith, h, past)) d t least last in
    subst (λ (n : ℕ). covers cols n col (get_or rules k d) t ≡ covers cols n col (get_or rules k d) from) (sym is) there)

-- ---- the weight

pub stays_from : (rules : Rules) (cols : List ℕ) (col place : ℕ) (from until : ℤ) (ws : List WeightRule) (found : ℕ) → found ≡ last_or 1 (covering place cols ws col from) → place ≡ count_before kind.Weight rules → ws ≡ rules.weights
    → StaysSo (covering place cols ws col) from until → (t : ℤ) → from ≤ℤ t → t ≤ℤ until → weight_of (with_columns 1 (rules_in_order rules) cols) col t ≡ found
stays_from rules cols col place from until ws found is at are so t least last =
    sym (weight_found rules cols col place t t ws found (is ∙ ap (λ (ns : List ℕ). last_or 1 ns) (sym (so t least last))) at are refl)

-- ---- what is kept of the columns

pub none_kept : (rules : Rules) (cols : List ℕ) (n : ℕ) (stay : Stay) → stay.until <ℤ stay.from → AreStays rules cols (replicate n stay)
none_kept rules cols n stay never col d h =
    let within : col < n = omega (arith, h, length-replicate n stay) in
    subst (λ (s : Stay). IsStay rules cols col s) (sym (get_or-replicate n col stay d within)) (λ t least last. absurd (omega (arith, ints, never, least, last)))

pub kept_of : (rules : Rules) (cols : List ℕ) (stays : List Stay) (col : ℕ) (stay : Stay) → slice_get stays col ≡ Some stay → AreStays rules cols stays → IsStay rules cols col stay
kept_of rules cols stays col stay at are =
    subst (λ (s : Stay). IsStay rules cols col s) (get_or_from_slice_get stays col stay stay at) (are col stay (slice_get_within stays col stay at))

kept_step : (rules : Rules) (cols : List ℕ) (stays : List Stay) (place : ℕ) (stay : Stay) (col : ℕ) (d : Stay) → (col ≡ place) ⊎ (col ≢ place) → col < length stays → AreStays rules cols stays → IsStay rules cols place stay
    → IsStay rules cols col (get_or (set stays place stay) col d)
kept_step rules cols stays place stay col d (inl same) h are is =
    let within : place < length stays = omega (arith, same, h) in
    let there : get_or (set stays place stay) place d ≡ stay = get_or-set_same stays place stay d within in
    subst (λ (c : ℕ). IsStay rules cols c (get_or (set stays place stay) c d)) (sym same) (subst (λ (s : Stay). IsStay rules cols place s) (sym there) is)
kept_step rules cols stays place stay col d (inr other) h are is =
    subst (λ (s : Stay). IsStay rules cols col s) (sym (get_or-set_other stays place col stay d other)) (are col d h)

pub kept_more : (rules : Rules) (cols : List ℕ) (stays : List Stay) (place : ℕ) (stay : Stay) → AreStays rules cols stays → IsStay rules cols place stay → AreStays rules cols (set stays place stay)
kept_more rules cols stays place stay are is col d h =
    kept_step rules cols stays place stay col d (cases_eq col place) (omega (arith, h, length-set stays place stay)) are is
