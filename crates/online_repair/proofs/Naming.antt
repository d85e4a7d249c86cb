-- The first rule that the online method does not repair by.
use Rattle.std.proofs.Common.{◌≡◌, ℕ, zero, suc, ◌+◌, ◌<◌, ◌||◌, Bool, true, false, cond, List, [], ◌∷◌, ◌++◌, length, map, get_or, take, drop, refl, sym, ap, ◌∙◌, subst, arith, drop-cons, add-one}
use Rattle.std.specs.Prelude.{Some, None, bytes_eq}
use Rattle.std.specs.List.{list_any}
use Rattle.rule_file.specs.Count.{count_of}
use Rattle.rule_file.specs.Numbers.{Rule, speed, swing, drift, range, trust, weight, between}
use Rattle.rule_file.specs.declared.rules.SpeedRule.{SpeedRule}
use Rattle.rule_file.specs.declared.rules.SwingRule.{SwingRule}
use Rattle.rule_file.specs.declared.rules.DriftRule.{DriftRule}
use Rattle.rule_file.specs.declared.rules.RangeRule.{RangeRule}
use Rattle.rule_file.specs.declared.rules.TrustRule.{TrustRule}
use Rattle.rule_file.specs.declared.rules.WeightRule.{WeightRule}
use Rattle.rule_file.specs.declared.rules.BetweenRule.{BetweenRule}
use Rattle.rule_file.specs.declared.rules.Rules.{Rules}
use Rattle.online_repair.specs.Named.{is_named}
use Rattle.online_repair.specs.NotOnline.{first_of, not_online}

-- the names of the sensors of rules, the last first, before others
abbrev pub names_of : List SpeedRule → List (List ℕ) → List (List ℕ)
names_of [] names = names
names_of (rule ∷ rules) names = names_of rules (rule.sensor ∷ names)

one_of_two : (a b c : Bool) → (a || (b || c)) ≡ ((b || a) || c)
one_of_two true true c = refl
one_of_two true false c = refl
one_of_two false true c = refl
one_of_two false false c = refl

any_name : (sensor : List ℕ) (rules : List SpeedRule) (names : List (List ℕ)) → list_any (bytes_eq sensor) (names_of rules names) ≡ (is_named sensor rules || list_any (bytes_eq sensor) names)
any_name sensor [] names = refl
any_name sensor (rule ∷ rules) names =
    any_name sensor rules (rule.sensor ∷ names) ∙ one_of_two (is_named sensor rules) (bytes_eq sensor rule.sensor) (list_any (bytes_eq sensor) names)

or_false : (a : Bool) → (a || false) ≡ a
or_false true = refl
or_false false = refl

names_take : (rules : List SpeedRule) (i : ℕ) (d : SpeedRule) (names : List (List ℕ)) → i < length rules → names_of (take (suc i) rules) names ≡ (get_or rules i d).sensor ∷ names_of (take i rules) names
names_take [] i d names h = absurd (omega (arith, h))
names_take (rule ∷ rules) zero d names h = refl
names_take (rule ∷ rules) (suc i) d names h = names_take rules i d (rule.sensor ∷ names) (let g : i < length rules = omega (arith, h) in g)

abbrev pub others : Rules → List Rule
others rules = map swing rules.swings ++ map drift rules.drifts ++ map range rules.ranges ++ map trust rules.trusts ++ map weight rules.weights ++ map between rules.betweens

-- the first rules were looked at
pub record IsLooked (rules : Rules) (i : ℕ) : Type 0 where
  pub is : not_online rules ≡ first_of (suc i) (names_of (take i rules.speeds) []) (map speed (drop i rules.speeds) ++ others rules)

seven : {A : Type 0} (a b c d e f g : List A) → a ++ b ++ c ++ d ++ e ++ f ++ g ≡ a ++ (b ++ c ++ d ++ e ++ f ++ g)
seven {A = A} [] b c d e f g = refl
seven {A = A} (x ∷ a) b c d e f g = ap (λ (xs : List A). x ∷ xs) (seven a b c d e f g)

pub looked_none : (rules : Rules) → IsLooked rules 0
looked_none rules = record {
  is = ap (first_of 1 []) (seven (map speed rules.speeds) (map swing rules.swings) (map drift rules.drifts) (map range rules.ranges) (map trust rules.trusts) (map weight rules.weights) (map between rules.betweens));
}

here : (rules : Rules) (i : ℕ) (d : SpeedRule) → i < length rules.speeds → IsLooked rules i
    → not_online rules ≡ cond (is_named (get_or rules.speeds i d).sensor (take i rules.speeds)) (Some (suc i)) (first_of (suc (suc i)) (names_of (take (suc i) rules.speeds) []) (map speed (drop (suc i) rules.speeds) ++ others rules))
here rules i d h looked =
    let rule = get_or rules.speeds i d in
    let names = names_of (take i rules.speeds) [] in
    looked.is
    ∙ ap (λ (rs : List SpeedRule). first_of (suc i) names (map speed rs ++ others rules)) (drop-cons rules.speeds i d h)
    ∙ ap (λ (b : Bool). cond b (Some (suc i)) (first_of (suc (suc i)) (rule.sensor ∷ names) (map speed (drop (suc i) rules.speeds) ++ others rules))) (any_name rule.sensor (take i rules.speeds) [] ∙ or_false (is_named rule.sensor (take i rules.speeds)))
    ∙ ap (λ (ns : List (List ℕ)). cond (is_named rule.sensor (take i rules.speeds)) (Some (suc i)) (first_of (suc (suc i)) ns (map speed (drop (suc i) rules.speeds) ++ others rules))) (sym (names_take rules.speeds i d [] h))

pub named_here : (rules : Rules) (i : ℕ) (d : SpeedRule) → i < length rules.speeds → is_named (get_or rules.speeds i d).sensor (take i rules.speeds) ≡ true → IsLooked rules i → not_online rules ≡ Some (i + 1)
named_here rules i d h named looked =
    here rules i d h looked
    ∙ ap (λ (b : Bool). cond b (Some (suc i)) (first_of (suc (suc i)) (names_of (take (suc i) rules.speeds) []) (map speed (drop (suc i) rules.speeds) ++ others rules))) named
    ∙ ap (λ (n : ℕ). Some n) (sym (add-one i))

pub not_named_here : (rules : Rules) (i : ℕ) (d : SpeedRule) → i < length rules.speeds → is_named (get_or rules.speeds i d).sensor (take i rules.speeds) ≡ false → IsLooked rules i → IsLooked rules (i + 1)
not_named_here rules i d h named looked =
    let next : IsLooked rules (suc i) = record {
      is = here rules i d h looked
          ∙ ap (λ (b : Bool). cond b (Some (suc i)) (first_of (suc (suc i)) (names_of (take (suc i) rules.speeds) []) (map speed (drop (suc i) rules.speeds) ++ others rules))) named;
    } in
    subst (IsLooked rules) (sym (add-one i)) next

drop_all : {A : Type 0} (xs : List A) → drop (length xs) xs ≡ []
drop_all [] = refl
drop_all (x ∷ xs) = drop_all xs

first_other : (number : ℕ) (names : List (List ℕ)) (swings : List SwingRule) (drifts : List DriftRule) (ranges : List RangeRule) (trusts : List TrustRule) (weights : List WeightRule) (betweens : List BetweenRule)
    → 0 < length swings + length drifts + length ranges + length trusts + length weights + length betweens
    → first_of number names (map swing swings ++ map drift drifts ++ map range ranges ++ map trust trusts ++ map weight weights ++ map between betweens) ≡ Some number
first_other number names (x ∷ xs) drifts ranges trusts weights betweens h = refl
first_other number names [] (x ∷ xs) ranges trusts weights betweens h = refl
first_other number names [] [] (x ∷ xs) trusts weights betweens h = refl
first_other number names [] [] [] (x ∷ xs) weights betweens h = refl
first_other number names [] [] [] [] (x ∷ xs) betweens h = refl
first_other number names [] [] [] [] [] (x ∷ xs) h = refl
first_other number names [] [] [] [] [] [] h = absurd (omega (arith, h))

no_other : (number : ℕ) (names : List (List ℕ)) (swings : List SwingRule) (drifts : List DriftRule) (ranges : List RangeRule) (trusts : List TrustRule) (weights : List WeightRule) (betweens : List BetweenRule)
    → length swings + length drifts + length ranges + length trusts + length weights + length betweens ≡ 0
    → first_of number names (map swing swings ++ map drift drifts ++ map range ranges ++ map trust trusts ++ map weight weights ++ map between betweens) ≡ None
no_other number names [] [] [] [] [] [] h = refl
no_other number names (x ∷ xs) drifts ranges trusts weights betweens h = absurd (omega (arith, h))
no_other number names [] (x ∷ xs) ranges trusts weights betweens h = absurd (omega (arith, h))
no_other number names [] [] (x ∷ xs) trusts weights betweens h = absurd (omega (arith, h))
no_other number names [] [] [] (x ∷ xs) weights betweens h = absurd (omega (arith, h))
no_other number names [] [] [] [] (x ∷ xs) betweens h = absurd (omega (arith, h))
no_other number names [] [] [] [] [] (x ∷ xs) h = absurd (omega (arith, h))

at_end : (rules : Rules) → IsLooked rules (length rules.speeds) → not_online rules ≡ first_of (suc (length rules.speeds)) (names_of (take (length rules.speeds) rules.speeds) []) (others rules)
at_end rules looked =
    looked.is
    ∙ ap (λ (rs : List SpeedRule). first_of (suc (length rules.speeds)) (names_of (take (length rules.speeds) rules.speeds) []) (map speed rs ++ others rules)) (drop_all rules.speeds)

pub more_rules : (rules : Rules) (count : ℕ) → count ≡ count_of rules.speeds rules.swings rules.drifts rules.ranges rules.trusts rules.weights rules.betweens → length rules.speeds < count → IsLooked rules (length rules.speeds) → not_online rules ≡ Some (length rules.speeds + 1)
more_rules rules count is more looked =
    let some : 0 < length rules.swings + length rules.drifts + length rules.ranges + length rules.trusts + length rules.weights + length rules.betweens = omega (arith, is, more) in
    at_end rules looked
    ∙ first_other (suc (length rules.speeds)) (names_of (take (length rules.speeds) rules.speeds) []) rules.swings rules.drifts rules.ranges rules.trusts rules.weights rules.betweens some
    ∙ ap (λ (n : ℕ). Some n) (sym (add-one (length rules.speeds)))

pub no_more_rules : (rules : Rules) (count : ℕ) → count ≡ count_of rules.speeds rules.swings rules.drifts rules.ranges rules.trusts rules.weights rules.betweens → (length rules.speeds < count → ⊥) → IsLooked rules (length rules.speeds) → not_online rules ≡ None
no_more_rules rules count is none looked =
    let zero_left : length rules.swings + length rules.drifts + length rules.ranges + length rules.trusts + length rules.weights + length rules.betweens ≡ 0 = omega (arith, is, none) in
    at_end rules looked
    ∙ no_other (suc (length rules.speeds)) (names_of (take (length rules.speeds) rules.speeds) []) rules.swings rules.drifts rules.ranges rules.trusts rules.weights rules.betweens zero_left
