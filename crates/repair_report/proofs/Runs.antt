-- The bounds of a rule among bounds in the order of the rules: they stand one after the other.
use Rattle.std.proofs.Common.{◌≡◌, ℕ, zero, suc, ◌+◌, ◌-◌, ◌<◌, ◌≤◌, Bool, true, false, cond, List, [], ◌∷◌, length, map, filter, take, drop, get_or, ltb, leb, refl, sym, ap, ◌∙◌, subst, arith}
use Rattle.std.specs.Prelude.{◌==◌, ◌||◌, ◌&&◌, nat_lt, IsTrue}
use Rattle.std.specs.List.{AllByRecursion}
use Rattle.std.specs.List.Sorted.{IsNonDecreasingBy, IsPartitionPoint}
use Rattle.std.proofs.lemmas.Bool.Decides.{nat_tests}
use Rattle.std.proofs.lemmas.List.{get_or-drop, length-drop}
use Rattle.words.specs.Lists.{IsPart, none, kept, left_out}
use Rattle.words.proofs.Lists.{all_weaker}
use Rattle.words.proofs.Parts.{part_all, part_map}
use Rattle.screen_model.specs.declared.bound.Bound.{Bound}
use Rattle.screen_model.specs.declared.bound.BoundName.{BoundName}
use Rattle.screen_model.specs.Obeys.{Priced}
use Rattle.screen_model.specs.Order.{Rises, is_before, name_key, side_number}
use Rattle.rule_file.specs.declared.rules.Rules.{Rules}
use Rattle.series_csv.specs.File.{TableView}
use Rattle.bound_maker.specs.Bounds.{all_bounds, made_bounds, priced}
use Rattle.bound_maker.specs.Laws.{AreAPart}
use Rattle.bound_maker.specs.Written.{CanBeWritten}
use Rattle.repair_report.specs.Repairs.{bounds_of}

-- ---- those that pass a test and stand one after the other

module _ {A : Type 0} (test : A → Bool) where
  step_true : (x : A) (xs : List A) → test x ≡ true → filter test (x ∷ xs) ≡ x ∷ filter test xs
  step_true x xs h = ap (λ b. cond b (x ∷ filter test xs) (filter test xs)) h

  step_false : (x : A) (xs : List A) → test x ≡ false → filter test (x ∷ xs) ≡ filter test xs
  step_false x xs h = ap (λ b. cond b (x ∷ filter test xs) (filter test xs)) h

  pub run : (xs : List A) (start count : ℕ) → start + count ≤ length xs
      → ((k : ℕ) (d : A) → k < start → test (get_or xs k d) ≡ false)
      → ((k : ℕ) (d : A) → start ≤ k → k < start + count → test (get_or xs k d) ≡ true)
      → ((k : ℕ) (d : A) → start + count ≤ k → k < length xs → test (get_or xs k d) ≡ false)
      → filter test xs ≡ take count (drop start xs)
  run [] zero zero within before there after = refl
  run [] zero (suc count) within before there after = absurd (omega (arith, within))
  run [] (suc start) count within before there after = absurd (omega (arith, within))
  run (x ∷ xs) zero zero within before there after =
      step_false x xs (after 0 x (omega arith) (omega arith))
      ∙ run xs zero zero (omega arith) (λ k d h. absurd (omega (arith, h))) (λ k d low h. absurd (omega (arith, h))) (λ k d low h. after (suc k) d (omega arith) (omega (arith, h)))
  run (x ∷ xs) zero (suc count) within before there after =
      step_true x xs (there 0 x (omega arith) (omega arith))
      ∙ ap (λ ys. x ∷ ys) (run xs zero count (omega (arith, within)) (λ k d h. absurd (omega (arith, h))) (λ k d low h. there (suc k) d (omega arith) (omega (arith, h))) (λ k d low h. after (suc k) d (omega (arith, low)) (omega (arith, h))))
  run (x ∷ xs) (suc start) count within before there after =
      step_false x xs (before 0 x (omega arith))
      ∙ run xs start count (omega (arith, within)) (λ k d h. before (suc k) d (omega (arith, h))) (λ k d low h. there (suc k) d (omega (arith, low)) (omega (arith, h))) (λ k d low h. after (suc k) d (omega (arith, low)) (omega (arith, h)))

-- ---- bounds in the order of the rules

abbrev rule_in : Bound → ℕ
rule_in bound = bound.name.rule

other_below : (a b : ℕ) → ltb a b ≡ true → (a == b) ≡ false
other_below a b h = grind (arith, nat_tests)

other_above : (a b : ℕ) → leb a b ≡ false → (a == b) ≡ false
other_above a b h = grind (arith, nat_tests)

same_between : (a b : ℕ) → ltb a b ≡ false → leb a b ≡ true → (a == b) ≡ true
same_between a b g h = grind (arith, nat_tests)

pub bounds_between : (xs : List Bound) (number start count : ℕ) → start ≤ length xs → count ≤ length (drop start xs)
    → IsPartitionPoint (λ bound. ltb (rule_in bound) number ≡ true) (λ bound. ltb (rule_in bound) number ≡ false) xs start
    → IsPartitionPoint (λ bound. leb (rule_in bound) number ≡ true) (λ bound. leb (rule_in bound) number ≡ false) (drop start xs) count
    → bounds_of number xs ≡ take count (drop start xs)
bounds_between xs number start count begins ends first last =
    let long = length-drop start xs in
    let here : (k : ℕ) (d : Bound) → start ≤ k → get_or (drop start xs) (k - start) d ≡ get_or xs k d =
    λ k d low. let same : start + (k - start) ≡ k = omega (arith, low) in get_or-drop start xs (k - start) d ∙ ap (λ n. get_or xs n d) same in
    run (λ bound. rule_in bound == number) xs start count (omega (arith, long, begins, ends))
    (λ k d h. other_below (rule_in (get_or xs k d)) number (first.0 k d (omega arith) h))
    (λ k d low h. same_between (rule_in (get_or xs k d)) number (first.1 k d low (omega (arith, long, ends, begins, h)))
    (sym (ap (λ (bound : Bound). leb (rule_in bound) number) (here k d low)) ∙ last.0 (k - start) d (omega arith) (omega (arith, low, h))))
    (λ k d low h. other_above (rule_in (get_or xs k d)) number
    (sym (ap (λ (bound : Bound). leb (rule_in bound) number) (here k d (omega (arith, low)))) ∙ last.1 (k - start) d (omega (arith, low)) (omega (arith, long, low, h))))

-- ---- and bounds whose names rise are in it

abbrev pub Ascend : List Bound → Type 0
Ascend [] = Unit {0}
Ascend (x ∷ xs) = AllByRecursion (λ y. rule_in x ≤ rule_in y) xs × Ascend xs

below_or_same : (m n : ℕ) (rest : Bool) → IsTrue (nat_lt m n || ((m == n) && rest)) → m ≤ n
below_or_same m n rest h = grind (arith, nat_tests)

abbrev rest_of_key : BoundName → List ℕ
rest_of_key name = name.from_row ∷ name.to_row ∷ name.col ∷ side_number name.side ∷ []

before_rule : (m n : BoundName) → IsTrue (is_before (name_key m) (name_key n)) → m.rule ≤ n.rule
before_rule m n h = below_or_same m.rule n.rule (is_before (rest_of_key m) (rest_of_key n)) h

pub names_ascend : (xs : List Bound) → Rises name_key (map (λ (bound : Bound). bound.name) xs) → Ascend xs
names_ascend [] rises = tt
names_ascend (x ∷ []) rises = (tt, tt)
names_ascend (x ∷ y ∷ xs) rises =
    let rest = names_ascend (y ∷ xs) rises.1 in
    let first : rule_in x ≤ rule_in y = before_rule x.name y.name rises.0 in
    ((first, all_weaker (λ (z : Bound). rule_in y ≤ rule_in z) (λ (z : Bound). rule_in x ≤ rule_in z) (λ z h. omega (arith, first, h)) xs rest.0), rest)

pub part_ascends : {part whole : List Bound} → IsPart part whole → Ascend whole → Ascend part
part_ascends none up = tt
part_ascends (kept {x = x} rest) up = (part_all (λ (y : Bound). rule_in x ≤ rule_in y) rest up.0, part_ascends rest up.1)
part_ascends (left_out rest) up = part_ascends rest up.1

pub all_got : {A : Type 0} (P : A → Type 0) (xs : List A) (i : ℕ) (d : A) → AllByRecursion P xs → i < length xs → P (get_or xs i d)
all_got P [] i d all h = absurd (omega (arith, h))
all_got P (x ∷ xs) zero d all h = all.0
all_got P (x ∷ xs) (suc i) d all h = all_got P xs i d all.1 (omega (arith, h))

pub not_falling : (xs : List Bound) → Ascend xs → IsNonDecreasingBy (λ (bound : Bound). bound.name.rule) xs
not_falling [] up i j d le lt = absurd (omega (arith, lt))
not_falling (x ∷ xs) up zero zero d le lt = omega arith
not_falling (x ∷ xs) up zero (suc j) d le lt = all_got (λ (y : Bound). rule_in x ≤ rule_in y) xs j d up.0 (omega (arith, lt))
not_falling (x ∷ xs) up (suc i) zero d le lt = absurd (omega (arith, le))
not_falling (x ∷ xs) up (suc i) (suc j) d le lt = not_falling xs up.1 i j d (omega (arith, le)) (omega (arith, lt))

-- ---- the bounds that are made, by their names

unpriced : (rules : Rules) (bounds : List Bound) → map (λ (p : Priced). p.bound) (priced rules bounds) ≡ bounds
unpriced rules [] = refl
unpriced rules (bound ∷ bounds) = ap (λ (bs : List Bound). bound ∷ bs) (unpriced rules bounds)

pub made_part : (rules : Rules) (table : TableView) → AreAPart rules table → IsPart (made_bounds rules table) (all_bounds rules table)
made_part rules table part =
    subst (λ (bs : List Bound). IsPart bs (all_bounds rules table)) (unpriced rules (made_bounds rules table))
    (subst (λ (bs : List Bound). IsPart (map (λ (p : Priced). p.bound) (priced rules (made_bounds rules table))) bs) (unpriced rules (all_bounds rules table)) (part_map (λ (p : Priced). p.bound) part.part))

pub made_in_order : (rules : Rules) (table : TableView) → AreAPart rules table → CanBeWritten rules table → IsNonDecreasingBy (λ (bound : Bound). bound.name.rule) (made_bounds rules table)
made_in_order rules table part written = not_falling (made_bounds rules table) (part_ascends (made_part rules table part) (names_ascend (all_bounds rules table) written.rising))

filter_step : {A : Type 0} (test : A → Bool) (x : A) (xs : List A) (b : Bool) → length (filter test xs) ≤ length xs → length (cond b (x ∷ filter test xs) (filter test xs)) ≤ length (x ∷ xs)
filter_step test x xs true h = omega (arith, h)
filter_step test x xs false h = omega (arith, h)

pub filter_few : {A : Type 0} (test : A → Bool) (xs : List A) → length (filter test xs) ≤ length xs
filter_few test [] = omega arith
filter_few test (x ∷ xs) = filter_step test x xs (test x) (filter_few test xs)
