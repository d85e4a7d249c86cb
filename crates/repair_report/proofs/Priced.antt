-- The rules that have a price, and their bounds, which are all made.
use Rattle.std.proofs.Common.{◌≡◌, ◌≢◌, ℕ, zero, suc, ◌+◌, ◌<◌, Bool, true, false, cond, not, List, [], ◌∷◌, ◌++◌, length, map, filter, get_or, refl, sym, ap, ◌∙◌, arith}
use Rattle.std.specs.Prelude.{◌==◌}
use Rattle.std.specs.List.{AllByRecursion, range_with_len}
use Rattle.std.proofs.lemmas.Bool.{eqb-true, eq-eqb, false≢true}
use Rattle.std.proofs.lemmas.List.{length-append, length-map}
use Rattle.std.proofs.lemmas.List.Elements.{filter-append}
use Rattle.screen_model.specs.declared.bound.Bound.{Bound}
use Rattle.screen_model.specs.Obeys.{Priced}
use Rattle.screen_model.specs.Parts.{bounds_with_price}
use Rattle.rule_file.specs.Count.{count_of}
use Rattle.rule_file.specs.Numbers.{rules_in_order}
use Rattle.rule_file.specs.declared.rules.Rules.{Rules}
use Rattle.series_csv.specs.File.{TableView}
use Rattle.bound_maker.specs.Bounds.{all_bounds, made_bounds, price_of_number, priced}
use Rattle.bound_maker.specs.Laws.{AreAPart}
use Rattle.repair_report.specs.Repairs.{bounds_of, priced_rules}

-- ---- their numbers

pub rules_long : (rules : Rules) → length (rules_in_order rules) ≡ count_of rules.speeds rules.swings rules.drifts rules.ranges rules.trusts rules.weights rules.betweens
rules_long rules = simp (length-append, length-map) refl

abbrev pub has_price : Rules → ℕ → Bool
has_price rules number = not (price_of_number rules number == 0)

pub range_more : (a n : ℕ) → range_with_len a (n + 1) ≡ range_with_len a n ++ (a + n) ∷ []
range_more a zero = let same : a ≡ a + 0 = omega arith in ap (λ m. m ∷ []) same
range_more a (suc n) =
    let up : suc n + 1 ≡ suc (n + 1) = omega arith in
    let next : a + 1 + n ≡ a + suc n = omega arith in
    ap (range_with_len a) up
    ∙ ap (λ ms. a ∷ ms) (range_more (a + 1) n ∙ ap (λ m. range_with_len (a + 1) n ++ m ∷ []) next)

pub priced_more : (rules : Rules) (numbers new : List ℕ) (n : ℕ) → numbers ≡ filter (has_price rules) (range_with_len 1 n) → new ≡ numbers ++ filter (has_price rules) ((n + 1) ∷ [])
    → new ≡ filter (has_price rules) (range_with_len 1 (n + 1))
priced_more rules numbers new n before pushed =
    let next : n + 1 ≡ 1 + n = omega arith in
    pushed
    ∙ (ap (λ ms. ms ++ filter (has_price rules) ((n + 1) ∷ [])) before
    ∙ (sym (filter-append (has_price rules) (range_with_len 1 n) ((n + 1) ∷ []))
    ∙ (ap (λ m. filter (has_price rules) (range_with_len 1 n ++ m ∷ [])) next ∙ ap (filter (has_price rules)) (sym (range_more 1 n)))))

filter_step : (test : ℕ → Bool) (x : ℕ) (xs : List ℕ) (b : Bool) → test x ≡ b → AllByRecursion (λ y. test y ≡ true) (filter test xs) → AllByRecursion (λ y. test y ≡ true) (cond b (x ∷ filter test xs) (filter test xs))
filter_step test x xs true is all = (is, all)
filter_step test x xs false is all = all

all_pass : (test : ℕ → Bool) (xs : List ℕ) → AllByRecursion (λ y. test y ≡ true) (filter test xs)
all_pass test [] = tt
all_pass test (x ∷ xs) = filter_step test x xs (test x) refl (all_pass test xs)

some_price : (price : ℕ) → not (price == 0) ≡ true → price ≢ 0
some_price price is none = absurd (false≢true (sym (ap not (eq-eqb price 0 none)) ∙ is))

all_got : (P : ℕ → Type 0) (xs : List ℕ) (i d : ℕ) → AllByRecursion P xs → i < length xs → P (get_or xs i d)
all_got P [] i d all h = absurd (omega (arith, h))
all_got P (x ∷ xs) zero d all h = all.0
all_got P (x ∷ xs) (suc i) d all h = all_got P xs i d all.1 (omega (arith, h))

pub one_has_price : (rules : Rules) (numbers : List ℕ) (i d : ℕ) → numbers ≡ priced_rules rules → i < length numbers → price_of_number rules (get_or numbers i d) ≢ 0
one_has_price rules numbers i d are h =
    some_price (price_of_number rules (get_or numbers i d))
    (ap (has_price rules) (ap (λ ns. get_or ns i d) are)
    ∙ all_got (λ n. has_price rules n ≡ true) (priced_rules rules) i d (all_pass (has_price rules) (range_with_len 1 (length (rules_in_order rules)))) (omega (arith, h, ap length are)))

-- ---- their bounds

abbrev with_price : Rules → Bound → Priced
with_price rules bound = record { bound = bound; price = price_of_number rules bound.name.rule }

-- those of a number, among bounds with their prices
abbrev of_priced : ℕ → List Priced → List Bound
of_priced number bounds = map (λ (p : Priced). p.bound) (filter (λ (p : Priced). p.bound.name.rule == number) bounds)

not_false : (b : Bool) → not b ≡ false → b ≡ true
not_false true h = refl
not_false false h = absurd (false≢true (sym h))

no_price : (rules : Rules) (number : ℕ) (bound : Bound) → price_of_number rules number ≢ 0 → has_price rules bound.name.rule ≡ false → bound.name.rule ≢ number
no_price rules number bound some none same =
    some (sym (ap (price_of_number rules) same) ∙ eqb-true (price_of_number rules bound.name.rule) 0 (not_false (price_of_number rules bound.name.rule == 0) none))

module _ (rules : Rules) (number : ℕ) (some : price_of_number rules number ≢ 0) where
  kept_step : (bound : Bound) (bounds : List Bound) (bears is : Bool) → has_price rules bound.name.rule ≡ bears → (bound.name.rule == number) ≡ is
      → bounds_of number bounds ≡ of_priced number (bounds_with_price (priced rules bounds))
      → cond is (bound ∷ bounds_of number bounds) (bounds_of number bounds)
      ≡ of_priced number (cond bears (with_price rules bound ∷ bounds_with_price (priced rules bounds)) (bounds_with_price (priced rules bounds)))
  kept_step bound bounds true true bears_is is_is rest =
      ap (λ bs. bound ∷ bs) rest
      ∙ sym (ap (λ b. map (λ (p : Priced). p.bound) (cond b (with_price rules bound ∷ filter (λ (p : Priced). p.bound.name.rule == number) (bounds_with_price (priced rules bounds))) (filter (λ (p : Priced). p.bound.name.rule == number) (bounds_with_price (priced rules bounds))))) is_is)
  kept_step bound bounds true false bears_is is_is rest =
      rest
      ∙ sym (ap (λ b. map (λ (p : Priced). p.bound) (cond b (with_price rules bound ∷ filter (λ (p : Priced). p.bound.name.rule == number) (bounds_with_price (priced rules bounds))) (filter (λ (p : Priced). p.bound.name.rule == number) (bounds_with_price (priced rules bounds))))) is_is)
  kept_step bound bounds false true bears_is is_is rest = absurd (no_price rules number bound some bears_is (eqb-true bound.name.rule number is_is))
  kept_step bound bounds false false bears_is is_is rest = rest

  kept_priced : (bounds : List Bound) → bounds_of number bounds ≡ of_priced number (bounds_with_price (priced rules bounds))
  kept_priced [] = refl
  kept_priced (bound ∷ bounds) = kept_step bound bounds (has_price rules bound.name.rule) (bound.name.rule == number) refl refl (kept_priced bounds)

  pub same_bounds : (table : TableView) → AreAPart rules table → bounds_of number (made_bounds rules table) ≡ bounds_of number (all_bounds rules table)
  same_bounds table part = kept_priced (made_bounds rules table) ∙ (ap (of_priced number) part.prices ∙ sym (kept_priced (all_bounds rules table)))
