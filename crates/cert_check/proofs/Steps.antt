-- Lines, and the bounds that they name.
use Rattle.std.proofs.Common.{◌≡◌, ◌≢◌, ℕ, suc, ◌+◌, ◌<◌, ◌≤◌, Bool, true, false, cond, not, ℤ, ◌+ℤ◌, List, [], ◌∷◌, ◌++◌, length, map, filter, drop, get_or, set, Option, Some, None, refl, sym, ap, ◌∙◌, subst, arith, append_assoc, inl, inr}
use Rattle.std.specs.Prelude.{Contains, slice_get, unsigned_abs, ◌&&◌, ◌||◌, ◌-◌, ◌*◌, ◌^◌}
use Rattle.std.specs.List.{AllByRecursion}
use Rattle.std.proofs.lemmas.Bool.{false≢true}
use Rattle.std.proofs.lemmas.List.{drop_all, drop_more}
use Rattle.std.proofs.lemmas.Int.{ints}
use Rattle.words.specs.Lists.{Distinct, total}
use Rattle.words.proofs.Lists.{contains_cases, contains_first, contains_later, contains_map, contains_none}
use Rattle.screen_model.specs.declared.bound.Bound.{Bound}
use Rattle.screen_model.specs.declared.bound.BoundName.{BoundName}
use Rattle.screen_model.specs.declared.place.End.{End}
use Rattle.screen_model.specs.declared.place.Place.{Place}
use Rattle.screen_model.specs.Names.{AreNamesIn, bounds_named, is_same_name, names_of}
use Rattle.screen_model.specs.Obeys.{Priced}
use Rattle.screen_model.proofs.Names.{bound_named, name_from_same, other_name, same_name}
use Rattle.rule_file.specs.declared.rules.Rules.{Rules}
use Rattle.series_csv.specs.File.{TableView}
use Rattle.bound_maker.specs.Bounds.{all_bounds, price_of_number, priced}
use Rattle.bound_maker.specs.Costs.{whole_problem}
use Rattle.bound_maker.specs.Laws.{NamesAreDistinct}
use Rattle.cert_check.specs.declared.cycle.TheConstants.{BEFORE_STEPS}
use Rattle.cert_check.specs.Cycle.{cycle_of, first_open, is_among, is_same_end, last_second}
use Rattle.cert_check.specs.Marks.{ends_of, marks_of}
use Rattle.cert_check.specs.Repair.{first_line, is_known}
use Rattle.cert_check.proofs.Marked.{ends_distinct, get_within, length-marks_of, mark_is, mark_more}

-- ---- the first line that passes a test

pub line_found : {A : Type 0} (test : A → Bool) (xs : List A) (i n : ℕ) (d : A) → i < length xs → test (get_or xs i d) ≡ true → first_line test n (drop i xs) ≡ Some (n + 1)
line_found test xs i n d h passes =
    let next : suc n ≡ n + 1 = omega arith in
    ap (first_line test n) (drop_more xs i d h) ∙ (ap (λ b. cond b (Some (suc n)) (first_line test (suc n) (drop (i + 1) xs))) passes ∙ ap Some next)

pub line_passed : {A : Type 0} (test : A → Bool) (xs : List A) (i n : ℕ) (d : A) → i < length xs → test (get_or xs i d) ≡ false → first_line test n (drop i xs) ≡ first_line test (n + 1) (drop (i + 1) xs)
line_passed test xs i n d h fails =
    let next : suc n ≡ n + 1 = omega arith in
    ap (first_line test n) (drop_more xs i d h) ∙ (ap (λ b. cond b (Some (suc n)) (first_line test (suc n) (drop (i + 1) xs))) fails ∙ ap (λ m. first_line test m (drop (i + 1) xs)) next)

pub line_none : {A : Type 0} (test : A → Bool) (xs : List A) (i n : ℕ) → length xs ≤ i → first_line test n (drop i xs) ≡ None
line_none test xs i n h = ap (first_line test n) (drop_all i xs h)

none_is_some : {A : Type 0} (x : A) → ◌≡◌ {A = Option A} None (Some x) → ⊥
none_is_some x e = cc

-- where there is none, no line passes
none_split : {A : Type 0} (test : A → Bool) (n : ℕ) (x : A) (xs : List A) (b : Bool) → test x ≡ b → (first_line test (suc n) xs ≡ None → AllByRecursion (λ y. test y ≡ false) xs)
    → first_line test n (x ∷ xs) ≡ None → AllByRecursion (λ y. test y ≡ false) (x ∷ xs)
none_split test n x xs true is later none = absurd (none_is_some (suc n) (sym none ∙ ap (λ b. cond b (Some (suc n)) (first_line test (suc n) xs)) is))
none_split test n x xs false is later none = (is, later (sym (ap (λ b. cond b (Some (suc n)) (first_line test (suc n) xs)) is) ∙ none))

pub none_passes : {A : Type 0} (test : A → Bool) (n : ℕ) (xs : List A) → first_line test n xs ≡ None → AllByRecursion (λ x. test x ≡ false) xs
none_passes test n [] none = tt
none_passes test n (x ∷ xs) none = none_split test n x xs (test x) refl (none_passes test (suc n) xs) none

-- ---- names

names_priced : (rules : Rules) (bounds : List Bound) → names_of (priced rules bounds) ≡ map (λ (bound : Bound). bound.name) bounds
names_priced rules [] = refl
names_priced rules (bound ∷ bounds) = ap (λ (names : List BoundName). bound.name ∷ names) (names_priced rules bounds)

contains_after : (first : BoundName) (names : List BoundName) (name : BoundName) → first ≢ name → Contains (first ∷ names) name → Contains names name
contains_after first names name other has = elim (contains_cases first names name has) [ inl same ↦ absurd (other same) | inr later ↦ later ]

apart_tests : (m n : BoundName) → m ≡ n → is_same_name m n ≡ false → ⊥
apart_tests m n same fails = false≢true (sym fails ∙ (ap (is_same_name m) (sym same) ∙ same_name m))

known_split : (p : Priced) (bounds : List Priced) (name : BoundName) (b : Bool) → is_same_name name p.bound.name ≡ b → (Contains (names_of bounds) name → is_known bounds name ≡ true)
    → Contains (names_of (p ∷ bounds)) name → is_known (p ∷ bounds) name ≡ true
known_split p bounds name true is later has = ap (λ b. b || is_known bounds name) is
known_split p bounds name false is later has =
    let rest : Contains (names_of bounds) name = contains_after p.bound.name (names_of bounds) name (λ same. apart_tests name p.bound.name (sym same) is) has in
    ap (λ b. b || is_known bounds name) is ∙ later rest

pub known_yes : (bounds : List Priced) (name : BoundName) → Contains (names_of bounds) name → is_known bounds name ≡ true
known_yes [] name has = absurd (contains_none name has)
known_yes (p ∷ bounds) name has = known_split p bounds name (is_same_name name p.bound.name) refl (known_yes bounds name) has

known_no : (bounds : List Priced) (name : BoundName) → (Contains (names_of bounds) name → ⊥) → is_known bounds name ≡ false
known_no [] name none = refl
known_no (p ∷ bounds) name none =
    let other : name ≢ p.bound.name = λ same. none (subst (λ (z : BoundName). Contains (names_of (p ∷ bounds)) z) (sym same) (contains_first p.bound.name (names_of bounds))) in
    ap (λ b. b || is_known bounds name) (other_name name p.bound.name other) ∙ known_no bounds name (λ has. none (contains_later p.bound.name (names_of bounds) name has))

from_split : (p : Priced) (bounds : List Priced) (name : BoundName) (b : Bool) → is_same_name name p.bound.name ≡ b → (is_known bounds name ≡ true → Contains (names_of bounds) name)
    → is_known (p ∷ bounds) name ≡ true → Contains (names_of (p ∷ bounds)) name
from_split p bounds name true is later known = subst (λ (z : BoundName). Contains (names_of (p ∷ bounds)) z) (sym (name_from_same name p.bound.name is)) (contains_first p.bound.name (names_of bounds))
from_split p bounds name false is later known = contains_later p.bound.name (names_of bounds) name (later (sym (ap (λ b. b || is_known bounds name) is) ∙ known))

known_from : (bounds : List Priced) (name : BoundName) → is_known bounds name ≡ true → Contains (names_of bounds) name
known_from [] name known = cc
known_from (p ∷ bounds) name known = from_split p bounds name (is_same_name name p.bound.name) refl (known_from bounds name) known

not_true : (b : Bool) → not b ≡ false → b ≡ true
not_true true h = refl
not_true false h = cc

-- lines of which none names no bound
pub all_named : {A : Type 0} (bounds : List Priced) (name_of : A → BoundName) (xs : List A) → AllByRecursion (λ x. not (is_known bounds (name_of x)) ≡ false) xs → AreNamesIn bounds (map name_of xs)
all_named bounds name_of [] all = tt
all_named bounds name_of (x ∷ xs) all = (known_from bounds (name_of x) (not_true (is_known bounds (name_of x)) all.0), all_named bounds name_of xs all.1)

-- ---- the bound that a line names

abbrev pub with_price : Rules → Bound → Priced
with_price rules bound = record { bound = bound; price = price_of_number rules bound.name.rule }

pub record IsNamedBy (rules : Rules) (table : TableView) (name : BoundName) (bound : Bound) : Type 0 where
  pub member : Contains (all_bounds rules table) bound
  pub name_is : bound.name ≡ name

pub names_apart : (rules : Rules) (table : TableView) → NamesAreDistinct rules table → Distinct (names_of (whole_problem rules table).bounds)
names_apart rules table distinct = subst (λ (names : List BoundName). Distinct names) (sym (names_priced rules (all_bounds rules table))) distinct

pub among_priced : (rules : Rules) (table : TableView) (bound : Bound) → Contains (all_bounds rules table) bound → Contains (whole_problem rules table).bounds (with_price rules bound)
among_priced rules table bound has = contains_map (with_price rules) (all_bounds rules table) bound has

pub is_named : (rules : Rules) (table : TableView) (name : BoundName) (bound : Bound) → IsNamedBy rules table name bound → not (is_known (whole_problem rules table).bounds name) ≡ false
is_named rules table name bound named =
    let has : Contains (map (λ (b : Bound). b.name) (all_bounds rules table)) bound.name = contains_map (λ (b : Bound). b.name) (all_bounds rules table) bound named.member in
    let there = subst (λ (names : List BoundName). Contains names bound.name) (sym (names_priced rules (all_bounds rules table))) has in
    ap not (known_yes (whole_problem rules table).bounds name (subst (λ (z : BoundName). Contains (names_of (whole_problem rules table).bounds) z) named.name_is there))

pub is_not_named : (rules : Rules) (table : TableView) (name : BoundName) → (Contains (map (λ (b : Bound). b.name) (all_bounds rules table)) name → ⊥) → not (is_known (whole_problem rules table).bounds name) ≡ true
is_not_named rules table name none =
    ap not (known_no (whole_problem rules table).bounds name (λ has. none (subst (λ (names : List BoundName). Contains names name) (names_priced rules (all_bounds rules table)) has)))

-- the bounds of a name and of those that follow
pub named_next : (rules : Rules) (table : TableView) (name : BoundName) (bound : Bound) (names : List BoundName) → NamesAreDistinct rules table → IsNamedBy rules table name bound
    → bounds_named (name ∷ names) (whole_problem rules table).bounds ≡ with_price rules bound ∷ bounds_named names (whole_problem rules table).bounds
named_next rules table name bound names distinct named =
    let bounds = (whole_problem rules table).bounds in
    let one = bound_named bounds (with_price rules bound) (names_apart rules table distinct) (among_priced rules table bound named.member) in
    ap (λ (n : BoundName). filter (λ (other : Priced). is_same_name n other.bound.name) bounds ++ bounds_named names bounds) (sym named.name_is)
    ∙ ap (λ (first : List Priced). first ++ bounds_named names bounds) one

-- ---- the cycle of steps

pub cycle_step : (rules : Rules) (table : TableView) (steps : List BoundName) (cycle : List Bound) (i : ℕ) (d : BoundName) (bound : Bound) → i < length steps
    → NamesAreDistinct rules table → IsNamedBy rules table (get_or steps i d) bound
    → (cycle ++ bound ∷ []) ++ cycle_of rules table (drop (i + 1) steps) ≡ cycle ++ cycle_of rules table (drop i steps)
cycle_step rules table steps cycle i d bound h distinct named =
    let next = named_next rules table (get_or steps i d) bound (drop (i + 1) steps) distinct named in
    let here : cycle_of rules table (drop i steps) ≡ bound ∷ cycle_of rules table (drop (i + 1) steps) =
    ap (cycle_of rules table) (drop_more steps i d h) ∙ ap (map (λ (p : Priced). p.bound)) next in
    append_assoc cycle (bound ∷ []) (cycle_of rules table (drop (i + 1) steps)) ∙ ap (λ (rest : List Bound). cycle ++ rest) (sym here)

-- ---- where a cycle is open

pub record IsOpenSoFar (places : List Place) (cycle : List Bound) (marks : List Bool) (last : End) (number : ℕ) (rest : List Bound) : Type 0 where
  pub earlier : List End
  pub marks_are : marks ≡ marks_of earlier (ends_of places)
  pub same : first_open earlier last number rest ≡ first_open [] (last_second cycle) BEFORE_STEPS cycle

abbrev goes : Bool → List End → Bound → ℕ → List Bound → Option ℕ
goes b earlier bound n rest = cond b (first_open (bound.first ∷ earlier) bound.second (suc n) rest) (Some (suc n))

module _ (places : List Place) (cycle : List Bound) (marks : List Bool) (last : End) (n i j : ℕ) (d : Bound) (marked : Bool)
    (h : i < length cycle) (found : slice_get (ends_of places) j ≡ Some (get_or cycle i d).first) (is_marked : marked ≡ get_or marks j false) where
  abbrev bound : Bound
  bound = get_or cycle i d

  mark_there : (so_far : IsOpenSoFar places cycle marks last n (drop i cycle)) → marked ≡ is_among so_far.earlier bound.first
  mark_there so_far = is_marked ∙ (ap (λ (ms : List Bool). get_or ms j false) so_far.marks_are ∙ mark_is so_far.earlier (ends_of places) j bound.first found)

  here : (so_far : IsOpenSoFar places cycle marks last n (drop i cycle)) (b : Bool) → is_same_end bound.first last && not marked ≡ b
      → goes b so_far.earlier bound n (drop (i + 1) cycle) ≡ first_open [] (last_second cycle) BEFORE_STEPS cycle
  here so_far b is =
      let rest = drop (i + 1) cycle in
      let test : is_same_end bound.first last && not (is_among so_far.earlier bound.first) ≡ b = ap (λ m. is_same_end bound.first last && not m) (sym (mark_there so_far)) ∙ is in
      ap (λ t. goes t so_far.earlier bound n rest) (sym test) ∙ (ap (first_open so_far.earlier last n) (sym (drop_more cycle i d h)) ∙ so_far.same)

  pub open_here : IsOpenSoFar places cycle marks last n (drop i cycle) → is_same_end bound.first last && not marked ≡ false
      → Some (n + 1) ≡ first_open [] (last_second cycle) BEFORE_STEPS cycle
  open_here so_far is =
      let next : n + 1 ≡ suc n = omega arith in
      ap Some next ∙ here so_far false is

  pub open_later : (new : List Bool) → new ≡ set marks j true → Distinct places → IsOpenSoFar places cycle marks last n (drop i cycle) → is_same_end bound.first last && not marked ≡ true
      → IsOpenSoFar places cycle new bound.second (n + 1) (drop (i + 1) cycle)
  open_later new new_is distinct so_far is =
      let next : n + 1 ≡ suc n = omega arith in
      record {
        earlier = bound.first ∷ so_far.earlier;
        marks_are = new_is ∙ (ap (λ (ms : List Bool). set ms j true) so_far.marks_are ∙ mark_more so_far.earlier (ends_of places) j bound.first (ends_distinct places distinct) found);
        same = ap (λ m. first_open (bound.first ∷ so_far.earlier) bound.second m (drop (i + 1) cycle)) next ∙ here so_far true is;
      }

pub marked_within : (places : List Place) (cycle : List Bound) (marks : List Bool) (last : End) (n : ℕ) (rest : List Bound) (j : ℕ) (e : End) → IsOpenSoFar places cycle marks last n rest
    → slice_get (ends_of places) j ≡ Some e → j < length marks
marked_within places cycle marks last n rest j e so_far found =
    omega (arith, get_within (ends_of places) j e found, ap length so_far.marks_are, length-marks_of so_far.earlier (ends_of places))

pub open_first : (places : List Place) (cycle : List Bound) (marks : List Bool) (last : End) → marks ≡ marks_of [] (ends_of places) → last ≡ last_second cycle → IsOpenSoFar places cycle marks last BEFORE_STEPS (drop 0 cycle)
open_first places cycle marks last are is = record { earlier = []; marks_are = are; same = ap (λ (end : End). first_open [] end BEFORE_STEPS cycle) is }

pub open_nowhere : (places : List Place) (cycle : List Bound) (marks : List Bool) (last : End) (n i : ℕ) → length cycle ≤ i → IsOpenSoFar places cycle marks last n (drop i cycle)
    → None ≡ first_open [] (last_second cycle) BEFORE_STEPS cycle
open_nowhere places cycle marks last n i h so_far = sym (ap (first_open so_far.earlier last n) (drop_all i cycle h)) ∙ so_far.same

-- where the last one ends
one_less : (cycle : List Bound) → suc (suc (length cycle)) - 1 ≡ suc (suc (length cycle) - 1)
one_less cycle = omega arith

pub last_is : (cycle : List Bound) (bound : Bound) → Some bound ≡ slice_get cycle (length cycle - 1) → bound.second ≡ last_second cycle
last_is [] bound is = absurd (none_is_some bound (sym is))
last_is (first ∷ []) bound is = let same : bound ≡ first = cc in ap (λ (b : Bound). b.second) same
last_is (first ∷ next ∷ cycle) bound is = last_is (next ∷ cycle) bound (is ∙ ap (slice_get (first ∷ next ∷ cycle)) (one_less cycle))

-- ---- sums of limits

pub limits_step : (cycle : List Bound) (i : ℕ) (d : Bound) (sum limit new : ℤ) → i < length cycle → limit ≡ (get_or cycle i d).limit → new ≡ sum +ℤ limit
    → (sum +ℤ total (map (λ (b : Bound). b.limit) (drop i cycle))) ≡ total (map (λ (b : Bound). b.limit) cycle)
    → (new +ℤ total (map (λ (b : Bound). b.limit) (drop (i + 1) cycle))) ≡ total (map (λ (b : Bound). b.limit) cycle)
limits_step cycle i d sum limit new h limit_is new_is before =
    let here = ap (λ (bs : List Bound). total (map (λ (b : Bound). b.limit) bs)) (drop_more cycle i d h) in
    omega (arith, ints, here, limit_is, new_is, before)

pub limits_small : (sum limit new : ℤ) (i : ℕ) → new ≡ sum +ℤ limit → unsigned_abs limit ≤ 2 ^ 63 → unsigned_abs sum ≤ i * 2 ^ 63 → unsigned_abs new ≤ (i + 1) * 2 ^ 63
limits_small sum limit new i is few small = omega (arith, ints, is, few, small)
