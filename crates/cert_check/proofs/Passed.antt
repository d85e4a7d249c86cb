-- What it means that no fault is there.
use Rattle.std.proofs.Common.{◌≡◌, ◌≢◌, ℕ, zero, suc, Bool, true, false, cond, not, ℤ, pos, ◌≤ℤ◌, List, [], ◌∷◌, map, Option, Some, None, Ok, refl, sym, ap, ◌∙◌, subst, arith, inl, inr}
use Rattle.std.specs.Prelude.{Contains, int_lt, option_map, ◌&&◌, ◌||◌, ◌==◌, nat_lt, ◌⊎◌}
use Rattle.std.specs.Ordering.{int_eq}
use Rattle.std.specs.List.{AllByRecursion, AllZip}
use Rattle.std.proofs.lemmas.Bool.{false≢true}
use Rattle.std.proofs.lemmas.Bool.Decides.{Decides-int_eq, nat_tests}
use Rattle.std.proofs.lemmas.Int.{ints}
use Rattle.words.specs.Lists.{Distinct}
use Rattle.words.proofs.Lists.{all_at, all_weaker, contains_cases, contains_first, contains_later, contains_none}
use Rattle.screen_model.specs.declared.bound.Bound.{Bound}
use Rattle.screen_model.specs.declared.bound.BoundName.{BoundName}
use Rattle.screen_model.specs.declared.bound.FlowItem.{FlowItem}
use Rattle.screen_model.specs.Flow.{CanCarry}
use Rattle.screen_model.specs.Names.{AreNamesIn, bounds_named, names_of}
use Rattle.screen_model.specs.Obeys.{Priced}
use Rattle.screen_model.specs.Order.{Rises, is_before, item_key, name_key}
use Rattle.screen_model.proofs.Names.{tell}
use Rattle.cert_format.specs.Line.{IsItem}
use Rattle.rule_file.specs.declared.rules.Rules.{Rules}
use Rattle.bound_maker.specs.Bounds.{price_of_number, priced}
use Rattle.cert_check.specs.declared.accepted.Accepted.{Accepted}
use Rattle.cert_check.specs.declared.fault.CertFault.{CertFault}
use Rattle.cert_check.specs.Judges.{answer_by}
use Rattle.cert_check.specs.Repair.{is_above, unless_same}

-- ---- answers

pub record IsPassed (faults : List (Option CertFault)) (accepted given : Accepted) : Type 0 where
  pub none : AllByRecursion (λ fault. fault ≡ None) faults
  pub same : accepted ≡ given

pub passed : (faults : List (Option CertFault)) (accepted given : Accepted) → Ok accepted ≡ answer_by faults given → IsPassed faults accepted given
passed [] accepted given is = record { none = tt; same = cc }
passed (Some fault ∷ faults) accepted given is = absurd (cc)
passed (None ∷ faults) accepted given is = let rest = passed faults accepted given is in record { none = (refl, rest.none); same = rest.same }

pub map_none : {A B : Type 0} (f : A → B) (o : Option A) → option_map f o ≡ None → o ≡ None
map_none f None none = refl
map_none f (Some x) none = absurd (cc)

some_not : {A : Type 0} {x : A} → ◌≡◌ {A = Option A} (Some x) None → ⊥
some_not e = cc

same_split : (x y : ℤ) (fault : CertFault) (b : Bool) → int_eq x y ≡ b → unless_same x y fault ≡ None → x ≡ y
same_split x y fault true is none = (Decides-int_eq x y).0 is
same_split x y fault false is none = absurd (some_not (ap (λ t. cond t None (Some fault)) (sym is) ∙ none))

pub same_given : (x y : ℤ) (fault : CertFault) → unless_same x y fault ≡ None → x ≡ y
same_given x y fault none = same_split x y fault (int_eq x y) refl none

-- ---- amounts and prices

below : (n : ℕ) (amount : ℤ) → int_lt (pos n) amount ≡ false → amount ≤ℤ pos n
below n amount h = grind (arith, ints)

carry : (price : ℕ) (p : Priced) (amount : ℤ) → p.price ≡ price → pos 1 ≤ℤ amount → is_above price amount ≡ false → CanCarry p amount
carry zero p amount is some above = (omega (arith, ints, some), λ priced. absurd (omega (arith, is, priced)))
carry (suc n) p amount is some above =
    let some_price : (suc n == 0) ≡ false = grind (arith, nat_tests) in
    let most : amount ≤ℤ pos (suc n) = below (suc n) amount (sym (ap (λ b. not b && int_lt (pos (suc n)) amount) some_price) ∙ above) in
    (omega (arith, ints, some), λ priced. subst (λ m. amount ≤ℤ pos m) (sym is) most)

-- ---- the bounds of names

pub record Members (bounds : List Priced) (names : List BoundName) : Type 0 where
  pub list : List Priced
  pub each : AllByRecursion (Contains bounds) list
  pub names_are : names_of list ≡ names

record Owner (name : BoundName) (bounds : List Priced) : Type 0 where
  owned : Priced
  member : Contains bounds owned
  bears : owned.bound.name ≡ name

owner_cases : (name : BoundName) (first : Priced) (bounds : List Priced) → (first.bound.name ≡ name) ⊎ Contains (names_of bounds) name → (Contains (names_of bounds) name → Owner name bounds) → Owner name (first ∷ bounds)
owner_cases name first bounds (inl e) rest = record { owned = first; member = contains_first first bounds; bears = e }
owner_cases name first bounds (inr later) rest = let owner = rest later in record { owned = owner.owned; member = contains_later first bounds owner.owned owner.member; bears = owner.bears }

owner_of : (name : BoundName) (bounds : List Priced) → Contains (names_of bounds) name → Owner name bounds
owner_of name [] h = absurd (contains_none name h)
owner_of name (first ∷ bounds) h = owner_cases name first bounds (contains_cases first.bound.name (names_of bounds) name h) (owner_of name bounds)

both_names : (m n : BoundName) (ms ns : List BoundName) → m ≡ n → ms ≡ ns → m ∷ ms ≡ n ∷ ns
both_names m n ms ns e f = cc

pub members_of : (bounds : List Priced) (names : List BoundName) → AreNamesIn bounds names → Members bounds names
members_of bounds [] all = record { list = []; each = tt; names_are = refl }
members_of bounds (name ∷ names) all =
    let owner = owner_of name bounds all.0 in
    let rest = members_of bounds names all.1 in
    record {
      list = owner.owned ∷ rest.list;
      each = (owner.member, rest.each);
      names_are = both_names owner.owned.bound.name name (names_of rest.list) names owner.bears rest.names_are;
    }

pub named_is : (bounds : List Priced) (names : List BoundName) → Distinct (names_of bounds) → (members : Members bounds names) → bounds_named names bounds ≡ members.list
named_is bounds names distinct members =
    ap (λ (ns : List BoundName). bounds_named ns bounds) (sym members.names_are) ∙ (tell bounds members.list distinct members.each).1

-- the price of each bound is that of its rule
abbrev pub HasPrice : Rules → Priced → Type 0
HasPrice rules p = p.price ≡ price_of_number rules p.bound.name.rule

priced_so : (rules : Rules) (bounds : List Bound) → AllByRecursion (HasPrice rules) (priced rules bounds)
priced_so rules [] = tt
priced_so rules (bound ∷ bounds) = (refl, priced_so rules bounds)

pub members_priced : (rules : Rules) (bounds : List Bound) (list : List Priced) → AllByRecursion (Contains (priced rules bounds)) list → AllByRecursion (HasPrice rules) list
members_priced rules bounds list all = all_weaker (Contains (priced rules bounds)) (HasPrice rules) (λ p has. all_at (HasPrice rules) (priced rules bounds) p (priced_so rules bounds) has) list all

first_name : (m n : BoundName) (ms ns : List BoundName) → m ∷ ms ≡ n ∷ ns → m ≡ n
first_name m n ms ns e = cc

later_names : (m n : BoundName) (ms ns : List BoundName) → m ∷ ms ≡ n ∷ ns → ms ≡ ns
later_names m n ms ns e = cc

abbrev pub item_name : FlowItem → BoundName
item_name item = item.name

pub all_carried : (rules : Rules) (list : List Priced) (items : List FlowItem) → names_of list ≡ map item_name items → AllByRecursion (HasPrice rules) list → AllByRecursion IsItem items
    → AllByRecursion (λ (item : FlowItem). is_above (price_of_number rules item.name.rule) item.amount ≡ false) items → AllZip CanCarry list (map (λ (item : FlowItem). item.amount) items)
all_carried rules [] [] names prices are above = tt
all_carried rules [] (item ∷ items) names prices are above = absurd (cc)
all_carried rules (p ∷ list) [] names prices are above = absurd (cc)
all_carried rules (p ∷ list) (item ∷ items) names prices are above =
    let same = first_name p.bound.name item.name (names_of list) (map item_name items) names in
    let price : p.price ≡ price_of_number rules item.name.rule = prices.0 ∙ ap (λ (n : BoundName). price_of_number rules n.rule) same in (
      carry (price_of_number rules item.name.rule) p item.amount price are.0.1.0 above.0,
      all_carried rules list items (later_names p.bound.name item.name (names_of list) (map item_name items) names) prices.1 are.1 above.1,
    )

-- ---- names that rise are distinct

none_before : (n : ℕ) (b : Bool) → b ≡ false → nat_lt n n || ((n == n) && b) ≡ false
none_before n b is = grind (arith, nat_tests)

not_itself : (ns : List ℕ) → is_before ns ns ≡ false
not_itself [] = refl
not_itself (n ∷ ns) = let rest = not_itself ns in none_before n (is_before ns ns) rest

before_both : (m n k : ℕ) (a b c : Bool) → (a ≡ true → b ≡ true → c ≡ true) → nat_lt m n || ((m == n) && a) ≡ true → nat_lt n k || ((n == k) && b) ≡ true → nat_lt m k || ((m == k) && c) ≡ true
before_both m n k true true c both one other = let last : c ≡ true = both refl refl in grind (arith, nat_tests)
before_both m n k true false c both one other = grind (arith, nat_tests)
before_both m n k false true c both one other = grind (arith, nat_tests)
before_both m n k false false c both one other = grind (arith, nat_tests)

before_trans : (ms ns ks : List ℕ) → is_before ms ns ≡ true → is_before ns ks ≡ true → is_before ms ks ≡ true
before_trans [] ns ks one other = absurd (false≢true one)
before_trans (m ∷ ms) [] ks one other = absurd (false≢true one)
before_trans (m ∷ ms) (n ∷ ns) [] one other = absurd (false≢true other)
before_trans (m ∷ ms) (n ∷ ns) (k ∷ ks) one other = before_both m n k (is_before ms ns) (is_before ns ks) (is_before ms ks) (before_trans ms ns ks) one other

-- the first of those that rise comes before all others
all_later : {A : Type 0} (key : A → List ℕ) (x : A) (xs : List A) → Rises key (x ∷ xs) → AllByRecursion (λ y. is_before (key x) (key y) ≡ true) xs
all_later key x [] rises = tt
all_later key x (y ∷ xs) rises =
    (rises.0, all_weaker (λ z. is_before (key y) (key z) ≡ true) (λ z. is_before (key x) (key z) ≡ true) (λ z after. before_trans (key x) (key y) (key z) rises.0 after) xs (all_later key y xs rises.1))

rises_rest : {A : Type 0} (key : A → List ℕ) (x : A) (xs : List A) → Rises key (x ∷ xs) → Rises key xs
rises_rest key x [] rises = tt
rises_rest key x (y ∷ xs) rises = rises.1

other_names : (item : FlowItem) (items : List FlowItem) → AllByRecursion (λ other. is_before (item_key item) (item_key other) ≡ true) items → AllByRecursion (λ name. item.name ≢ name) (map item_name items)
other_names item [] all = tt
other_names item (other ∷ items) all =
    (λ same. false≢true (sym (not_itself (item_key item)) ∙ (ap (λ (n : BoundName). is_before (item_key item) (name_key n)) same ∙ all.0)), other_names item items all.1)

pub names_distinct : (items : List FlowItem) → Rises item_key items → Distinct (map item_name items)
names_distinct [] rises = tt
names_distinct (item ∷ items) rises = (other_names item items (all_later item_key item items rises), names_distinct items (rises_rest item_key item items rises))
