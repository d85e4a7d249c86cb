-- The certificate of what was found has a text.
use Rattle.std.proofs.Common.{◌≡◌, ◌⊎◌, inl, inr, ℕ, suc, ◌+◌, ◌*◌, ◌^◌, ◌<◌, ◌≤◌, ℤ, pos, ◌≤ℤ◌, ◌==◌, ◌&&◌, ◌||◌, Bool, true, false, IsTrue, nat_lt, List, [], ◌∷◌, length, map, sum, if◌then◌else◌, refl, sym, ap, subst, ◌∙◌, arith}
use Rattle.std.specs.Prelude.{unsigned_abs, Contains}
use Rattle.std.specs.Ordering.{int_eq}
use Rattle.std.specs.List.{AllByRecursion}
use Rattle.std.proofs.lemmas.Bool.{and_from, eq-eqb, eqb-true, lt-ltb, ltb-true, or_right}
use Rattle.std.proofs.lemmas.Int.{ints}
use Rattle.std.proofs.lemmas.List.{length-map}
use Rattle.std.proofs.lemmas.List.Sums.{sum_by-cons}
use Rattle.words.specs.Lists.{IsPart, none, kept, left_out}
use Rattle.words.proofs.Lists.{all_at, all_weaker}
use Rattle.bound_maker.specs.declared.maker.TheConstants.{MOST_BOUNDS}
use Rattle.bound_maker.specs.Bounds.{all_bounds, made_bounds, price_of_number, priced}
use Rattle.bound_maker.specs.Costs.{made_problem, weights, whole_problem}
use Rattle.bound_maker.specs.Sound.{IsSound}
use Rattle.bound_maker.specs.Written.{CanBeWritten, IsWritableName, IsWritablePlace}
use Rattle.cert_check.specs.Laws.{HasFewItems, IsCertOf, IsShown, ShownIsShort, TruthIsAccepted}
use Rattle.cert_check.specs.declared.accepted.Accepted.TheVariants as accepted
use Rattle.cert_format.specs.declared.cert.Cert.TheVariants as cert
use Rattle.cert_format.specs.declared.cert.SetLine.{SetLine}
use Rattle.cert_format.specs.Cert.{AreLists, HasText}
use Rattle.cert_format.specs.Line.{IsItem, IsName, IsSet, IsTotal}
use Rattle.cert_format.specs.Order.{set_key}
use Rattle.cert_format.specs.Sets.{sets_of}
use Rattle.least_cost.specs.Answer.{Answers, IsRepaired}
use Rattle.least_cost.specs.declared.outcome.Outcome.{Outcome}
use Rattle.least_cost.specs.declared.outcome.Outcome.TheVariants as found
use Rattle.rule_file.specs.declared.rules.Rules.{Rules}
use Rattle.screen_model.specs.declared.bound.Bound.{Bound}
use Rattle.screen_model.specs.declared.bound.BoundName.{BoundName}
use Rattle.screen_model.specs.declared.bound.FlowItem.{FlowItem}
use Rattle.screen_model.specs.declared.limits.TheConstants.{MOST_READINGS}
use Rattle.screen_model.specs.declared.place.Place.{Place}
use Rattle.screen_model.specs.Best.{IsBlockedByNames}
use Rattle.screen_model.specs.Cost.{cost, paid}
use Rattle.screen_model.specs.Names.{AreNamesIn, names_of}
use Rattle.screen_model.specs.Obeys.{Priced}
use Rattle.screen_model.specs.Order.{Rises, is_before, name_key, place_key}
use Rattle.series_csv.specs.File.{TableView}
use Rattle.series_csv.specs.Readings.{AreInOrder, IsBefore, places, values}
use Rattle.screen_tool.specs.Certificates.{cert_of, claim_of, has_price}
use Rattle.screen_tool.specs.Global.{IsFoundFor}

-- ---- lists that rise

-- each one comes before all that follow
abbrev Ordered : {A : Type 0} → (A → List ℕ) → List A → Type 0
Ordered key [] = Unit {0}
Ordered key (x ∷ xs) = AllByRecursion (λ y. IsTrue (is_before (key x) (key y))) xs × Ordered key xs

rises_from : {A : Type 0} (key : A → List ℕ) (xs : List A) → Ordered key xs → Rises key xs
rises_from key [] o = tt
rises_from key (x ∷ []) o = tt
rises_from key (x ∷ y ∷ xs) o = (o.0.0, rises_from key (y ∷ xs) o.1)

or_cases : (b c : Bool) → IsTrue (b || c) → IsTrue b ⊎ IsTrue c
or_cases true c p = inl refl
or_cases false c p = inr p

and_cases : (b c : Bool) → IsTrue (b && c) → IsTrue b × IsTrue c
and_cases true c p = (refl, p)
and_cases false c p = absurd (cc p)

earlier_by : (m n : ℕ) (b : Bool) → IsTrue (nat_lt m n) ⊎ IsTrue ((m == n) && b) → (m < n) ⊎ ((m ≡ n) × IsTrue b)
earlier_by m n b (inl q) = inl (ltb-true m n q)
earlier_by m n b (inr q) = let both = and_cases (m == n) b q in inr (eqb-true m n both.0, both.1)

-- the first numbers decide; or they are equal, and the others do
earlier : (m n : ℕ) (b : Bool) → IsTrue (nat_lt m n || ((m == n) && b)) → (m < n) ⊎ ((m ≡ n) × IsTrue b)
earlier m n b p = earlier_by m n b (or_cases (nat_lt m n) ((m == n) && b) p)

is_earlier : (m n : ℕ) (b : Bool) → (m < n) ⊎ ((m ≡ n) × IsTrue b) → IsTrue (nat_lt m n || ((m == n) && b))
is_earlier m n b (inl p) = ap (λ t. t || ((m == n) && b)) (lt-ltb m n p)
is_earlier m n b (inr p) = or_right (nat_lt m n) ((m == n) && b) (and_from (m == n) b (eq-eqb m n p.0) p.1)

both_earlier : (k m n : ℕ) (a b c : Bool) → (k < m) ⊎ ((k ≡ m) × IsTrue a) → (m < n) ⊎ ((m ≡ n) × IsTrue b) → (IsTrue a → IsTrue b → IsTrue c) → (k < n) ⊎ ((k ≡ n) × IsTrue c)
both_earlier k m n a b c (inl p) (inl q) rest = inl (omega (arith, p, q))
both_earlier k m n a b c (inl p) (inr q) rest = inl (omega (arith, p, q.0))
both_earlier k m n a b c (inr p) (inl q) rest = inl (omega (arith, p.0, q))
both_earlier k m n a b c (inr p) (inr q) rest = inr (p.0 ∙ q.0, rest p.1 q.1)

before_before : (ks ms ns : List ℕ) → IsTrue (is_before ks ms) → IsTrue (is_before ms ns) → IsTrue (is_before ks ns)
before_before [] ms ns p q = absurd (cc p)
before_before (k ∷ ks) [] ns p q = absurd (cc p)
before_before (k ∷ ks) (m ∷ ms) [] p q = absurd (cc q)
before_before (k ∷ ks) (m ∷ ms) (n ∷ ns) p q =
    is_earlier k n (is_before ks ns)
    (both_earlier k m n (is_before ks ms) (is_before ms ns) (is_before ks ns) (earlier k m (is_before ks ms) p) (earlier m n (is_before ms ns) q) (before_before ks ms ns))

-- a list that rises is in order throughout
module _ {A : Type 0} (key : A → List ℕ) where
  ordered_from : (xs : List A) → Rises key xs → Ordered key xs
  ordered_from [] r = tt
  ordered_from (x ∷ []) r = (tt, tt)
  ordered_from (x ∷ y ∷ xs) r =
      let rest = ordered_from (y ∷ xs) r.1 in
      ((r.0, all_weaker (λ z. IsTrue (is_before (key y) (key z))) (λ z. IsTrue (is_before (key x) (key z))) (λ z later. before_before (key x) (key y) (key z) r.0 later) xs rest.0), rest)

  all_part : (P : A → Type 0) (part whole : List A) → IsPart part whole → AllByRecursion P whole → AllByRecursion P part
  all_part P part whole none all = tt
  all_part P part whole (kept p) all = (all.0, all_part P _ _ p all.1)
  all_part P part whole (left_out p) all = all_part P _ _ p all.1

  ordered_part : (part whole : List A) → IsPart part whole → Ordered key whole → Ordered key part
  ordered_part part whole none o = tt
  ordered_part part whole (kept {x} p) o = (all_part (λ y. IsTrue (is_before (key x) (key y))) _ _ p o.0, ordered_part _ _ p o.1)
  ordered_part part whole (left_out p) o = ordered_part _ _ p o.1

rises_map : {A B : Type 0} (key : B → List ℕ) (f : A → B) (xs : List A) → Rises key (map f xs) → Rises (λ x. key (f x)) xs
rises_map key f [] r = tt
rises_map key f (x ∷ []) r = tt
rises_map key f (x ∷ y ∷ xs) r = (r.0, rises_map key f (y ∷ xs) r.1)

-- ---- the names of bounds

names_are : (rules : Rules) (bounds : List Bound) → names_of (priced rules bounds) ≡ map (λ bound. bound.name) bounds
names_are rules [] = refl
names_are rules (bound ∷ bounds) = ap (λ names. bound.name ∷ names) (names_are rules bounds)

is_name : (name : BoundName) → IsWritableName name → IsName name
is_name name w = record { rule = w.rule; from_least = w.from.0; from_most = w.from.1; to_least = w.to.0; to_most = w.to.1; col_least = w.col.0; col_most = w.col.1 }

-- what is named can be written
named_writable : (rules : Rules) (table : TableView) (names : List BoundName) → CanBeWritten rules table → AreNamesIn (whole_problem rules table).bounds names → AllByRecursion IsName names
named_writable rules table names can named =
    all_weaker (Contains (names_of (whole_problem rules table).bounds)) IsName
    (λ name member. is_name name (all_at IsWritableName (map (λ bound. bound.name) (all_bounds rules table)) name can.names
    (subst (λ (all : List BoundName). Contains all name) (names_are rules (all_bounds rules table)) member)))
    names named

-- ---- the set lines

place_before : (p q : Place) → IsBefore p q → IsTrue (is_before (place_key p) (place_key q))
place_before p q (inl r) = is_earlier p.row q.row (is_before (p.col ∷ []) (q.col ∷ [])) (inl r)
place_before p q (inr r) = is_earlier p.row q.row (is_before (p.col ∷ []) (q.col ∷ [])) (inr (r.0, is_earlier p.col q.col false (inl r.1)))

abbrev IsLater : Place → List SetLine → Type 0
IsLater place sets = AllByRecursion (λ (line : SetLine). IsTrue (is_before (place_key place) (set_key line))) sets

module _ (P : SetLine → Type 0) where
  more_all : (t : Bool) (line : SetLine) (sets : List SetLine) → P line → AllByRecursion P sets → AllByRecursion P (if t then sets else line ∷ sets)
  more_all true line sets p all = all
  more_all false line sets p all = (p, all)

  sets_all : (places : List Place) (values series : List ℤ) (Q : Place → Type 0) (R : ℤ → Type 0)
      → ((place : Place) (x : ℤ) → Q place → R x → P (record { place = place; value = x }))
      → AllByRecursion Q places → AllByRecursion R series → AllByRecursion P (sets_of places values series)
  sets_all [] values series Q R make q r = tt
  sets_all (place ∷ places) [] series Q R make q r = tt
  sets_all (place ∷ places) (value ∷ values) [] Q R make q r = tt
  sets_all (place ∷ places) (value ∷ values) (x ∷ series) Q R make q r =
      more_all (int_eq x value) (record { place = place; value = x }) (sets_of places values series) (make place x q.0 r.0) (sets_all places values series Q R make q.1 r.1)

any_all : (xs : List ℤ) → AllByRecursion (λ (x : ℤ). Unit {0}) xs
any_all [] = tt
any_all (x ∷ xs) = (tt, any_all xs)

more_ordered : (t : Bool) (line : SetLine) (sets : List SetLine) → IsLater line.place sets → Ordered set_key sets → Ordered set_key (if t then sets else line ∷ sets)
more_ordered true line sets later o = o
more_ordered false line sets later o = (later, o)

sets_ordered : (places : List Place) (values series : List ℤ) → AreInOrder places → Ordered set_key (sets_of places values series)
sets_ordered [] values series order = tt
sets_ordered (place ∷ places) [] series order = tt
sets_ordered (place ∷ places) (value ∷ values) [] order = tt
sets_ordered (place ∷ places) (value ∷ values) (x ∷ series) order =
    more_ordered (int_eq x value) (record { place = place; value = x }) (sets_of places values series)
    (sets_all (λ (line : SetLine). IsTrue (is_before (place_key place) (set_key line))) places values series (IsBefore place) (λ (x : ℤ). Unit {0})
    (λ other x before any. place_before place other before) order.0 (any_all series))
    (sets_ordered places values series order.1)

is_set : (place : Place) (x : ℤ) → IsWritablePlace place → unsigned_abs x ≤ 10 ^ 15 → IsSet (record { place = place; value = x })
is_set place x w small = (record { row_least = w.row.0; row_most = w.row.1; col_least = w.col.0; col_most = w.col.1 }, omega (arith, small))

-- ---- the flow lines

sum_step : (most x n rest whole : ℕ) → x ≤ most → rest ≤ most * n → whole ≡ x + rest → whole ≤ most * suc n
sum_step most x n rest whole p q e = let more : most * suc n ≡ most * n + most = grind arith in omega (arith, p, q, e, more)

-- what numbers that are at most one number add up to
sum_most : (most : ℕ) (xs : List ℕ) → AllByRecursion (λ x. x ≤ most) xs → sum xs ≤ most * length xs
sum_most most [] all = omega arith
sum_most most (x ∷ xs) all = sum_step most x (length xs) (sum xs) (sum (x ∷ xs)) all.0 (sum_most most xs all.1) (sum_by-cons (λ (y : ℕ). y) x xs)

within : (most n limit whole : ℕ) → whole ≤ most * n → n ≤ limit → most ≡ 1000 → whole ≤ 1000 * limit
within most n limit whole p q e = let same : whole ≤ 1000 * n = subst (λ (m : ℕ). whole ≤ m * n) e p in omega (arith, same, q)

amount_small : (weights_sum prices_sum : ℕ) (amount : ℤ) → weights_sum ≤ 1000 * 400000 → prices_sum ≤ 1000 * 4000000 → amount ≤ℤ pos (weights_sum + prices_sum + 1) → amount ≤ℤ pos 1000000000000000
amount_small weights_sum prices_sum amount w p small = omega (arith, ints, w, p, small)

all_prices : (rules : Rules) (bounds : List Bound) → ((number : ℕ) → price_of_number rules number ≤ 1000) → AllByRecursion (λ price. price ≤ 1000) (map (λ (priced : Priced). priced.price) (priced rules bounds))
all_prices rules [] most = tt
all_prices rules (bound ∷ bounds) most = (most bound.name.rule, all_prices rules bounds most)

prices_length : (rules : Rules) (bounds : List Bound) → length (map (λ (priced : Priced). priced.price) (priced rules bounds)) ≡ length bounds
prices_length rules [] = refl
prices_length rules (bound ∷ bounds) = ap suc (prices_length rules bounds)

is_item : (bounds : List FlowItem) (most : ℤ) → most ≤ℤ pos 1000000000000000 → AllByRecursion IsName (map (λ (item : FlowItem). item.name) bounds)
    → AllByRecursion (λ (item : FlowItem). pos 1 ≤ℤ item.amount) bounds → AllByRecursion (λ (item : FlowItem). item.amount ≤ℤ most) bounds → AllByRecursion IsItem bounds
is_item [] most small names some amounts = tt
is_item (item ∷ items) most small names some amounts = ((names.0, (some.0, omega (arith, ints, small, amounts.0))), is_item items most small names.1 some.1 amounts.1)

-- ---- certificates

lists_written : (rules : Rules) (table : TableView) (series : List ℤ) (flow : List FlowItem) (total broken : ℤ)
    → CanBeWritten rules table → IsSound rules table → AreInOrder (places table) → length (places table) ≤ MOST_READINGS → length (made_bounds rules table) ≤ MOST_BOUNDS
    → IsRepaired (whole_problem rules table) series flow total broken → IsRepaired (made_problem rules table) series flow total broken
    → AreLists (sets_of (places table) (values table) series) flow
lists_written rules table series flow total broken can sound order few_readings few_bounds whole made =
    let names = named_writable rules table (map (λ (item : FlowItem). item.name) flow) can whole.best.over.named in
    let in_order = ordered_part name_key (map (λ (item : FlowItem). item.name) flow) (names_of (whole_problem rules table).bounds) whole.in_order
    (ordered_from name_key (names_of (whole_problem rules table).bounds) (subst (λ (all : List BoundName). Rises name_key all) (sym (names_are rules (all_bounds rules table))) can.rising)) in
    let weighed = within 1000 (length (weights rules table)) 400000 (sum (weights rules table)) (sum_most 1000 (weights rules table) sound.weights) (omega (arith, sound.weighted, few_readings)) refl in
    let prices = map (λ (priced : Priced). priced.price) (priced rules (made_bounds rules table)) in
    let charged = within 1000 (length prices) 4000000 (sum prices) (sum_most 1000 prices (all_prices rules (made_bounds rules table) sound.prices)) (omega (arith, prices_length rules (made_bounds rules table), few_bounds)) refl in
    record {
      each_set = sets_all IsSet (places table) (values table) series IsWritablePlace (λ (x : ℤ). unsigned_abs x ≤ 10 ^ 15) is_set can.places whole.small_values;
      sets_rise = rises_from set_key (sets_of (places table) (values table) series) (sets_ordered (places table) (values table) series order);
      each_item = is_item flow (pos (sum (weights rules table) + sum prices + 1)) (amount_small (sum (weights rules table)) (sum prices) (pos (sum (weights rules table) + sum prices + 1)) weighed charged (omega (arith, ints))) names made.best.over.some made.amounts;
      flow_rises = rises_map name_key (λ (item : FlowItem). item.name) flow (rises_from name_key (map (λ (item : FlowItem). item.name) flow) in_order);
    }

is_total : (total : ℤ) (n : ℕ) → total ≡ pos n → unsigned_abs total < 10 ^ 27 → IsTotal total
is_total total n e small = (subst (λ (t : ℤ). pos 0 ≤ℤ t) (sym e) (omega (arith, ints)), omega (arith, small))

part_small : (total part : ℤ) (m n : ℕ) → total ≡ pos m → part ≡ pos n → n ≤ m → unsigned_abs total < 10 ^ 27 → unsigned_abs part < 10 ^ 27
part_small total part m n p q less small = omega (arith, ints, p, q, less, small)

repair_written : (b : Bool) (total broken : ℤ) (sets : List SetLine) (flow : List FlowItem) → IsTotal total → IsTotal broken → AreLists sets flow
    → HasText (if b then cert.Priced total broken sets flow else cert.Repair total sets flow)
repair_written true total broken sets flow p q lists = (p, q, lists)
repair_written false total broken sets flow p q lists = (p, lists)

cycle_some : (rules : Rules) (table : TableView) (cycle : List BoundName) → IsBlockedByNames (whole_problem rules table).bounds cycle → 1 ≤ length cycle
cycle_some rules table [] blocked = blocked.blocked.some
cycle_some rules table (name ∷ names) blocked = omega arith

written : (rules : Rules) (table : TableView) (outcome : Outcome)
    → CanBeWritten rules table → IsSound rules table → AreInOrder (places table) → length (places table) ≤ MOST_READINGS → length (made_bounds rules table) ≤ MOST_BOUNDS
    → Answers (whole_problem rules table) outcome → Answers (made_problem rules table) outcome → HasText (cert_of rules table outcome)
written rules table (found.Repaired series flow total broken changes) can sound order few_readings few_bounds whole made =
    let problem = whole_problem rules table in
    let small = part_small total broken (cost problem series) (paid problem series) whole.total whole.paid (omega arith) whole.small_total in
    repair_written (has_price rules) total broken (sets_of (places table) (values table) series) flow (is_total total (cost problem series) whole.total whole.small_total) (is_total broken (paid problem series) whole.paid small)
    (lists_written rules table series flow total broken can sound order few_readings few_bounds whole made)
written rules table (found.NoSeries cycle) can sound order few_readings few_bounds whole made =
    (cycle_some rules table cycle whole.blocked, named_writable rules table cycle can whole.blocked.named)

-- ---- and it is accepted

part_short : {A : Type 0} {part whole : List A} → IsPart part whole → length part ≤ length whole
part_short none = omega arith
part_short (kept p) = let q = part_short p in omega (arith, q)
part_short (left_out p) = let q = part_short p in omega (arith, q)

priced_length : (rules : Rules) (bounds : List Bound) → length (priced rules bounds) ≡ length bounds
priced_length rules [] = refl
priced_length rules (bound ∷ bounds) = ap suc (priced_length rules bounds)

few_items : (rules : Rules) (table : TableView) (outcome : Outcome) → length (made_bounds rules table) ≤ MOST_BOUNDS → Answers (made_problem rules table) outcome → HasFewItems (claim_of outcome)
few_items rules table (found.Repaired series flow total broken changes) few made =
    let names = part_short made.in_order in
    let named : length (map (λ (item : FlowItem). item.name) flow) ≡ length flow = length-map flow (λ (item : FlowItem). item.name) in
    let bounds : length (names_of (made_problem rules table).bounds) ≡ length (made_problem rules table).bounds = length-map (made_problem rules table).bounds (λ (p : Priced). p.bound.name) in
    let own : length (made_problem rules table).bounds ≡ length (made_bounds rules table) = priced_length rules (made_bounds rules table) in
    omega (arith, names, named, bounds, own, few)
few_items rules table (found.NoSeries cycle) few made = tt

shown : (rules : Rules) (table : TableView) (outcome : Outcome) → Answers (whole_problem rules table) outcome → IsShown rules table (claim_of outcome)
shown rules table (found.Repaired series flow total broken changes) whole = (whole.best, whole.total, whole.paid)
shown rules table (found.NoSeries cycle) whole = whole.blocked

one_form : (b : Bool) (table : TableView) (series : List ℤ) (flow : List FlowItem) (total broken : ℤ)
    → IsCertOf table (accepted.Repair series flow total broken) (if b then cert.Priced total broken (sets_of (places table) (values table) series) flow else cert.Repair total (sets_of (places table) (values table) series) flow)
one_form true table series flow total broken = inr refl
one_form false table series flow total broken = inl refl

cert_of_claim : (rules : Rules) (table : TableView) (outcome : Outcome) → IsCertOf table (claim_of outcome) (cert_of rules table outcome)
cert_of_claim rules table (found.Repaired series flow total broken changes) = one_form (has_price rules) table series flow total broken
cert_of_claim rules table (found.NoSeries cycle) = refl

pub found_for : (rules : Rules) (table : TableView) (outcome : Outcome)
    → CanBeWritten rules table → IsSound rules table → TruthIsAccepted rules table → ShownIsShort rules table
    → AreInOrder (places table) → length (places table) ≤ MOST_READINGS → length (made_bounds rules table) ≤ MOST_BOUNDS
    → Answers (whole_problem rules table) outcome → Answers (made_problem rules table) outcome → IsFoundFor rules table outcome
found_for rules table outcome can sound truth short order few_readings few_bounds whole made =
    let text = written rules table outcome can sound order few_readings few_bounds whole made in
    let is_shown = shown rules table outcome whole in
    let of_claim = cert_of_claim rules table outcome in
    record {
      whole = whole;
      made = made;
      text = text;
      accepted = truth (claim_of outcome) (cert_of rules table outcome) is_shown of_claim text (short (claim_of outcome) (cert_of rules table outcome) is_shown of_claim (few_items rules table outcome few_bounds made) text);
    }
