-- The bound with a name among the bounds of pairs of readings, of readings and of rows.
use Rattle.std.proofs.Common.{◌≡◌, ◌≢◌, ℕ, ℤ, pos, neg_ℤ, ◌≤ℤ◌, ◌<ℤ◌, Bool, true, false, cond, ◌⊎◌, inl, inr, List, [], ◌∷◌, ◌++◌, map, Option, Some, None, refl, sym, ap, ◌∙◌, subst, arith}
use Rattle.std.specs.Prelude.{Contains, option_to_list}
use Rattle.std.specs.List.{AllByRecursion, flat_map}
use Rattle.std.proofs.lemmas.Int.{ints}
use Rattle.std.proofs.lemmas.List.Elements.{Contains-append_left, Contains-append_right}
use Rattle.words.specs.Lists.{Distinct}
use Rattle.words.proofs.Lists.{all_append, all_at, all_from_map, all_map, all_weaker, contains_cases, contains_first, contains_map, contains_none}
use Rattle.screen_model.specs.declared.bound.Bound.{Bound}
use Rattle.screen_model.specs.declared.bound.BoundName.{BoundName}
use Rattle.screen_model.specs.declared.bound.Side.{Side}
use Rattle.screen_model.specs.declared.bound.Side.TheVariants.{Up, Down}
use Rattle.screen_model.specs.declared.place.Place.{Place}
use Rattle.rule_file.specs.Numbers.{Rule, speed, swing, drift, range, trust, weight, between}
use Rattle.pair_bounds.specs.declared.stamp.Stamp.{Stamp}
use Rattle.pair_bounds.specs.Pairs.{elapsed, is_within, limit_on, place_in, rate_limit, rise_bound}
use Rattle.bound_maker.specs.declared.reading.Reading.{Reading}
use Rattle.bound_maker.specs.Bounds.{both_sides, bounds_of_pairs, value_bound}
use Rattle.bound_maker.specs.Named.{AreElsewhere, Finds, HasNone}
use Rattle.bound_maker.specs.Pairs.{pair_bound}
use Rattle.bound_maker.specs.Readings.{all_pairs}
use Rattle.bound_maker.specs.Windows.{StampsRise}
use Rattle.bound_maker.proofs.Chains.{joined, lie_within}
use Rattle.bound_maker.proofs.Distinct.{firsts, row_of}

none_is_some : {A : Type 0} (x : A) → ◌≡◌ {A = Option A} None (Some x) → ⊥
none_is_some x e = cc

some_is_same : {A : Type 0} (x y : A) → ◌≡◌ {A = Option A} (Some x) (Some y) → x ≡ y
some_is_same x y e = cc

-- ---- lists of bounds

of_option : {A : Type 0} (P : A → Type 0) (o : Option A) → ((b : A) → o ≡ Some b → P b) → AllByRecursion P (option_to_list o)
of_option P (Some b) each = (each b refl, tt)
of_option P None each = tt

pub none_of_both : (bound : Side → Option Bound) (name : BoundName) → ((side : Side) (b : Bound) → bound side ≡ Some b → b.name ≢ name) → HasNone (both_sides bound) name
none_of_both bound name never =
    all_append (λ (b : Bound). b.name ≢ name) (option_to_list (bound Up)) (option_to_list (bound Down))
    (of_option (λ (b : Bound). b.name ≢ name) (bound Up) (never Up)) (of_option (λ (b : Bound). b.name ≢ name) (bound Down) (never Down))

in_option : {A : Type 0} (o : Option A) (b : A) → o ≡ Some b → Contains (option_to_list o) b
in_option (Some a) b is = let same : a ≡ b = some_is_same a b is in subst (λ z. Contains (a ∷ []) z) same (contains_first a [])
in_option None b is = absurd (none_is_some b is)

pub in_both : (bound : Side → Option Bound) (side : Side) (b : Bound) → bound side ≡ Some b → Contains (both_sides bound) b
in_both bound Up b is = Contains-append_left (option_to_list (bound Up)) (option_to_list (bound Down)) b (in_option (bound Up) b is)
in_both bound Down b is = Contains-append_right (option_to_list (bound Up)) (option_to_list (bound Down)) b (in_option (bound Down) b is)

flat_cases : {A B : Type 0} (f : A → List B) (y : A) (xs : List A) (x : A) (b : B) → Contains (f x) b → (Contains xs x → Contains (flat_map f xs) b) → (y ≡ x) ⊎ Contains xs x → Contains (f y ++ flat_map f xs) b
flat_cases f y xs x b here rest (inl same) = Contains-append_left (f y) (flat_map f xs) b (subst (λ z. Contains (f z) b) (sym same) here)
flat_cases f y xs x b here rest (inr later) = Contains-append_right (f y) (flat_map f xs) b (rest later)

pub in_flat : {A B : Type 0} (f : A → List B) (xs : List A) (x : A) (b : B) → Contains xs x → Contains (f x) b → Contains (flat_map f xs) b
in_flat f [] x b has here = absurd (contains_none x has)
in_flat f (y ∷ xs) x b has here = flat_cases f y xs x b here (λ later. in_flat f xs x b later here) (contains_cases y xs x has)

pub none_flat : {A : Type 0} (f : A → List Bound) (name : BoundName) (xs : List A) → AllByRecursion (λ x. HasNone (f x) name) xs → HasNone (flat_map f xs) name
none_flat f name [] all = tt
none_flat f name (x ∷ xs) all = all_append (λ (b : Bound). b.name ≢ name) (f x) (flat_map f xs) all.0 (none_flat f name xs all.1)

-- no name of the bounds is this one
pub none_named : (bounds : List Bound) (name : BoundName) → HasNone bounds name → Contains (map (λ (b : Bound). b.name) bounds) name → ⊥
none_named bounds name none has =
    all_at (λ (other : BoundName). other ≢ name) (map (λ (b : Bound). b.name) bounds) name (all_map (λ (other : BoundName). other ≢ name) (λ (b : Bound). b.name) bounds none) has refl

-- ---- names

-- the name of these parts
abbrev pub named_so : ℕ → ℕ → ℕ → ℕ → Side → BoundName
named_so number from to col side = record { rule = number; from_row = from; to_row = to; col = col; side = side }

-- a name by its parts
pub same_name : (name : BoundName) (from to : ℕ) → from ≡ name.from_row → to ≡ name.to_row → named_so name.rule from to name.col name.side ≡ name
same_name name from to is_from is_to =
    ap (λ (n : ℕ). named_so name.rule n to name.col name.side) is_from ∙ ap (λ (n : ℕ). named_so name.rule name.from_row n name.col name.side) is_to

pub rise_named : (number : ℕ) (from to : Place) (limit : ℤ) (side : Side) → (rise_bound number from to limit side).name ≡ named_so number from.row to.row from.col side
rise_named number from to limit Up = refl
rise_named number from to limit Down = refl

pub value_named : (number : ℕ) (place : Place) (limit : ℤ) (side : Side) → (value_bound number place limit side).name ≡ named_so number place.row place.row place.col side
value_named number place limit Up = refl
value_named number place limit Down = refl

pub if_some : {A : Type 0} (t : Bool) (x y : A) → cond t (Some x) None ≡ Some y → (t ≡ true) × (x ≡ y)
if_some true x y is = (refl, some_is_same x y is)
if_some false x y is = absurd (none_is_some y is)

-- ---- the bound on two readings

pub record IsOfPair (number col : ℕ) (from to : Stamp) (side : Side) (bound : Bound) : Type 0 where
  pub named : bound.name ≡ named_so number from.row to.row col side
  pub later : from.ticks <ℤ to.ticks

comes_later : (least most a b : ℤ) → pos 1 ≤ℤ least → is_within least most (elapsed (record { row = 0; ticks = a }) (record { row = 0; ticks = b })) ≡ true → a <ℤ b
comes_later least most a b some test =
    let within = lie_within least most (elapsed (record { row = 0; ticks = a }) (record { row = 0; ticks = b })) test in
    let low = within.low in
    omega (arith, ints, low, some)

of_rise : (number col : ℕ) (from to : Stamp) (least most limit : ℤ) (side : Side) (bound : Bound) → pos 1 ≤ℤ least
    → cond (is_within least most (elapsed from to)) (Some (rise_bound number (place_in col from) (place_in col to) limit side)) None ≡ Some bound → IsOfPair number col from to side bound
of_rise number col from to least most limit side bound some is =
    let parts = if_some (is_within least most (elapsed from to)) (rise_bound number (place_in col from) (place_in col to) limit side) bound is in
    record {
      named = ap (λ (b : Bound). b.name) (sym parts.1) ∙ rise_named number (place_in col from) (place_in col to) limit side;
      later = comes_later least most from.ticks to.ticks some parts.0;
    }

one : pos 1 ≤ℤ pos 1
one = omega (arith, ints)

pub of_pair : (number d col : ℕ) (rule : Rule) (from to : Stamp) (side : Side) (bound : Bound) → pair_bound number rule d col from to side ≡ Some bound → IsOfPair number col from to side bound
of_pair number d col (speed rule) from to side bound is = of_rise number col from to (pos 1) rule.window (rate_limit rule.min rule.max d (elapsed from to) side) side bound one is
of_pair number d col (swing rule) from to side bound is = of_rise number col from to (pos 1) rule.window (limit_on side (neg_ℤ rule.most) rule.most) side bound one is
of_pair number d col (drift rule) from to side bound is = of_rise number col from to rule.over rule.window (rate_limit rule.min rule.max d (elapsed from to) side) side bound rule.least is
of_pair number d col (range rule) from to side bound is = absurd (none_is_some bound is)
of_pair number d col (trust rule) from to side bound is = absurd (none_is_some bound is)
of_pair number d col (weight rule) from to side bound is = absurd (none_is_some bound is)
of_pair number d col (between rule) from to side bound is = absurd (none_is_some bound is)

-- ---- pairs of readings

seconds_of : (P : Reading → Type 0) (x : Reading) (xs : List Reading) → AllByRecursion P xs → AllByRecursion (λ (pair : Reading × Reading). P pair.1) (map (λ (y : Reading). (x, y)) xs)
seconds_of P x [] all = tt
seconds_of P x (y ∷ xs) all = (all.0, seconds_of P x xs all.1)

pub seconds : (P : Reading → Type 0) (xs : List Reading) → AllByRecursion P xs → AllByRecursion (λ (pair : Reading × Reading). P pair.1) (all_pairs xs)
seconds P [] all = tt
seconds P (x ∷ xs) all =
    all_append (λ (pair : Reading × Reading). P pair.1) (map (λ (y : Reading). (x, y)) xs) (all_pairs xs) (seconds_of P x xs all.1) (seconds P xs all.1)

-- the only reading in its row
only_cases : (y : Reading) (xs : List Reading) (x : Reading) → AllByRecursion (λ (z : Reading). row_of y ≢ row_of z) xs → (Contains xs x → AllByRecursion (λ (z : Reading). row_of z ≡ row_of x → z ≡ x) xs)
    → (y ≡ x) ⊎ Contains xs x → AllByRecursion (λ (z : Reading). row_of z ≡ row_of x → z ≡ x) (y ∷ xs)
only_cases y xs x apart rest (inl same) =
    ((λ row. same), all_weaker (λ (z : Reading). row_of y ≢ row_of z) (λ (z : Reading). row_of z ≡ row_of x → z ≡ x) (λ z other row. absurd (other (ap row_of same ∙ sym row))) xs apart)
only_cases y xs x apart rest (inr later) =
    ((λ row. absurd (all_at (λ (z : Reading). row_of y ≢ row_of z) xs x apart later row)), rest later)

pub only_in_row : (xs : List Reading) (x : Reading) → Distinct (map row_of xs) → Contains xs x → AllByRecursion (λ (z : Reading). row_of z ≡ row_of x → z ≡ x) xs
only_in_row [] x distinct has = absurd (contains_none x has)
only_in_row (y ∷ xs) x distinct has =
    only_cases y xs x (all_from_map (λ (n : ℕ). row_of y ≢ n) row_of xs distinct.0) (only_in_row xs x distinct.1) (contains_cases y xs x has)

before_itself : (a : ℤ) → a <ℤ a → ⊥
before_itself a h = omega (arith, ints, h)

in_turn : (a b : ℤ) → a <ℤ b → b <ℤ a → ⊥
in_turn a b h k = omega (arith, ints, h, k)

-- two readings, as a pair
abbrev pub both : Reading → Reading → Reading × Reading
both x y = (x, y)

pair_cases : (z : Reading) (zs : List Reading) (x y : Reading) → AllByRecursion (λ (w : Reading). z.stamp.ticks <ℤ w.stamp.ticks) zs → x.stamp.ticks <ℤ y.stamp.ticks
    → (Contains zs x → Contains zs y → Contains (all_pairs zs) (both x y)) → (z ≡ x) ⊎ Contains zs x → (z ≡ y) ⊎ Contains zs y → Contains (all_pairs (z ∷ zs)) (both x y)
pair_cases z zs x y rise later rest (inl first) (inl second) =
    absurd (before_itself z.stamp.ticks (subst (λ (w : Reading). z.stamp.ticks <ℤ w.stamp.ticks) (sym second) (subst (λ (w : Reading). w.stamp.ticks <ℤ y.stamp.ticks) (sym first) later)))
pair_cases z zs x y rise later rest (inl first) (inr second) =
    Contains-append_left (map (λ (w : Reading). (z, w)) zs) (all_pairs zs) (both x y)
    (subst (λ (w : Reading). Contains (map (λ (v : Reading). (z, v)) zs) (both w y)) first (contains_map (λ (w : Reading). (z, w)) zs y second))
pair_cases z zs x y rise later rest (inr first) (inl second) =
    absurd (in_turn x.stamp.ticks y.stamp.ticks later (subst (λ (w : Reading). w.stamp.ticks <ℤ x.stamp.ticks) second (all_at (λ (w : Reading). z.stamp.ticks <ℤ w.stamp.ticks) zs x rise first)))
pair_cases z zs x y rise later rest (inr first) (inr second) =
    Contains-append_right (map (λ (w : Reading). (z, w)) zs) (all_pairs zs) (both x y) (rest first second)

-- an earlier and a later reading are a pair
pub in_pairs : (xs : List Reading) (x y : Reading) → StampsRise xs → Contains xs x → Contains xs y → x.stamp.ticks <ℤ y.stamp.ticks → Contains (all_pairs xs) (both x y)
in_pairs [] x y rise first second later = absurd (contains_none x first)
in_pairs (z ∷ zs) x y rise first second later =
    pair_cases z zs x y rise.0 later (λ before after. in_pairs zs x y rise.1 before after later) (contains_cases z zs x first) (contains_cases z zs y second)

-- ---- the bounds on pairs

module _ (d : ℕ) (rule : Rule) (name : BoundName) where
  -- a pair that bears no bound of this name
  abbrev pub IsOther : Reading × Reading → Type 0
  IsOther pair = (b : Bound) → pair_bound name.rule rule d name.col pair.0.stamp pair.1.stamp name.side ≡ Some b → pair.0.stamp.row ≡ name.from_row → pair.1.stamp.row ≡ name.to_row → ⊥

  pub none_on_pairs : (pairs : List (Reading × Reading)) → AllByRecursion IsOther pairs → HasNone (bounds_of_pairs (pair_bound name.rule rule d name.col) pairs) name
  none_on_pairs pairs others =
      none_flat (λ (pair : Reading × Reading). both_sides (pair_bound name.rule rule d name.col pair.0.stamp pair.1.stamp)) name pairs
      (all_weaker IsOther (λ (pair : Reading × Reading). HasNone (both_sides (pair_bound name.rule rule d name.col pair.0.stamp pair.1.stamp)) name)
      (λ pair other. none_of_both (pair_bound name.rule rule d name.col pair.0.stamp pair.1.stamp) name
      (λ side b is same.
      let named = (of_pair name.rule d name.col rule pair.0.stamp pair.1.stamp side b is).named in
      let so : named_so name.rule pair.0.stamp.row pair.1.stamp.row name.col side ≡ name = sym named ∙ same in
      other b (subst (λ (s : Side). pair_bound name.rule rule d name.col pair.0.stamp pair.1.stamp s ≡ Some b) (ap (λ (n : BoundName). n.side) so) is)
      (ap (λ (n : BoundName). n.from_row) so) (ap (λ (n : BoundName). n.to_row) so)))
      pairs others)

  pub no_first : (readings : List Reading) → AreElsewhere name.from_row readings → HasNone (bounds_of_pairs (pair_bound name.rule rule d name.col) (all_pairs readings)) name
  no_first readings elsewhere =
      none_on_pairs (all_pairs readings)
      (all_weaker (λ (pair : Reading × Reading). pair.0.stamp.row ≢ name.from_row) IsOther (λ pair other b is first second. other first) (all_pairs readings)
      (firsts (λ (reading : Reading). reading.stamp.row ≢ name.from_row) readings elsewhere))

  pub no_second : (readings : List Reading) → AreElsewhere name.to_row readings → HasNone (bounds_of_pairs (pair_bound name.rule rule d name.col) (all_pairs readings)) name
  no_second readings elsewhere =
      none_on_pairs (all_pairs readings)
      (all_weaker (λ (pair : Reading × Reading). pair.1.stamp.row ≢ name.to_row) IsOther (λ pair other b is first second. other second) (all_pairs readings)
      (seconds (λ (reading : Reading). reading.stamp.row ≢ name.to_row) readings elsewhere))

  is_other : (from to x y : Reading) → from.stamp.row ≡ name.from_row → to.stamp.row ≡ name.to_row → pair_bound name.rule rule d name.col from.stamp to.stamp name.side ≡ None
      → (row_of x ≡ row_of from → x ≡ from) → (row_of y ≡ row_of to → y ≡ to) → IsOther (both x y)
  is_other from to x y is_from is_to none only_from only_to b is first second =
      let same_x : x ≡ from = only_from (first ∙ sym is_from) in
      let same_y : y ≡ to = only_to (second ∙ sym is_to) in
      none_is_some b (sym none ∙ (sym (ap (λ (z : Reading). pair_bound name.rule rule d name.col z.stamp to.stamp name.side) same_x)
      ∙ (sym (ap (λ (z : Reading). pair_bound name.rule rule d name.col x.stamp z.stamp name.side) same_y) ∙ is)))

  pub no_bound : (readings : List Reading) (from to : Reading) → Distinct (map row_of readings) → Contains readings from → Contains readings to → from.stamp.row ≡ name.from_row → to.stamp.row ≡ name.to_row
      → pair_bound name.rule rule d name.col from.stamp to.stamp name.side ≡ None → HasNone (bounds_of_pairs (pair_bound name.rule rule d name.col) (all_pairs readings)) name
  no_bound readings from to distinct has_from has_to is_from is_to none =
      none_on_pairs (all_pairs readings)
      (joined (λ (pair : Reading × Reading). row_of pair.0 ≡ row_of from → pair.0 ≡ from) (λ (pair : Reading × Reading). row_of pair.1 ≡ row_of to → pair.1 ≡ to) IsOther
      (λ pair only_from only_to. is_other from to pair.0 pair.1 is_from is_to none only_from only_to) (all_pairs readings)
      (firsts (λ (z : Reading). row_of z ≡ row_of from → z ≡ from) readings (only_in_row readings from distinct has_from))
      (seconds (λ (z : Reading). row_of z ≡ row_of to → z ≡ to) readings (only_in_row readings to distinct has_to)))

  pub pair_found : (readings : List Reading) (from to : Reading) (bound : Bound) → StampsRise readings → Contains readings from → Contains readings to → from.stamp.row ≡ name.from_row → to.stamp.row ≡ name.to_row
      → pair_bound name.rule rule d name.col from.stamp to.stamp name.side ≡ Some bound
      → Contains (bounds_of_pairs (pair_bound name.rule rule d name.col) (all_pairs readings)) bound × (bound.name ≡ name)
  pair_found readings from to bound rise has_from has_to is_from is_to is =
      let of = of_pair name.rule d name.col rule from.stamp to.stamp name.side bound is in (
        in_flat (λ (pair : Reading × Reading). both_sides (pair_bound name.rule rule d name.col pair.0.stamp pair.1.stamp)) (all_pairs readings) (both from to) bound
            (in_pairs readings from to rise has_from has_to of.later)
            (in_both (pair_bound name.rule rule d name.col from.stamp to.stamp) name.side bound is),
        of.named ∙ same_name name from.stamp.row to.stamp.row is_from is_to,
      )

  -- the bound on the two readings that the name tells
  pub finds_pair : (readings : List Reading) (from to : Reading) (found : Option Bound) → StampsRise readings → Distinct (map row_of readings) → Contains readings from → Contains readings to
      → from.stamp.row ≡ name.from_row → to.stamp.row ≡ name.to_row → found ≡ pair_bound name.rule rule d name.col from.stamp to.stamp name.side
      → Finds (bounds_of_pairs (pair_bound name.rule rule d name.col) (all_pairs readings)) name found
  finds_pair readings from to (Some bound) rise distinct has_from has_to is_from is_to is = pair_found readings from to bound rise has_from has_to is_from is_to (sym is)
  finds_pair readings from to None rise distinct has_from has_to is_from is_to is = no_bound readings from to distinct has_from has_to is_from is_to (sym is)
