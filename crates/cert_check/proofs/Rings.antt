-- What is accepted is true: cycles.
use Rattle.std.proofs.Common.{◌≡◌, ◌≢◌, ℕ, suc, ◌≤◌, Bool, true, false, not, ℤ, pos, negsuc, ◌≤ℤ◌, List, [], ◌∷◌, ◌++◌, length, map, Option, Some, None, refl, sym, ap, ◌∙◌, subst, arith}
use Rattle.std.specs.Prelude.{int_le, if◌then◌else◌, Contains, ◌&&◌, ◌||◌, ◌==◌}
use Rattle.std.specs.List.{AllByRecursion}
use Rattle.std.proofs.lemmas.Bool.{and_parts, false≢true}
use Rattle.std.proofs.lemmas.Bool.Decides.{nat_tests}
use Rattle.std.proofs.lemmas.Int.{ints}
use Rattle.std.proofs.lemmas.List.{length-map}
use Rattle.words.specs.Lists.{Distinct, rotated, total}
use Rattle.words.proofs.Lists.{all_weaker}
use Rattle.screen_model.specs.declared.bound.Bound.{Bound}
use Rattle.screen_model.specs.declared.bound.BoundName.{BoundName}
use Rattle.screen_model.specs.declared.place.End.{End}
use Rattle.screen_model.specs.Best.{BlockedForbids, IsBlocked}
use Rattle.screen_model.specs.Names.{AreNamesIn, bounds_named, names_of}
use Rattle.screen_model.specs.Obeys.{Priced}
use Rattle.rule_file.specs.declared.rules.Rules.{Rules}
use Rattle.series_csv.specs.File.{TableView}
use Rattle.series_csv.specs.Readings.{places}
use Rattle.bound_maker.specs.Bounds.{all_bounds, price_of_number}
use Rattle.bound_maker.specs.Costs.{whole_problem}
use Rattle.bound_maker.specs.Laws.{NamesAreDistinct}
use Rattle.cert_check.specs.declared.cycle.TheConstants.{BEFORE_STEPS}
use Rattle.cert_check.specs.declared.fault.CertFault.TheVariants.{CycleOpen, CycleSum, PricedStep, UnknownBound}
use Rattle.cert_check.specs.Cycle.{cycle_faults, first_open, is_among, is_same_end, last_second}
use Rattle.cert_check.specs.Laws.{IsTrueCycle}
use Rattle.cert_check.specs.Repair.{first_line, is_known}
use Rattle.cert_check.proofs.Marked.{end_from_same, same_end}
use Rattle.cert_check.proofs.Passed.{HasPrice, map_none, members_of, members_priced, named_is}
use Rattle.cert_check.proofs.Steps.{all_named, names_apart, none_passes}

some_not : {A : Type 0} {x : A} → ◌≡◌ {A = Option A} (Some x) None → ⊥
some_not e = cc

-- ---- a ring that is nowhere open

record GoesOn (earlier : List End) (last : End) (bound : Bound) (n : ℕ) (bounds : List Bound) : Type 0 where
  begins : bound.first ≡ last
  new : is_among earlier bound.first ≡ false
  rest : first_open (bound.first ∷ earlier) bound.second (suc n) bounds ≡ None

not_of : (b : Bool) → not b ≡ true → b ≡ false
not_of true h = cc
not_of false h = refl

goes_split : (earlier : List End) (last : End) (bound : Bound) (n : ℕ) (bounds : List Bound) (b : Bool) → (is_same_end bound.first last && not (is_among earlier bound.first)) ≡ b
    → first_open earlier last n (bound ∷ bounds) ≡ None → GoesOn earlier last bound n bounds
goes_split earlier last bound n bounds false is none =
    absurd (some_not (sym (ap (λ t. if t then first_open (bound.first ∷ earlier) bound.second (suc n) bounds else Some (suc n)) is) ∙ none))
goes_split earlier last bound n bounds true is none =
    let parts = and_parts (is_same_end bound.first last) (not (is_among earlier bound.first)) is in
    record {
      begins = end_from_same bound.first last parts.0;
      new = not_of (is_among earlier bound.first) parts.1;
      rest = sym (ap (λ t. if t then first_open (bound.first ∷ earlier) bound.second (suc n) bounds else Some (suc n)) is) ∙ none;
    }

goes_on : (earlier : List End) (last : End) (bound : Bound) (n : ℕ) (bounds : List Bound) → first_open earlier last n (bound ∷ bounds) ≡ None → GoesOn earlier last bound n bounds
goes_on earlier last bound n bounds none = goes_split earlier last bound n bounds (is_same_end bound.first last && not (is_among earlier bound.first)) refl none

abbrev pub firsts : List Bound → List End
firsts bounds = map (λ (bound : Bound). bound.first) bounds

abbrev pub seconds : List Bound → List End
seconds bounds = map (λ (bound : Bound). bound.second) bounds

-- where the last one ends, or else the end given
abbrev pub last_or : End → List Bound → End
last_or last [] = last
last_or last (bound ∷ bounds) = last_or bound.second bounds

pub last_is : (bound : Bound) (bounds : List Bound) → last_or bound.second bounds ≡ last_second (bound ∷ bounds)
last_is bound [] = refl
last_is bound (next ∷ bounds) = last_is next bounds

both_ends : (d e : End) (ds es : List End) → d ≡ e → ds ≡ es → d ∷ ds ≡ e ∷ es
both_ends d e ds es p q = cc

chained : (earlier : List End) (last : End) (n : ℕ) (bounds : List Bound) → first_open earlier last n bounds ≡ None → last ∷ seconds bounds ≡ firsts bounds ++ last_or last bounds ∷ []
chained earlier last n [] none = refl
chained earlier last n (bound ∷ bounds) none =
    let on = goes_on earlier last bound n bounds none in
    both_ends last bound.first (bound.second ∷ seconds bounds) (firsts bounds ++ last_or bound.second bounds ∷ []) (sym on.begins) (chained (bound.first ∷ earlier) bound.second (suc n) bounds on.rest)

later_ends : (d e : End) (ds es : List End) → d ∷ ds ≡ e ∷ es → ds ≡ es
later_ends d e ds es h = cc

pub closed : (bounds : List Bound) → first_open [] (last_second bounds) BEFORE_STEPS bounds ≡ None → seconds bounds ≡ rotated (firsts bounds)
closed [] none = refl
closed (bound ∷ bounds) none =
    let last = last_second (bound ∷ bounds) in
    let on = goes_on [] last bound BEFORE_STEPS bounds none in
    let rest = chained (bound.first ∷ []) bound.second (suc BEFORE_STEPS) bounds on.rest in
    rest ∙ ap (λ (end : End). firsts bounds ++ end ∷ []) (last_is bound bounds ∙ sym on.begins)

-- ---- no two begin at one end

abbrev pub AreNew : List End → List Bound → Type 0
AreNew earlier bounds = AllByRecursion (λ (bound : Bound). is_among earlier bound.first ≡ false) bounds

or_parts : (a b : Bool) → (a || b) ≡ false → (a ≡ false) × (b ≡ false)
or_parts true b h = absurd (false≢true (sym h))
or_parts false b h = (refl, h)

other_ends : (end : End) (bounds : List Bound) → AllByRecursion (λ (bound : Bound). is_same_end end bound.first ≡ false) bounds → AllByRecursion (λ e. end ≢ e) (firsts bounds)
other_ends end [] all = tt
other_ends end (bound ∷ bounds) all = (λ same. false≢true (sym all.0 ∙ (ap (is_same_end end) (sym same) ∙ same_end end)), other_ends end bounds all.1)

record Apart (earlier : List End) (bounds : List Bound) : Type 0 where
  new : AreNew earlier bounds
  distinct : Distinct (firsts bounds)

apart : (earlier : List End) (last : End) (n : ℕ) (bounds : List Bound) → first_open earlier last n bounds ≡ None → Apart earlier bounds
apart earlier last n [] none = record { new = tt; distinct = tt }
apart earlier last n (bound ∷ bounds) none =
    let on = goes_on earlier last bound n bounds none in
    let rest = apart (bound.first ∷ earlier) bound.second (suc n) bounds on.rest in
    let parted : (other : Bound) → is_among (bound.first ∷ earlier) other.first ≡ false → (is_same_end bound.first other.first ≡ false) × (is_among earlier other.first ≡ false) =
    λ other h. or_parts (is_same_end bound.first other.first) (is_among earlier other.first) h in
    record {
      new = (on.new, all_weaker (λ (other : Bound). is_among (bound.first ∷ earlier) other.first ≡ false) (λ (other : Bound). is_among earlier other.first ≡ false) (λ other h. (parted other h).1) bounds rest.new);
      distinct = (
        other_ends bound.first bounds (all_weaker (λ (other : Bound). is_among (bound.first ∷ earlier) other.first ≡ false) (λ (other : Bound). is_same_end bound.first other.first ≡ false) (λ other h. (parted other h).0) bounds rest.new),
        rest.distinct,
      );
    }

-- ---- the sum

sum_split : (sum : ℤ) (b : Bool) → int_le (pos 0) sum ≡ b → (if b then Some (CycleSum sum) else None) ≡ None → sum ≤ℤ negsuc 0
sum_split sum true is none = absurd (some_not none)
sum_split sum false is none = omega (arith, ints, is)

-- ---- prices

free_if : (price : ℕ) → not (price == 0) ≡ false → price ≡ 0
free_if price h = grind (arith, nat_tests)

free_each : (rules : Rules) (list : List Priced) (names : List BoundName) → names_of list ≡ names → AllByRecursion (HasPrice rules) list
    → AllByRecursion (λ (name : BoundName). not (price_of_number rules name.rule == 0) ≡ false) names → AllByRecursion (λ (p : Priced). p.price ≡ 0) list
free_each rules [] names are prices free = tt
free_each rules (p ∷ list) [] are prices free = absurd (cc)
free_each rules (p ∷ list) (name ∷ names) are prices free =
    let same : p.bound.name ≡ name = cc in
    let later : names_of list ≡ names = cc in
    (prices.0 ∙ (ap (λ (n : BoundName). price_of_number rules n.rule) same ∙ free_if (price_of_number rules name.rule) free.0), free_each rules list names later prices.1 free.1)

pub map_twice : {A B C : Type 0} (g : B → C) (f : A → B) (xs : List A) → map g (map f xs) ≡ map (λ x. g (f x)) xs
map_twice g f [] = refl
map_twice g f (x ∷ xs) = ap (λ zs. g (f x) ∷ zs) (map_twice g f xs)

-- ---- cycles

pub map_same : (names : List BoundName) → map (λ (name : BoundName). name) names ≡ names
map_same [] = refl
map_same (name ∷ names) = ap (λ (ns : List BoundName). name ∷ ns) (map_same names)

all_named_by : (bounds : List Priced) (names : List BoundName) → AllByRecursion (λ name. not (is_known bounds name) ≡ false) names → AreNamesIn bounds names
all_named_by bounds names all = subst (λ (ns : List BoundName). AreNamesIn bounds ns) (map_same names) (all_named bounds (λ (name : BoundName). name) names all)

module _ (rules : Rules) (table : TableView) (names_differ : NamesAreDistinct rules table) (forbids : BlockedForbids) (steps : List BoundName) (some : 1 ≤ length steps)
    (none : AllByRecursion (λ fault. fault ≡ None) (cycle_faults rules table steps)) where
  abbrev bounds : List Priced
  bounds = (whole_problem rules table).bounds

  abbrev ring : List Priced
  ring = bounds_named steps bounds

  abbrev bound_in : Priced → Bound
  bound_in p = p.bound

  named : AreNamesIn bounds steps
  named =
      all_named_by bounds steps (none_passes (λ name. not (is_known bounds name)) BEFORE_STEPS steps (map_none UnknownBound (first_line (λ name. not (is_known bounds name)) BEFORE_STEPS steps) none.0))

  blocked : IsBlocked bounds ring
  blocked =
      let members = members_of bounds steps named in
      let is : ring ≡ members.list = named_is bounds steps (names_apart rules table names_differ) members in
      let prices = members_priced rules (all_bounds rules table) members.list members.each in
      let free = none_passes (λ (name : BoundName). not (price_of_number rules name.rule == 0)) BEFORE_STEPS steps (map_none PricedStep (first_line (λ (name : BoundName). not (price_of_number rules name.rule == 0)) BEFORE_STEPS steps) none.1.0) in
      let nowhere : first_open [] (last_second (map bound_in ring)) BEFORE_STEPS (map bound_in ring) ≡ None = map_none CycleOpen (first_open [] (last_second (map bound_in ring)) BEFORE_STEPS (map bound_in ring)) none.1.1.0 in
      let sum = total (map (λ (bound : Bound). bound.limit) (map bound_in ring)) in
      let long : length members.list ≡ length steps = sym (length-map members.list (λ (p : Priced). p.bound.name)) ∙ ap (λ (ns : List BoundName). length ns) members.names_are in
      record {
        some = subst (λ n. 1 ≤ n) (sym (ap (λ (ps : List Priced). length ps) is ∙ long)) some;
        members = subst (λ (ps : List Priced). AllByRecursion (Contains bounds) ps) (sym is) members.each;
        unpriced = subst (λ (ps : List Priced). AllByRecursion (λ (p : Priced). p.price ≡ 0) ps) (sym is) (free_each rules members.list steps members.names_are prices free);
        closed = sym (map_twice (λ (bound : Bound). bound.second) bound_in ring) ∙ (closed (map bound_in ring) nowhere ∙ ap (λ (ends : List End). rotated ends) (map_twice (λ (bound : Bound). bound.first) bound_in ring));
        simple = subst (λ (ends : List End). Distinct ends) (map_twice (λ (bound : Bound). bound.first) bound_in ring) (apart [] (last_second (map bound_in ring)) BEFORE_STEPS (map bound_in ring) nowhere).distinct;
        negative = subst (λ (limits : List ℤ). total limits ≤ℤ negsuc 0) (map_twice (λ (bound : Bound). bound.limit) bound_in ring) (sum_split sum (int_le (pos 0) sum) refl none.1.1.1.0);
      }

  pub true_cycle : IsTrueCycle rules table steps
  true_cycle = record { blocked = record { named = named; blocked = blocked }; none = λ series obeys. forbids (places table) bounds ring series blocked obeys }
