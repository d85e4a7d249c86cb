-- What is shown is accepted: repairs.
use Rattle.std.proofs.Common.{◌≡◌, ℕ, zero, suc, ◌+◌, ◌≤◌, Bool, true, false, cond, not, ℤ, pos, ◌≤ℤ◌, List, [], ◌∷◌, length, map, Option, Some, None, Ok, refl, sym, ap, ◌∙◌, subst, arith}
use Rattle.std.specs.Prelude.{◌&&◌, ◌==◌, int_lt, nat_lt, option_map, unsigned_abs}
use Rattle.std.specs.Ordering.{int_eq}
use Rattle.std.specs.List.{AllByRecursion, AllZip}
use Rattle.std.proofs.lemmas.Bool.Decides.{Decides-int_eq, nat_tests}
use Rattle.std.proofs.lemmas.Int.{ints}
use Rattle.words.specs.Lists.{Distinct}
use Rattle.words.proofs.Parts.{part_all}
use Rattle.screen_model.specs.declared.bound.BoundName.{BoundName}
use Rattle.screen_model.specs.declared.bound.FlowItem.{FlowItem}
use Rattle.screen_model.specs.declared.place.Place.{Place}
use Rattle.screen_model.specs.Best.{IsBestByItems}
use Rattle.screen_model.specs.Cost.{cost, paid}
use Rattle.screen_model.specs.Flow.{CanCarry, dual_value, pull}
use Rattle.screen_model.specs.Names.{AreNamesIn, amounts_of, names_of}
use Rattle.screen_model.specs.Obeys.{Keeps, Obeys, Priced}
use Rattle.screen_model.specs.Prices.{ItemsWithinPrices}
use Rattle.screen_model.proofs.Places.{same_place}
use Rattle.cert_format.specs.declared.cert.SetLine.{SetLine}
use Rattle.cert_format.specs.Sets.{SetsTellSeries, series_set, sets_of}
use Rattle.cert_format.proofs.Sets.{IsFree, all_more, line_of, sets_free}
use Rattle.rule_file.specs.declared.rules.Rules.{Rules}
use Rattle.series_csv.specs.File.{TableView}
use Rattle.series_csv.specs.Readings.{places, values}
use Rattle.bound_maker.specs.Bounds.{all_bounds, made_bounds, price_of_number}
use Rattle.bound_maker.specs.Broken.{first_broken}
use Rattle.bound_maker.specs.Costs.{made_problem, weights, whole_problem}
use Rattle.bound_maker.specs.Laws.{AreAPart, NamesAreDistinct}
use Rattle.bound_maker.proofs.Payments.{broken_or_obeys}
use Rattle.cert_check.specs.declared.accepted.Accepted.{Accepted}
use Rattle.cert_check.specs.declared.accepted.Accepted.TheVariants.{Repair}
use Rattle.cert_check.specs.declared.fault.CertFault.{CertFault}
use Rattle.cert_check.specs.declared.fault.CertFault.TheVariants.{Broken, OverPrice, PullTooGreat, SetOutside, TotalWrong, UnknownBound, ValueDiffers}
use Rattle.cert_check.specs.declared.repair.Claim.{Claim}
use Rattle.cert_check.specs.Judges.{answer_by, answer_to_repair}
use Rattle.cert_check.specs.Repair.{broken, first_line, first_pulled, is_above, is_change, is_known, over_price, paid_wrong, pull_too_great, repair_faults, set_outside, total_wrong, unknown_item, unless_same, unless_same_paid, value_differs}
use Rattle.cert_check.proofs.Faults.{same_repair}
use Rattle.cert_check.proofs.Passed.{HasPrice, item_name, members_of, members_priced, named_is}
use Rattle.cert_check.proofs.Steps.{known_yes, names_apart}

-- ---- faults that are not there

pub no_fault : (faults : List (Option CertFault)) (accepted : Accepted) → AllByRecursion (λ fault. fault ≡ None) faults → Ok accepted ≡ answer_by faults accepted
no_fault [] accepted none = refl
no_fault (fault ∷ faults) accepted none = no_fault faults accepted none.1 ∙ ap (λ (o : Option CertFault). answer_by (o ∷ faults) accepted) (sym none.0)

-- lines of which none passes a test
pub no_line : {A : Type 0} (test : A → Bool) (n : ℕ) (xs : List A) → AllByRecursion (λ x. test x ≡ false) xs → first_line test n xs ≡ None
no_line test n [] fail = refl
no_line test n (x ∷ xs) fail = ap (λ b. cond b (Some (suc n)) (first_line test (suc n) xs)) fail.0 ∙ no_line test (suc n) xs fail.1

pub no_difference : (given truth : ℤ) (fault : CertFault) → given ≡ truth → unless_same given truth fault ≡ None
no_difference given truth fault same = ap (λ b. cond b None (Some fault)) ((Decides-int_eq given truth).1 same)

-- ---- names

pub known_names : {A : Type 0} (bounds : List Priced) (name_of : A → BoundName) (xs : List A) → AreNamesIn bounds (map name_of xs) → AllByRecursion (λ x. not (is_known bounds (name_of x)) ≡ false) xs
known_names bounds name_of [] named = tt
known_names bounds name_of (x ∷ xs) named = (ap not (known_yes bounds (name_of x) named.0), known_names bounds name_of xs named.1)

-- ---- prices

and_false : (b : Bool) → (b && false) ≡ false
and_false true = refl
and_false false = refl

at_most : (n : ℕ) (amount : ℤ) → amount ≤ℤ pos n → int_lt (pos n) amount ≡ false
at_most n amount h = grind (arith, ints)

not_above : (price : ℕ) (p : Priced) (amount : ℤ) → p.price ≡ price → CanCarry p amount → is_above price amount ≡ false
not_above zero p amount is can = refl
not_above (suc n) p amount is can =
    let most : amount ≤ℤ pos (suc n) = subst (λ m. amount ≤ℤ pos m) is (can.1 (omega (arith, is))) in
    ap (λ b. not (suc n == 0) && b) (at_most (suc n) amount most) ∙ and_false (not (suc n == 0))

first_name : (m n : BoundName) (ms ns : List BoundName) → m ∷ ms ≡ n ∷ ns → m ≡ n
first_name m n ms ns e = cc

later_names : (m n : BoundName) (ms ns : List BoundName) → m ∷ ms ≡ n ∷ ns → ms ≡ ns
later_names m n ms ns e = cc

none_above : (rules : Rules) (list : List Priced) (items : List FlowItem) → names_of list ≡ map item_name items → AllByRecursion (HasPrice rules) list
    → AllZip CanCarry list (map (λ (item : FlowItem). item.amount) items) → AllByRecursion (λ (item : FlowItem). is_above (price_of_number rules item.name.rule) item.amount ≡ false) items
none_above rules list [] names prices can = tt
none_above rules [] (item ∷ items) names prices can = absurd (cc)
none_above rules (p ∷ list) (item ∷ items) names prices can =
    let same = first_name p.bound.name item.name (names_of list) (map item_name items) names in
    let price : p.price ≡ price_of_number rules item.name.rule = prices.0 ∙ ap (λ (n : BoundName). price_of_number rules n.rule) same in (
      not_above (price_of_number rules item.name.rule) p item.amount price can.0,
      none_above rules list items (later_names p.bound.name item.name (names_of list) (map item_name items) names) prices.1 can.1,
    )

-- ---- pulls

not_below : (weight n : ℕ) → n ≤ weight → nat_lt weight n ≡ false
not_below weight n h = grind (arith, nat_tests)

none_pulled : (pulls : List ℤ) (weights : List ℕ) (places : List Place) → AllZip (λ pull weight. unsigned_abs pull ≤ weight) pulls weights → first_pulled pulls weights places ≡ None
none_pulled [] weights places within = refl
none_pulled (x ∷ pulls) [] places within = refl
none_pulled (x ∷ pulls) (w ∷ weights) [] within = refl
none_pulled (x ∷ pulls) (w ∷ weights) (p ∷ places) within =
    ap (λ b. cond b (Some p) (first_pulled pulls weights places)) (not_below w (unsigned_abs x) within.0) ∙ none_pulled pulls weights places within.1

zip_to_map : {A B C : Type 0} (R : B → C → Type 0) (f : A → B) (xs : List A) (ys : List C) → AllZip (λ x y. R (f x) y) xs ys → AllZip R (map f xs) ys
zip_to_map R f [] [] all = tt
zip_to_map R f [] (y ∷ ys) all = absurd all
zip_to_map R f (x ∷ xs) [] all = absurd all
zip_to_map R f (x ∷ xs) (y ∷ ys) all = (all.0, zip_to_map R f xs ys all.1)

-- ---- set lines

-- the line changes one of these readings
abbrev Changes : List Place → List ℤ → SetLine → Type 0
Changes places values line = not (is_change places values line) ≡ false

changes_here : (place : Place) (places : List Place) (value : ℤ) (values : List ℤ) (x : ℤ) → int_eq x value ≡ false → Changes (place ∷ places) (value ∷ values) (line_of place x)
changes_here place places value values x differs =
    ap (λ b. not (cond b (not (int_eq x value)) (is_change places values (line_of place x)))) (same_place place) ∙ ap (λ b. not (not b)) differs

changes_later : (place : Place) (places : List Place) (value : ℤ) (values : List ℤ) (sets : List SetLine) → IsFree place sets → AllByRecursion (Changes places values) sets
    → AllByRecursion (Changes (place ∷ places) (value ∷ values)) sets
changes_later place places value values [] free change = tt
changes_later place places value values (line ∷ sets) free change = (
  ap (λ b. not (cond b (not (int_eq line.value value)) (is_change places values line))) free.0 ∙ change.0,
  changes_later place places value values sets free.1 change.1,
)

sets_change : (places : List Place) (values series : List ℤ) → Distinct places → AllByRecursion (Changes places values) (sets_of places values series)
sets_change [] values series distinct = tt
sets_change (place ∷ places) [] series distinct = tt
sets_change (place ∷ places) (value ∷ values) [] distinct = tt
sets_change (place ∷ places) (value ∷ values) (x ∷ series) distinct =
    let sets = sets_of places values series in
    all_more (Changes (place ∷ places) (value ∷ values)) (int_eq x value) (line_of place x) sets (changes_here place places value values x)
    (changes_later place places value values sets (sets_free place places values series distinct.0) (sets_change places values series distinct.1))

-- ---- repairs

-- what is known of a table that was read
pub record IsRead (rules : Rules) (table : TableView) : Type 0 where
  pub apart : Distinct (places table)
  pub valued : length (values table) ≡ length (places table)
  pub distinct : NamesAreDistinct rules table
  pub part : AreAPart rules table
  pub carried : ItemsWithinPrices
  pub tell : SetsTellSeries

module _ (rules : Rules) (table : TableView) (read : IsRead rules table) (series : List ℤ) (items : List FlowItem)
    (shown : IsBestByItems (whole_problem rules table) series items) where
  abbrev bounds : List Priced
  bounds = (whole_problem rules table).bounds

  abbrev sets : List SetLine
  sets = sets_of (places table) (values table) series

  abbrev told : List ℤ
  told = series_set (places table) (values table) sets

  told_is : told ≡ series
  told_is = read.tell (places table) (values table) series read.apart read.valued shown.best.whole

  none_over : AllByRecursion (λ (item : FlowItem). is_above (price_of_number rules item.name.rule) item.amount ≡ false) items
  none_over =
      let apart = names_apart rules table read.distinct in
      let members = members_of bounds (map item_name items) shown.over.named in
      let can = (read.carried bounds items apart shown.over).0 shown.best.admissible.amounts in
      none_above rules members.list items members.names_are (members_priced rules (all_bounds rules table) members.list members.each)
      (subst (λ (ps : List Priced). AllZip CanCarry ps (map (λ (item : FlowItem). item.amount) items)) (named_is bounds (map item_name items) apart members) can)

  obeys_made : Obeys (places table) series (made_problem rules table).bounds
  obeys_made = part_all (λ (p : Priced). p.price ≡ 0 → Keeps (places table) series p.bound) read.part.part shown.best.obeys

  none_broken : first_broken rules table (made_bounds rules table) told ≡ None
  none_broken =
      (broken_or_obeys rules table told (made_bounds rules table) (first_broken rules table (made_bounds rules table) told) refl).1
      (subst (λ (xs : List ℤ). Obeys (places table) xs (made_problem rules table).bounds) (sym told_is) obeys_made)

  module _ (before : ℕ) (total part : ℤ) (given : Option ℤ) (total_is : total ≡ pos (cost (whole_problem rules table) series)) (part_is : part ≡ pos (paid (whole_problem rules table) series))
      (given_is : unless_same_paid given part ≡ None) where
    abbrev claim : Claim
    claim = record { before = before; total = total; paid = given; sets = sets; flow = items }

    cost_told : total ≡ pos (cost (whole_problem rules table) told)
    cost_told = total_is ∙ ap (λ (xs : List ℤ). pos (cost (whole_problem rules table) xs)) (sym told_is)

    paid_told : part ≡ pos (paid (whole_problem rules table) told)
    paid_told = part_is ∙ ap (λ (xs : List ℤ). pos (paid (whole_problem rules table) xs)) (sym told_is)

    value_is : dual_value (whole_problem rules table) (amounts_of items bounds) ≡ total
    value_is = shown.best.equal ∙ sym total_is

    no_set_outside : set_outside rules table claim ≡ None
    no_set_outside = ap (option_map SetOutside) (no_line (λ line. not (is_change (places table) (values table) line)) before sets (sets_change (places table) (values table) series read.apart))

    no_unknown_item : unknown_item rules table claim ≡ None
    no_unknown_item = ap (option_map UnknownBound) (no_line (λ (item : FlowItem). not (is_known bounds item.name)) (before + length sets) items (known_names bounds item_name items shown.over.named))

    no_over_price : over_price rules table claim ≡ None
    no_over_price = ap (option_map OverPrice) (no_line (λ (item : FlowItem). is_above (price_of_number rules item.name.rule) item.amount) (before + length sets) items none_over)

    no_broken : broken rules table claim ≡ None
    no_broken = ap (option_map Broken) none_broken

    no_total_wrong : total_wrong rules table claim ≡ None
    no_total_wrong =
        no_difference total (pos (cost (whole_problem rules table) told)) (TotalWrong total (pos (cost (whole_problem rules table) told))) cost_told

    no_paid_wrong : paid_wrong rules table claim ≡ None
    no_paid_wrong = ap (unless_same_paid given) (sym paid_told) ∙ given_is

    no_pull_too_great : pull_too_great rules table claim ≡ None
    no_pull_too_great =
        ap (option_map PullTooGreat)
        (none_pulled (map (pull bounds (amounts_of items bounds)) (places table)) (weights rules table) (places table)
        (zip_to_map (λ (x : ℤ) (weight : ℕ). unsigned_abs x ≤ weight) (pull bounds (amounts_of items bounds)) (places table) (weights rules table) shown.best.admissible.pulls))

    no_value_differs : value_differs rules table claim ≡ None
    no_value_differs =
        no_difference (dual_value (whole_problem rules table) (amounts_of items bounds)) total (ValueDiffers (dual_value (whole_problem rules table) (amounts_of items bounds)) total) value_is

    no_faults : AllByRecursion (λ fault. fault ≡ None) (repair_faults rules table claim)
    no_faults = (no_set_outside, (no_unknown_item, (no_over_price, (no_broken, (no_total_wrong, (no_paid_wrong, (no_pull_too_great, (no_value_differs, tt))))))))

    pub shown_repair : Ok (Repair series items total part) ≡ answer_to_repair rules table claim
    shown_repair =
        same_repair series told items total total part (pos (paid (whole_problem rules table) told)) (sym told_is) refl paid_told
        ∙ no_fault (repair_faults rules table claim) (Repair told items total (pos (paid (whole_problem rules table) told))) no_faults
