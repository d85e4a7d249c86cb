-- What is shown is accepted: cycles.
use Rattle.std.proofs.Common.{◌≡◌, ◌≢◌, ℕ, suc, true, false, not, ℤ, pos, negsuc, ◌≤ℤ◌, List, [], ◌∷◌, ◌++◌, map, Some, None, Ok, refl, sym, ap, ◌∙◌, subst, arith}
use Rattle.std.specs.Prelude.{if◌then◌else◌, int_le, option_map, ◌||◌, ◌==◌}
use Rattle.std.specs.List.{AllByRecursion}
use Rattle.std.proofs.lemmas.Bool.{and_from}
use Rattle.std.proofs.lemmas.Int.{ints}
use Rattle.words.specs.Lists.{Distinct, rotated, total}
use Rattle.screen_model.specs.declared.bound.Bound.{Bound}
use Rattle.screen_model.specs.declared.bound.BoundName.{BoundName}
use Rattle.screen_model.specs.declared.place.End.{End}
use Rattle.screen_model.specs.Best.{IsBlockedByNames}
use Rattle.screen_model.specs.Names.{AreNamesIn, bounds_named, names_of}
use Rattle.screen_model.specs.Obeys.{Priced}
use Rattle.rule_file.specs.declared.rules.Rules.{Rules}
use Rattle.series_csv.specs.File.{TableView}
use Rattle.bound_maker.specs.Bounds.{all_bounds, price_of_number}
use Rattle.bound_maker.specs.Costs.{whole_problem}
use Rattle.bound_maker.specs.Laws.{NamesAreDistinct}
use Rattle.cert_check.specs.declared.accepted.Accepted.TheVariants.{NoSeries}
use Rattle.cert_check.specs.declared.cycle.TheConstants.{BEFORE_STEPS}
use Rattle.cert_check.specs.declared.fault.CertFault.TheVariants.{CycleOpen, CycleSum, PricedStep, UnknownBound}
use Rattle.cert_check.specs.Cycle.{cycle_faults, cycle_open, cycle_sum, first_open, is_among, is_same_end, last_second, priced_step, unknown_step}
use Rattle.cert_check.specs.Judges.{answer_by}
use Rattle.cert_check.specs.Repair.{is_known}
use Rattle.cert_check.proofs.Marked.{other_end, same_end}
use Rattle.cert_check.proofs.Passed.{HasPrice, members_of, members_priced, named_is}
use Rattle.cert_check.proofs.Rings.{firsts, last_is, last_or, map_same, map_twice, seconds, AreNew}
use Rattle.cert_check.proofs.Shown.{known_names, no_fault, no_line}
use Rattle.cert_check.proofs.Steps.{names_apart}

-- ---- a ring that is nowhere open

-- the first one begins at this end, and each other one where the one before it ends
abbrev GoOn : End → List Bound → Type 0
GoOn last [] = Unit {0}
GoOn last (bound ∷ bounds) = (bound.first ≡ last) × GoOn bound.second bounds

first_end : (d e : End) (ds es : List End) → d ∷ ds ≡ e ∷ es → d ≡ e
first_end d e ds es h = cc

later_ends : (d e : End) (ds es : List End) → d ∷ ds ≡ e ∷ es → ds ≡ es
later_ends d e ds es h = cc

record IsChain (bound : Bound) (bounds : List Bound) (last : End) : Type 0 where
  go_on : GoOn bound.second bounds
  ends : last_or bound.second bounds ≡ last

chain : (bound : Bound) (bounds : List Bound) (last : End) → bound.second ∷ seconds bounds ≡ firsts bounds ++ last ∷ [] → IsChain bound bounds last
chain bound [] last are = record { go_on = tt; ends = first_end bound.second last [] [] are }
chain bound (next ∷ bounds) last are =
    let here = first_end bound.second next.first (next.second ∷ seconds bounds) (firsts bounds ++ last ∷ []) are in
    let rest = chain next bounds last (later_ends bound.second next.first (next.second ∷ seconds bounds) (firsts bounds ++ last ∷ []) are) in
    record { go_on = (sym here, rest.go_on); ends = rest.ends }

goes_round : (bounds : List Bound) → seconds bounds ≡ rotated (firsts bounds) → GoOn (last_second bounds) bounds
goes_round [] closed = tt
goes_round (bound ∷ bounds) closed =
    let all = chain bound bounds bound.first closed in
    (sym all.ends ∙ last_is bound bounds, all.go_on)

still_new : (end : End) (earlier : List End) (bounds : List Bound) → AllByRecursion (λ e. end ≢ e) (firsts bounds) → AreNew earlier bounds → AreNew (end ∷ earlier) bounds
still_new end earlier [] others new = tt
still_new end earlier (bound ∷ bounds) others new =
    (ap (λ b. b || is_among earlier bound.first) (other_end end bound.first others.0) ∙ new.0, still_new end earlier bounds others.1 new.1)

nowhere_open : (earlier : List End) (last : End) (n : ℕ) (bounds : List Bound) → GoOn last bounds → AreNew earlier bounds → Distinct (firsts bounds) → first_open earlier last n bounds ≡ None
nowhere_open earlier last n [] go_on new distinct = refl
nowhere_open earlier last n (bound ∷ bounds) go_on new distinct =
    let meets : is_same_end bound.first last ≡ true = ap (is_same_end bound.first) (sym go_on.0) ∙ same_end bound.first in
    let test = and_from (is_same_end bound.first last) (not (is_among earlier bound.first)) meets (ap not new.0) in
    ap (λ t. if t then first_open (bound.first ∷ earlier) bound.second (suc n) bounds else Some (suc n)) test
    ∙ nowhere_open (bound.first ∷ earlier) bound.second (suc n) bounds go_on.1 (still_new bound.first earlier bounds distinct.0 new.1) distinct.1

all_new : (bounds : List Bound) → AreNew [] bounds
all_new [] = tt
all_new (bound ∷ bounds) = (refl, all_new bounds)

-- ---- sums and prices

below_zero : (sum : ℤ) → sum ≤ℤ negsuc 0 → int_le (pos 0) sum ≡ false
below_zero sum h = grind (arith, ints)

not_priced : (price : ℕ) → price ≡ 0 → not (price == 0) ≡ false
not_priced price is = ap (λ n. not (n == 0)) is

none_priced : (rules : Rules) (list : List Priced) (names : List BoundName) → names_of list ≡ names → AllByRecursion (HasPrice rules) list → AllByRecursion (λ (p : Priced). p.price ≡ 0) list
    → AllByRecursion (λ (name : BoundName). not (price_of_number rules name.rule == 0) ≡ false) names
none_priced rules list [] are prices free = tt
none_priced rules [] (name ∷ names) are prices free = absurd (cc)
none_priced rules (p ∷ list) (name ∷ names) are prices free =
    let same : p.bound.name ≡ name = cc in
    let later : names_of list ≡ names = cc in
    let price : price_of_number rules name.rule ≡ 0 = ap (λ (n : BoundName). price_of_number rules n.rule) (sym same) ∙ (sym prices.0 ∙ free.0) in
    (not_priced (price_of_number rules name.rule) price, none_priced rules list names later prices.1 free.1)

-- ---- cycles

module _ (rules : Rules) (table : TableView) (names_differ : NamesAreDistinct rules table) (steps : List BoundName)
    (blocked : IsBlockedByNames (whole_problem rules table).bounds steps) where
  abbrev bounds : List Priced
  bounds = (whole_problem rules table).bounds

  abbrev ring : List Priced
  ring = bounds_named steps bounds

  abbrev bound_in : Priced → Bound
  bound_in p = p.bound

  no_unknown_step : unknown_step rules table steps ≡ None
  no_unknown_step =
      ap (option_map UnknownBound)
      (no_line (λ name. not (is_known bounds name)) BEFORE_STEPS steps
      (known_names bounds (λ (name : BoundName). name) steps (subst (λ (names : List BoundName). AreNamesIn bounds names) (sym (map_same steps)) blocked.named)))

  no_priced_step : priced_step rules table steps ≡ None
  no_priced_step =
      let members = members_of bounds steps blocked.named in
      let is : ring ≡ members.list = named_is bounds steps (names_apart rules table names_differ) members in
      let free = subst (λ (ps : List Priced). AllByRecursion (λ (p : Priced). p.price ≡ 0) ps) is blocked.blocked.unpriced in
      ap (option_map PricedStep)
      (no_line (λ (name : BoundName). not (price_of_number rules name.rule == 0)) BEFORE_STEPS steps
      (none_priced rules members.list steps members.names_are (members_priced rules (all_bounds rules table) members.list members.each) free))

  no_cycle_open : cycle_open rules table steps ≡ None
  no_cycle_open =
      let cycle = map bound_in ring in
      let firsts_are = map_twice (λ (bound : Bound). bound.first) bound_in ring in
      let closed : seconds cycle ≡ rotated (firsts cycle) =
      map_twice (λ (bound : Bound). bound.second) bound_in ring ∙ (blocked.blocked.closed ∙ ap (λ (ends : List End). rotated ends) (sym firsts_are)) in
      let simple : Distinct (firsts cycle) = subst (λ (ends : List End). Distinct ends) (sym firsts_are) blocked.blocked.simple in
      ap (option_map CycleOpen) (nowhere_open [] (last_second cycle) BEFORE_STEPS cycle (goes_round cycle closed) (all_new cycle) simple)

  no_cycle_sum : cycle_sum rules table steps ≡ None
  no_cycle_sum =
      let sum = total (map (λ (bound : Bound). bound.limit) (map bound_in ring)) in
      let low : sum ≤ℤ negsuc 0 = subst (λ (limits : List ℤ). total limits ≤ℤ negsuc 0) (sym (map_twice (λ (bound : Bound). bound.limit) bound_in ring)) blocked.blocked.negative in
      ap (λ b. if b then Some (CycleSum sum) else None) (below_zero sum low)

  pub shown_cycle : Ok (NoSeries steps) ≡ answer_by (cycle_faults rules table steps) (NoSeries steps)
  shown_cycle = no_fault (cycle_faults rules table steps) (NoSeries steps) (no_unknown_step, (no_priced_step, (no_cycle_open, (no_cycle_sum, tt))))
