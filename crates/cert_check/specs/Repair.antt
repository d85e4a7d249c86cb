-- To be believed: the series of a repair's certificate, and the faults of its claim.
use Rattle.std.specs.Prelude.{ℕ, suc, ◌+◌, ◌==◌, nat_lt, Bool, false, not, ◌&&◌, ◌||◌, ℤ, pos, int_lt, if◌then◌else◌, List, [], ◌∷◌, length, map, unsigned_abs, Option, Some, None, option_map}
use Rattle.std.specs.Ordering.{int_eq}
use Rattle.screen_model.specs.declared.place.Place.{Place}
use Rattle.screen_model.specs.declared.bound.BoundName.{BoundName}
use Rattle.screen_model.specs.declared.bound.FlowItem.{FlowItem}
use Rattle.screen_model.specs.Series.{is_same_place}
use Rattle.screen_model.specs.Obeys.{Priced}
use Rattle.screen_model.specs.Cost.{Problem, cost, paid}
use Rattle.screen_model.specs.Flow.{dual_value, pull}
use Rattle.screen_model.specs.Names.{amounts_of, is_same_name}
use Rattle.cert_format.specs.declared.cert.SetLine.{SetLine}
use Rattle.cert_format.specs.Sets.{series_set}
use Rattle.rule_file.specs.declared.rules.Rules.{Rules}
use Rattle.series_csv.specs.File.{TableView}
use Rattle.series_csv.specs.Readings.{places, values}
use Rattle.bound_maker.specs.Bounds.{made_bounds, price_of_number}
use Rattle.bound_maker.specs.Broken.{first_broken}
use Rattle.bound_maker.specs.Costs.{weights, whole_problem}
use Rattle.cert_check.specs.declared.fault.CertFault.{CertFault}
use Rattle.cert_check.specs.declared.fault.CertFault.TheVariants.{SetOutside, UnknownBound, OverPrice, Broken, TotalWrong, PaidWrong, PullTooGreat, ValueDiffers}
use Rattle.cert_check.specs.declared.repair.Claim.{Claim}

-- the number of the first line that passes a test, where so many lines stand before these
abbrev pub first_line : {A : Type 0} → (A → Bool) → ℕ → List A → Option ℕ
first_line test before [] = None
first_line test before (line ∷ lines) = if test line then Some (suc before) else first_line test (suc before) lines

-- the series of a claim: that of the readings, with the values of the set lines
abbrev pub series_of : TableView → Claim → List ℤ
series_of table claim = series_set (places table) (values table) claim.sets

-- ---- faults

-- the line gives a reading another value than its own
abbrev pub is_change : List Place → List ℤ → SetLine → Bool
is_change (place ∷ places) (value ∷ values) line = if is_same_place line.place place then not (int_eq line.value value) else is_change places values line
is_change [] values line = false
is_change (place ∷ places) [] line = false

-- one of the bounds has the name
abbrev pub is_known : List Priced → BoundName → Bool
is_known [] name = false
is_known (priced ∷ bounds) name = is_same_name name priced.bound.name || is_known bounds name

-- there is a price, and the amount is above it
abbrev pub is_above : ℕ → ℤ → Bool
is_above price amount = not (price == 0) && int_lt (pos price) amount

-- the first place whose pull is greater in size than its weight
abbrev pub first_pulled : List ℤ → List ℕ → List Place → Option Place
first_pulled (pull ∷ pulls) (weight ∷ weights) (place ∷ places) = if nat_lt weight (unsigned_abs pull) then Some place else first_pulled pulls weights places
first_pulled [] weights places = None
first_pulled (pull ∷ pulls) [] places = None
first_pulled (pull ∷ pulls) (weight ∷ weights) [] = None

-- the fault, if the two numbers differ
abbrev pub unless_same : ℤ → ℤ → CertFault → Option CertFault
unless_same given truth fault = if int_eq given truth then None else Some fault

-- the fault, if a number is given that differs from the other
abbrev pub unless_same_paid : Option ℤ → ℤ → Option CertFault
unless_same_paid None truth = None
unless_same_paid (Some given) truth = unless_same given truth (PaidWrong given truth)

module _ (rules : Rules) (table : TableView) (claim : Claim) where
  -- all bounds of the rules, each with its price; and the flow over them that the flow lines tell
  abbrev pub problem : Problem
  problem = whole_problem rules table

  abbrev pub flow_of : List ℤ
  flow_of = amounts_of claim.flow problem.bounds

  abbrev pub set_outside : Option CertFault
  set_outside = option_map SetOutside (first_line (λ line. not (is_change (places table) (values table) line)) claim.before claim.sets)

  abbrev pub unknown_item : Option CertFault
  unknown_item = option_map UnknownBound (first_line (λ (item : FlowItem). not (is_known problem.bounds item.name)) (claim.before + length claim.sets) claim.flow)

  abbrev pub over_price : Option CertFault
  over_price = option_map OverPrice (first_line (λ (item : FlowItem). is_above (price_of_number rules item.name.rule) item.amount) (claim.before + length claim.sets) claim.flow)

  abbrev pub broken : Option CertFault
  broken = option_map Broken (first_broken rules table (made_bounds rules table) (series_of table claim))

  abbrev pub total_wrong : Option CertFault
  total_wrong = let truth = pos (cost problem (series_of table claim)) in unless_same claim.total truth (TotalWrong claim.total truth)

  abbrev pub paid_wrong : Option CertFault
  paid_wrong = unless_same_paid claim.paid (pos (paid problem (series_of table claim)))

  abbrev pub pull_too_great : Option CertFault
  pull_too_great = option_map PullTooGreat (first_pulled (map (pull problem.bounds flow_of) (places table)) (weights rules table) (places table))

  abbrev pub value_differs : Option CertFault
  value_differs = let value = dual_value problem flow_of in unless_same value claim.total (ValueDiffers value claim.total)

  -- the faults of a repair in the order in which they count
  abbrev pub repair_faults : List (Option CertFault)
  repair_faults = set_outside ∷ unknown_item ∷ over_price ∷ broken ∷ total_wrong ∷ paid_wrong ∷ pull_too_great ∷ value_differs ∷ []
