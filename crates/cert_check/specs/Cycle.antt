-- To be believed: the faults of the claim that no series obeys.
use Rattle.std.specs.Prelude.{ℕ, suc, ◌==◌, Bool, true, false, not, ◌&&◌, ◌||◌, pos, int_le, if◌then◌else◌, List, [], ◌∷◌, map, Option, Some, None, option_map}
use Rattle.words.specs.Lists.{total}
use Rattle.screen_model.specs.declared.place.End.{End}
use Rattle.screen_model.specs.declared.place.End.TheVariants.{At, Zero}
use Rattle.screen_model.specs.declared.bound.Bound.{Bound}
use Rattle.screen_model.specs.declared.bound.BoundName.{BoundName}
use Rattle.screen_model.specs.Series.{is_same_place}
use Rattle.screen_model.specs.Names.{bounds_named}
use Rattle.rule_file.specs.declared.rules.Rules.{Rules}
use Rattle.series_csv.specs.File.{TableView}
use Rattle.bound_maker.specs.Bounds.{price_of_number}
use Rattle.bound_maker.specs.Costs.{whole_problem}
use Rattle.cert_check.specs.declared.fault.CertFault.{CertFault}
use Rattle.cert_check.specs.declared.fault.CertFault.TheVariants.{UnknownBound, PricedStep, CycleOpen, CycleSum}
use Rattle.cert_check.specs.Repair.{first_line, is_known}

abbrev pub is_same_end : End → End → Bool
is_same_end Zero Zero = true
is_same_end (At p) (At q) = is_same_place p q
is_same_end Zero (At q) = false
is_same_end (At p) Zero = false

-- the end is among these
abbrev pub is_among : List End → End → Bool
is_among [] end = false
is_among (other ∷ ends) end = is_same_end other end || is_among ends end

-- where the last bound ends
abbrev pub last_second : List Bound → End
last_second [] = Zero
last_second (bound ∷ []) = bound.second
last_second (bound ∷ next ∷ bounds) = last_second (next ∷ bounds)

-- The line of the first bound that does not begin where the one before it ends, or begins where an earlier one does. The
-- first ends of the earlier ones, the second end of the last of them, and the number of lines before are given.
abbrev pub first_open : List End → End → ℕ → List Bound → Option ℕ
first_open earlier last before [] = None
first_open earlier last before (bound ∷ bounds) =
    if is_same_end bound.first last && not (is_among earlier bound.first) then first_open (bound.first ∷ earlier) bound.second (suc before) bounds
    else Some (suc before)

-- The steps come after two lines.
module _ (rules : Rules) (table : TableView) (steps : List BoundName) where
  -- the bounds of the steps
  abbrev pub cycle_of : List Bound
  cycle_of = map (λ priced. priced.bound) (bounds_named steps (whole_problem rules table).bounds)

  abbrev pub unknown_step : Option CertFault
  unknown_step = option_map UnknownBound (first_line (λ name. not (is_known (whole_problem rules table).bounds name)) 2 steps)

  abbrev pub priced_step : Option CertFault
  priced_step = option_map PricedStep (first_line (λ (name : BoundName). not (price_of_number rules name.rule == 0)) 2 steps)

  -- the step before the first one is the last one
  abbrev pub cycle_open : Option CertFault
  cycle_open = option_map CycleOpen (first_open [] (last_second cycle_of) 2 cycle_of)

  abbrev pub cycle_sum : Option CertFault
  cycle_sum = let sum = total (map (λ bound. bound.limit) cycle_of) in if int_le (pos 0) sum then Some (CycleSum sum) else None

  -- the faults of a cycle in the order in which they count
  abbrev pub cycle_faults : List (Option CertFault)
  cycle_faults = unknown_step ∷ priced_step ∷ cycle_open ∷ cycle_sum ∷ []
