-- To be believed: what holds of a part of a list of bounds, which may be all of them, and of the whole list.
use Rattle.std.specs.Prelude.{◌≡◌, ◌==◌, not, ℤ, pos, List, [], ◌∷◌, length, filter}
use Rattle.screen_model.specs.declared.bound.BoundName.{BoundName}
use Rattle.screen_model.specs.declared.bound.FlowItem.{FlowItem}
use Rattle.words.specs.Lists.{Distinct, IsPart}
use Rattle.screen_model.specs.Obeys.{Priced, Obeys}
use Rattle.screen_model.specs.Cost.{Problem, cost}
use Rattle.screen_model.specs.Flow.{IsAdmissible, dual_value}
use Rattle.screen_model.specs.Names.{names_of, AreNamesIn, bounds_named, amounts_of, IsFlowOver}
use Rattle.screen_model.specs.Best.{IsBest, IsBlocked}

-- A flow over a part of the bounds, extended by 0: the last list is the flow over all bounds that has the same amounts
-- on the part, and 0 on the bounds that are left out.
pub data IsExtended : List Priced → List ℤ → List Priced → List ℤ → Type 0 where
  no_bounds : IsExtended [] [] [] []
  same_amount : {priced : Priced} {amount : ℤ} {part bounds : List Priced} {flow extended : List ℤ} → IsExtended part flow bounds extended
      → IsExtended (priced ∷ part) (amount ∷ flow) (priced ∷ bounds) (amount ∷ extended)
  no_amount : {priced : Priced} {part bounds : List Priced} {flow extended : List ℤ} → IsExtended part flow bounds extended
      → IsExtended part flow (priced ∷ bounds) (pos 0 ∷ extended)

-- Each flow over a part of the bounds can be extended over all of them.
abbrev pub FlowsExtend : Type 0
FlowsExtend = (part bounds : List Priced) (flow : List ℤ) → IsPart part bounds → length flow ≡ length part
    → (extended : List ℤ) × IsExtended part flow bounds extended

-- A flow that is admissible over a part of the bounds is so over all, extended, and has the same dual value.
abbrev pub FlowsOverParts : Type 0
FlowsOverParts = (problem : Problem) (part : List Priced) (flow extended : List ℤ) → IsExtended part flow problem.bounds extended
    → IsAdmissible (record problem { bounds = part }) flow
    → IsAdmissible problem extended × (dual_value problem extended ≡ dual_value (record problem { bounds = part }) flow)

-- A cycle of a part of the bounds that is blocked is a blocked one of all.
abbrev pub CyclesOverParts : Type 0
CyclesOverParts = (part bounds cycle : List Priced) → IsPart part bounds → IsBlocked part cycle → IsBlocked bounds cycle

-- Items that tell a flow over a part of the bounds tell over all of them that flow, extended.
abbrev pub ItemsOverParts : Type 0
ItemsOverParts = (part bounds : List Priced) (items : List FlowItem) → IsPart part bounds → Distinct (names_of bounds) → IsFlowOver part items
    → IsFlowOver bounds items × IsExtended part (amounts_of items part) bounds (amounts_of items bounds)

-- Names of bounds of a part are names of the same bounds among all.
abbrev pub NamesOverParts : Type 0
NamesOverParts = (part bounds : List Priced) (names : List BoundName) → IsPart part bounds → Distinct (names_of bounds) → AreNamesIn part names
    → AreNamesIn bounds names × (bounds_named names bounds ≡ bounds_named names part)

-- the bounds that have a price, in their order
abbrev pub bounds_with_price : List Priced → List Priced
bounds_with_price bounds = filter (λ priced. not (priced.price == 0)) bounds

-- Where a part has all the bounds that have a price, a series costs over the part what it costs over all bounds.
abbrev pub CostsOverParts : Type 0
CostsOverParts = (problem : Problem) (part : List Priced) (series : List ℤ) → bounds_with_price part ≡ bounds_with_price problem.bounds
    → cost (record problem { bounds = part }) series ≡ cost problem series

-- Where a part has all the bounds that have a price, and a best series over the part obeys all bounds, it is best over all.
abbrev pub BestOverParts : Type 0
BestOverParts = (problem : Problem) (part : List Priced) (series flow extended : List ℤ) → IsExtended part flow problem.bounds extended
    → bounds_with_price part ≡ bounds_with_price problem.bounds → Obeys problem.places series problem.bounds
    → IsBest (record problem { bounds = part }) series flow → IsBest problem series extended
