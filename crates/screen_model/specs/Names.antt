-- To be believed: bounds told by their names, in lists of bounds of which no two share a name.
use Rattle.std.specs.Prelude.{◌≡◌, ℤ, pos, ◌≤ℤ◌, zero, Bool, true, false, ◌&&◌, ◌==◌, List, [], ◌∷◌, ◌++◌, map, filter, Contains}
use Rattle.std.specs.List.{AllByRecursion, AllZip}
use Rattle.screen_model.specs.declared.bound.BoundName.{BoundName}
use Rattle.screen_model.specs.declared.bound.FlowItem.{FlowItem}
use Rattle.screen_model.specs.declared.bound.Side.{Side}
use Rattle.screen_model.specs.declared.bound.Side.TheVariants.{Up, Down}
use Rattle.words.specs.Lists.{Distinct, total, inner_product}
use Rattle.screen_model.specs.Obeys.{Priced}

abbrev pub is_same_side : Side → Side → Bool
is_same_side Up Up = true
is_same_side Down Down = true
is_same_side Up Down = false
is_same_side Down Up = false

-- whether two names agree in all five parts
abbrev pub is_same_name : BoundName → BoundName → Bool
is_same_name m n = (m.rule == n.rule) && ((m.from_row == n.from_row) && ((m.to_row == n.to_row) && ((m.col == n.col) && is_same_side m.side n.side)))

-- the names of bounds, in the order of the bounds
abbrev pub names_of : List Priced → List BoundName
names_of bounds = map (λ priced. priced.bound.name) bounds

-- each name is that of one of the bounds
abbrev pub AreNamesIn : List Priced → List BoundName → Type 0
AreNamesIn bounds names = AllByRecursion (Contains (names_of bounds)) names

-- the bounds of the names, in the order of the names
abbrev pub bounds_named : List BoundName → List Priced → List Priced
bounds_named [] bounds = []
bounds_named (name ∷ names) bounds = filter (λ priced. is_same_name name priced.bound.name) bounds ++ bounds_named names bounds

-- The names of members of a list of bounds stand for these members again, in their order.
abbrev pub NamesTellBounds : Type 0
NamesTellBounds = (bounds members : List Priced) → Distinct (names_of bounds) → AllByRecursion (Contains bounds) members
    → AreNamesIn bounds (names_of members) × (bounds_named (names_of members) bounds ≡ members)

-- what flows on the bound of a name: the amount of its item, or of all its items together; 0 where it has none
abbrev pub amount_on : BoundName → List FlowItem → ℤ
amount_on name items = total (map (λ item. item.amount) (filter (λ item. is_same_name name item.name) items))

-- the flow over the bounds that the items tell
abbrev pub amounts_of : List FlowItem → List Priced → List ℤ
amounts_of items bounds = map (λ priced. amount_on priced.bound.name items) bounds

-- Each item names one of the bounds, no two name the same one, and each amount is at least 1.
pub record IsFlowOver (bounds : List Priced) (items : List FlowItem) : Type 0 where
  pub named : AreNamesIn bounds (map (λ item. item.name) items)
  pub distinct : Distinct (map (λ item. item.name) items)
  pub some : AllByRecursion (λ item. pos 1 ≤ℤ item.amount) items

-- the items, with one more before them where the amount is not 0
abbrev pub with_item : BoundName → ℤ → List FlowItem → List FlowItem
with_item name (pos zero) items = items
with_item name amount items = record { name = name; amount = amount } ∷ items

-- the items of a flow, in the order of the bounds
abbrev pub items_of : List Priced → List ℤ → List FlowItem
items_of (priced ∷ bounds) (amount ∷ flow) = with_item priced.bound.name amount (items_of bounds flow)
items_of [] flow = []
items_of (priced ∷ bounds) [] = []

-- The items of a flow tell that flow.
abbrev pub ItemsTellFlows : Type 0
ItemsTellFlows = (bounds : List Priced) (flow : List ℤ) → Distinct (names_of bounds) → AllZip (λ priced amount. pos 0 ≤ℤ amount) bounds flow
    → IsFlowOver bounds (items_of bounds flow) × (amounts_of (items_of bounds flow) bounds ≡ flow)

-- A sum over items, each at the bound of its name, is the same sum over the flow that they tell.
abbrev pub SumsOverItems : Type 0
SumsOverItems = (bounds : List Priced) (items : List FlowItem) (worth : Priced → ℤ) → Distinct (names_of bounds)
    → AreNamesIn bounds (map (λ item. item.name) items)
    → inner_product (amounts_of items bounds) (map worth bounds)
    ≡ inner_product (map (λ item. item.amount) items) (map worth (bounds_named (map (λ item. item.name) items) bounds))
