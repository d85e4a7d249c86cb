-- To be believed: the strict orders of places and of the names of bounds.
use Rattle.std.specs.Prelude.{ℕ, Bool, false, ◌&&◌, ◌||◌, ◌==◌, nat_lt, IsTrue, List, [], ◌∷◌}
use Rattle.screen_model.specs.declared.place.Place.{Place}
use Rattle.screen_model.specs.declared.bound.BoundName.{BoundName}
use Rattle.screen_model.specs.declared.bound.FlowItem.{FlowItem}
use Rattle.screen_model.specs.declared.bound.Side.{Side}
use Rattle.screen_model.specs.declared.bound.Side.TheVariants.{Up, Down}

-- whether the first list has the lesser number where the two differ first
abbrev pub is_before : List ℕ → List ℕ → Bool
is_before (m ∷ ms) (n ∷ ns) = nat_lt m n || ((m == n) && is_before ms ns)
is_before [] ns = false
is_before (m ∷ ms) [] = false

-- by row, then column
abbrev pub place_key : Place → List ℕ
place_key place = place.row ∷ place.col ∷ []

-- up before down
abbrev pub side_number : Side → ℕ
side_number Up = 0
side_number Down = 1

-- by rule, then the two rows, then column, then side
abbrev pub name_key : BoundName → List ℕ
name_key name = name.rule ∷ name.from_row ∷ name.to_row ∷ name.col ∷ side_number name.side ∷ []

abbrev pub item_key : FlowItem → List ℕ
item_key item = name_key item.name

-- each one comes before the next
abbrev pub Rises : {A : Type 0} → (A → List ℕ) → List A → Type 0
Rises key [] = Unit {0}
Rises key (x ∷ []) = Unit {0}
Rises key (x ∷ y ∷ xs) = IsTrue (is_before (key x) (key y)) × Rises key (y ∷ xs)
