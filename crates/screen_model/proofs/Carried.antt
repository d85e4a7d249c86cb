-- That bounds can carry the flow that items tell, and that each item's bound can carry its amount.
use Rattle.std.proofs.Common.{◌≡◌, ◌≢◌, Bool, true, false, cond, ◌⊎◌, inl, inr, ℤ, List, [], ◌∷◌, ◌++◌, map, refl, sym, ap, ◌∙◌, subst, arith}
use Rattle.std.specs.Prelude.{Contains}
use Rattle.std.specs.List.{AllByRecursion, AllZip}
use Rattle.std.proofs.lemmas.Int.{ints}
use Rattle.screen_model.specs.declared.bound.BoundName.{BoundName}
use Rattle.screen_model.specs.declared.bound.FlowItem.{FlowItem}
use Rattle.words.specs.Lists.{Distinct, total}
use Rattle.words.proofs.Lists.{all_weaker, all_at, all_from_map, contains_first, contains_later, contains_cases, contains_none}
use Rattle.screen_model.specs.Obeys.{Priced}
use Rattle.screen_model.specs.Flow.{CanCarry}
use Rattle.screen_model.specs.Names.{is_same_name, names_of, AreNamesIn, bounds_named, amount_on, amounts_of}
use Rattle.screen_model.specs.Prices.{ItemsWithinPrices}
use Rattle.screen_model.proofs.Names.{name_from_same, bearing, one_bearing, name_of}
use Rattle.screen_model.proofs.Items.{amount_none}

-- ---- lists

all_members : {A : Type 0} (P : A → Type 0) (xs : List A) → ((x : A) → Contains xs x → P x) → AllByRecursion P xs
all_members P [] each = tt
all_members P (x ∷ xs) each = (each x (contains_first x xs), all_members P xs (λ y h. each y (contains_later x xs y h)))

zip_of_all : {A B : Type 0} (R : A → B → Type 0) (f : A → B) (xs : List A) → AllByRecursion (λ x. R x (f x)) xs → AllZip R xs (map f xs)
zip_of_all R f [] all = tt
zip_of_all R f (x ∷ xs) all = (all.0, zip_of_all R f xs all.1)

all_of_zip : {A B : Type 0} (R : A → B → Type 0) (f : A → B) (xs : List A) → AllZip R xs (map f xs) → AllByRecursion (λ x. R x (f x)) xs
all_of_zip R f [] all = tt
all_of_zip R f (x ∷ xs) all = (all.0, all_of_zip R f xs all.1)

-- ---- the bound of a name

record Owner (name : BoundName) (bounds : List Priced) : Type 0 where
  bound : Priced
  member : Contains bounds bound
  bears : name_of bound ≡ name

owner_cases : (name : BoundName) (first : Priced) (bounds : List Priced) → (name_of first ≡ name) ⊎ Contains (names_of bounds) name → (Contains (names_of bounds) name → Owner name bounds) → Owner name (first ∷ bounds)
owner_cases name first bounds (inl e) rest = record { bound = first; member = contains_first first bounds; bears = e }
owner_cases name first bounds (inr later) rest =
    let owner = rest later in
    record { bound = owner.bound; member = contains_later first bounds owner.bound owner.member; bears = owner.bears }

owner_of : (name : BoundName) (bounds : List Priced) → Contains (names_of bounds) name → Owner name bounds
owner_of name [] h = absurd (contains_none name h)
owner_of name (first ∷ bounds) h = owner_cases name first bounds (contains_cases (name_of first) (names_of bounds) name h) (owner_of name bounds)

alone : (bounds : List Priced) (name : BoundName) (priced : Priced) → Distinct (names_of bounds) → Contains bounds priced → name_of priced ≡ name → bearing name_of name bounds ≡ priced ∷ []
alone bounds name priced distinct h e = subst (λ n. bearing name_of n bounds ≡ priced ∷ []) e (one_bearing name_of bounds priced distinct h)

-- ---- each item at its bound

abbrev item_name : FlowItem → BoundName
item_name item = item.name

-- the bounds of an item's name can carry its amount
abbrev IsCarried : List Priced → FlowItem → Type 0
IsCarried bounds item = (priced : Priced) → Contains bounds priced → name_of priced ≡ item.name → CanCarry priced item.amount

-- the bounds can carry the amounts, each the one beside it
abbrev AreCarried : List Priced → List ℤ → Type 0
AreCarried bounds amounts = AllZip CanCarry bounds amounts

carried_zip : (bounds : List Priced) (items : List FlowItem) → Distinct (names_of bounds) → AreNamesIn bounds (map item_name items) → AllByRecursion (IsCarried bounds) items
    → AreCarried (bounds_named (map item_name items) bounds) (map (λ item. item.amount) items)
carried_zip bounds [] distinct named all = tt
carried_zip bounds (item ∷ items) distinct named all =
    let owner = owner_of item.name bounds named.0 in
    let rest = bounds_named (map item_name items) bounds in
    subst (λ (ps : List Priced). AreCarried (ps ++ rest) (item.amount ∷ map (λ item. item.amount) items)) (sym (alone bounds item.name owner.bound distinct owner.member owner.bears))
    (all.0 owner.bound owner.member owner.bears, carried_zip bounds items distinct named.1 all.1)

zip_first : (bounds : List Priced) (item : FlowItem) (rest : List Priced) (amounts : List ℤ) (priced : Priced) → Distinct (names_of bounds) → Contains bounds priced → name_of priced ≡ item.name
    → AreCarried (bearing name_of item.name bounds ++ rest) (item.amount ∷ amounts) → CanCarry priced item.amount × AreCarried rest amounts
zip_first bounds item rest amounts priced distinct h e all = subst (λ (ps : List Priced). AreCarried (ps ++ rest) (item.amount ∷ amounts)) (alone bounds item.name priced distinct h e) all

zip_carried : (bounds : List Priced) (items : List FlowItem) → Distinct (names_of bounds) → AreNamesIn bounds (map item_name items) → AreCarried (bounds_named (map item_name items) bounds) (map (λ item. item.amount) items)
    → AllByRecursion (IsCarried bounds) items
zip_carried bounds [] distinct named all = tt
zip_carried bounds (item ∷ items) distinct named all =
    let owner = owner_of item.name bounds named.0 in
    let rest = bounds_named (map item_name items) bounds in
    let amounts = map (λ item. item.amount) items in (
      λ priced h e. (zip_first bounds item rest amounts priced distinct h e all).0,
      zip_carried bounds items distinct named.1 (zip_first bounds item rest amounts owner.bound distinct owner.member owner.bears all).1,
    )

-- ---- each bound

-- a bound can carry what flows on it: nothing, or the amount of its one item
one_carried : (priced : Priced) (item : FlowItem) (items : List FlowItem) (same : Bool) → is_same_name (name_of priced) item.name ≡ same → AllByRecursion (λ name. item.name ≢ name) (map item_name items)
    → (name_of priced ≡ item.name → CanCarry priced item.amount) → CanCarry priced (amount_on (name_of priced) items)
    → CanCarry priced (total (map (λ item. item.amount) (cond same (item ∷ bearing item_name (name_of priced) items) (bearing item_name (name_of priced) items))))
one_carried priced item items false e apart own rest = rest
one_carried priced item items true e apart own rest =
    let bears = name_from_same (name_of priced) item.name e in
    let others = subst (λ name. AllByRecursion (λ other. name ≢ item_name other) items) (sym bears) (all_from_map (λ name. item.name ≢ name) item_name items apart) in
    let amount : item.amount ≡ total (map (λ item. item.amount) (item ∷ bearing item_name (name_of priced) items)) = omega (arith, ints, amount_none (name_of priced) items others) in
    subst (CanCarry priced) amount (own bears)

bound_carried : (priced : Priced) (items : List FlowItem) → Distinct (map item_name items) → AllByRecursion (λ item. name_of priced ≡ item.name → CanCarry priced item.amount) items → CanCarry priced (amount_on (name_of priced) items)
bound_carried priced [] distinct all = (omega (arith, ints), λ some. omega (arith, ints))
bound_carried priced (item ∷ items) distinct all =
    one_carried priced item items (is_same_name (name_of priced) item.name) refl distinct.0 all.0 (bound_carried priced items distinct.1 all.1)

from_items : (bounds : List Priced) (items : List FlowItem) → Distinct (map item_name items) → AllByRecursion (IsCarried bounds) items → AreCarried bounds (amounts_of items bounds)
from_items bounds items distinct all =
    zip_of_all CanCarry (λ priced. amount_on (name_of priced) items) bounds
    (all_members (λ priced. CanCarry priced (amount_on (name_of priced) items)) bounds
    (λ priced h. bound_carried priced items distinct (all_weaker (IsCarried bounds) (λ item. name_of priced ≡ item.name → CanCarry priced item.amount) (λ item carried. carried priced h) items all)))

-- the items of distinct names tell their own amounts
told : (items : List FlowItem) (item : FlowItem) → Distinct (map item_name items) → Contains items item → amount_on item.name items ≡ item.amount
told items item distinct h = ap (λ (is : List FlowItem). total (map (λ item. item.amount) is)) (one_bearing item_name items item distinct h) ∙ omega (arith, ints)

to_items : (bounds : List Priced) (items : List FlowItem) → Distinct (map item_name items) → AreCarried bounds (amounts_of items bounds) → AllByRecursion (IsCarried bounds) items
to_items bounds items distinct all =
    all_members (IsCarried bounds) items (λ item here priced h e.
    subst (CanCarry priced) (ap (λ name. amount_on name items) e ∙ told items item distinct here)
    (all_at (λ priced. CanCarry priced (amount_on (name_of priced) items)) bounds priced (all_of_zip CanCarry (λ priced. amount_on (name_of priced) items) bounds all) h))

pub within : ItemsWithinPrices
within bounds items distinct over = (
  λ all. carried_zip bounds items distinct over.named (to_items bounds items over.distinct all),
  λ all. from_items bounds items over.distinct (zip_carried bounds items distinct over.named all),
)
