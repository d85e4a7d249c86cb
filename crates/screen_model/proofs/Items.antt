-- Flows that are told by items: over a part of the bounds, what the items tell, and what they add up to.
use Rattle.std.proofs.Common.{◌≡◌, ◌≢◌, zero, suc, Bool, true, false, cond, if◌then◌else◌, ◌⊎◌, inl, inr, ℤ, pos, negsuc, ◌+ℤ◌, ◌*ℤ◌, ◌≤ℤ◌, List, [], ◌∷◌, ◌++◌, length, map, refl, sym, ap, ◌∙◌, subst, arith}
use Rattle.std.specs.Prelude.{Contains}
use Rattle.std.specs.List.{AllByRecursion, AllZip}
use Rattle.std.proofs.lemmas.Int.{ints}
use Rattle.std.proofs.lemmas.List.Elements.{All-weaker, All-contains_itself, recursion_from_All}
use Rattle.screen_model.specs.declared.bound.BoundName.{BoundName}
use Rattle.screen_model.specs.declared.bound.FlowItem.{FlowItem}
use Rattle.words.specs.Lists.{Distinct, IsPart, none, kept, left_out, total, inner_product}
use Rattle.std.proofs.Math.IntN.{zero-*ℤ}
use Rattle.words.proofs.Products.{sum_mul}
use Rattle.words.proofs.Lists.{all_weaker, all_zip_long, all_at, all_from_map, contains_cases, contains_none}
use Rattle.words.proofs.Parts.{part_none, part_all, part_distinct, part_contains}
use Rattle.screen_model.specs.Obeys.{Priced}
use Rattle.screen_model.specs.Names.{is_same_name, names_of, bounds_named, amount_on, amounts_of, with_item, items_of, ItemsTellFlows, SumsOverItems}
use Rattle.screen_model.specs.Parts.{IsExtended, no_bounds, same_amount, no_amount, ItemsOverParts}
use Rattle.screen_model.proofs.Names.{same_name, other_name, bearing, bearing_passes, bearing_skips, bearing_none, name_of, not_left_out, still_named}

-- ---- items over a part

abbrev item_name : FlowItem → BoundName
item_name item = item.name

-- nothing flows on a bound that no item names
pub amount_none : (name : BoundName) (items : List FlowItem) → AllByRecursion (λ item. name ≢ item.name) items → amount_on name items ≡ pos 0
amount_none name items others = ap (λ (is : List FlowItem). total (map (λ item. item.amount) is)) (bearing_none item_name name items others)

-- an item names a bound of the part, or none of the bounds
abbrev IsSettled : List Priced → List Priced → FlowItem → Type 0
IsSettled part bounds item = AllByRecursion (λ name. item.name ≢ name) (names_of bounds) ⊎ Contains (names_of part) item.name

settled_cases : (first : Priced) (part bounds : List Priced) → AllByRecursion (λ name. name_of first ≢ name) (names_of bounds) → (item : FlowItem) → (name_of first ≡ item.name) ⊎ Contains (names_of part) item.name → IsSettled part bounds item
settled_cases first part bounds apart item (inl e) = inl (subst (λ n. AllByRecursion (λ name. n ≢ name) (names_of bounds)) e apart)
settled_cases first part bounds apart item (inr later) = inr later

settled_kept : (first : Priced) (part bounds : List Priced) → AllByRecursion (λ name. name_of first ≢ name) (names_of bounds) → (item : FlowItem) → IsSettled (first ∷ part) (first ∷ bounds) item → IsSettled part bounds item
settled_kept first part bounds apart item (inl others) = inl others.1
settled_kept first part bounds apart item (inr h) = settled_cases first part bounds apart item (contains_cases (name_of first) (names_of part) item.name h)

settled_left_out : (first : Priced) (part bounds : List Priced) (item : FlowItem) → IsSettled part (first ∷ bounds) item → IsSettled part bounds item
settled_left_out first part bounds item (inl others) = inl others.1
settled_left_out first part bounds item (inr h) = inr h

not_named : (first : Priced) (part bounds : List Priced) → IsPart part bounds → Distinct (names_of (first ∷ bounds)) → (item : FlowItem) → IsSettled part (first ∷ bounds) item → name_of first ≢ item.name
not_named first part bounds is_part distinct item (inl others) = λ e. others.0 (sym e)
not_named first part bounds is_part distinct item (inr h) = not_left_out item.name first is_part distinct h

extended_of : (items : List FlowItem) {part bounds : List Priced} → IsPart part bounds → Distinct (names_of bounds) → AllByRecursion (IsSettled part bounds) items → IsExtended part (amounts_of items part) bounds (amounts_of items bounds)
extended_of items none distinct settled = no_bounds
extended_of items (kept {x = first} {part = part} {whole = bounds} rest) distinct settled =
    same_amount (extended_of items rest distinct.1 (all_weaker (IsSettled (first ∷ part) (first ∷ bounds)) (IsSettled part bounds) (settled_kept first part bounds distinct.0) items settled))
extended_of items (left_out {x = first} {part = part} {whole = bounds} rest) distinct settled =
    let idle : pos 0 ≡ amount_on (name_of first) items = sym (amount_none (name_of first) items (all_weaker (IsSettled part (first ∷ bounds)) (λ item. name_of first ≢ item.name) (not_named first part bounds rest distinct) items settled)) in
    let others = extended_of items rest distinct.1 (all_weaker (IsSettled part (first ∷ bounds)) (IsSettled part bounds) (settled_left_out first part bounds) items settled) in
    subst (λ amount. IsExtended part (amounts_of items part) (first ∷ bounds) (amount ∷ amounts_of items bounds)) idle (no_amount others)

pub over_parts : ItemsOverParts
over_parts part bounds items is_part distinct over = (
  record {
    named = still_named (map item_name items) is_part over.named;
    distinct = over.distinct;
    some = over.some;
  },
  extended_of items is_part distinct (all_weaker (λ item. Contains (names_of part) item.name) (IsSettled part bounds) (λ item h. inr h) items (all_from_map (Contains (names_of part)) item_name items over.named)),
)

-- ---- the items of a flow

with_part : (name : BoundName) (amount : ℤ) (items : List FlowItem) (names : List BoundName) → IsPart (map item_name items) names → IsPart (map item_name (with_item name amount items)) (name ∷ names)
with_part name (pos zero) items names rest = left_out rest
with_part name (pos (suc n)) items names rest = kept rest
with_part name (negsuc n) items names rest = kept rest

-- the items name bounds in the order of the bounds, no bound twice
pub items_part : (bounds : List Priced) (flow : List ℤ) → IsPart (map (λ item. item.name) (items_of bounds flow)) (names_of bounds)
items_part [] flow = none
items_part (priced ∷ bounds) (amount ∷ flow) = with_part (name_of priced) amount (items_of bounds flow) (names_of bounds) (items_part bounds flow)
items_part (priced ∷ bounds) [] = left_out (part_none (names_of bounds))

some_with : (name : BoundName) (amount : ℤ) (items : List FlowItem) → pos 0 ≤ℤ amount → AllByRecursion (λ item. pos 1 ≤ℤ item.amount) items → AllByRecursion (λ item. pos 1 ≤ℤ item.amount) (with_item name amount items)
some_with name (pos zero) items low some = some
some_with name (pos (suc n)) items low some = (omega (arith, ints), some)
some_with name (negsuc n) items low some = absurd (omega (arith, ints))

items_some : (bounds : List Priced) (flow : List ℤ) → AllZip (λ priced amount. pos 0 ≤ℤ amount) bounds flow → AllByRecursion (λ item. pos 1 ≤ℤ item.amount) (items_of bounds flow)
items_some [] flow low = tt
items_some (priced ∷ bounds) (amount ∷ flow) low = some_with (name_of priced) amount (items_of bounds flow) low.0 (items_some bounds flow low.1)
items_some (priced ∷ bounds) [] low = tt

all_named : (names : List BoundName) (all : List BoundName) → IsPart names all → AllByRecursion (Contains all) names
all_named names all is_part = recursion_from_All (Contains all) names (All-weaker (Contains names) (Contains all) (part_contains is_part) names (All-contains_itself names))

-- ---- what the items tell

own_amount : (name : BoundName) (amount : ℤ) (items : List FlowItem) → amount_on name items ≡ pos 0 → amount_on name (with_item name amount items) ≡ amount
own_amount name (pos zero) items nothing = nothing
own_amount name (pos (suc n)) items nothing =
    ap (λ (is : List FlowItem). total (map (λ item. item.amount) is)) (bearing_passes item_name (record { name = name; amount = pos (suc n) }) items)
    ∙ omega (arith, ints, nothing)
own_amount name (negsuc n) items nothing =
    ap (λ (is : List FlowItem). total (map (λ item. item.amount) is)) (bearing_passes item_name (record { name = name; amount = negsuc n }) items)
    ∙ omega (arith, ints, nothing)

other_amount : (name other : BoundName) (amount : ℤ) (items : List FlowItem) → name ≢ other → amount_on name (with_item other amount items) ≡ amount_on name items
other_amount name other (pos zero) items apart = refl
other_amount name other (pos (suc n)) items apart = ap (λ (is : List FlowItem). total (map (λ item. item.amount) is)) (bearing_skips item_name name (record { name = other; amount = pos (suc n) }) items apart)
other_amount name other (negsuc n) items apart = ap (λ (is : List FlowItem). total (map (λ item. item.amount) is)) (bearing_skips item_name name (record { name = other; amount = negsuc n }) items apart)

other_amounts : (name : BoundName) (amount : ℤ) (items : List FlowItem) (bounds : List Priced) → AllByRecursion (λ other. name ≢ other) (names_of bounds) → amounts_of (with_item name amount items) bounds ≡ amounts_of items bounds
other_amounts name amount items [] apart = refl
other_amounts name amount items (priced ∷ bounds) apart =
    let here : amount_on (name_of priced) (with_item name amount items) ≡ amount_on (name_of priced) items = other_amount (name_of priced) name amount items (λ e. apart.0 (sym e)) in
    let rest = other_amounts name amount items bounds apart.1 in
    λ i. here i ∷ rest i

-- where no two bounds share a name, the items of a flow tell that flow
pub items_tell : (bounds : List Priced) (flow : List ℤ) → length flow ≡ length bounds → Distinct (names_of bounds) → amounts_of (items_of bounds flow) bounds ≡ flow
items_tell [] [] long distinct = refl
items_tell [] (amount ∷ flow) long distinct = absurd (omega arith)
items_tell (priced ∷ bounds) [] long distinct = absurd (omega arith)
items_tell (priced ∷ bounds) (amount ∷ flow) long distinct =
    let items = items_of bounds flow in
    let apart = all_from_map (λ name. name_of priced ≢ name) item_name items (part_all (λ name. name_of priced ≢ name) (items_part bounds flow) distinct.0) in
    let own = own_amount (name_of priced) amount items (amount_none (name_of priced) items apart) in
    let rest = other_amounts (name_of priced) amount items bounds distinct.0 ∙ items_tell bounds flow (omega arith) distinct.1 in
    λ i. own i ∷ rest i

pub tell : ItemsTellFlows
tell bounds flow distinct low = (
  record {
    named = all_named (map item_name (items_of bounds flow)) (names_of bounds) (items_part bounds flow);
    distinct = part_distinct (items_part bounds flow) distinct;
    some = items_some bounds flow low;
  },
  items_tell bounds flow (all_zip_long (λ priced amount. pos 0 ≤ℤ amount) bounds flow low) distinct,
)

-- ---- sums over items

-- an amount on the bounds of a name, and 0 on the others
abbrev on_name : BoundName → ℤ → List Priced → List ℤ
on_name name amount bounds = map (λ priced. if is_same_name (name_of priced) name then amount else pos 0) bounds

-- the one bound of a name, and what an amount on it counts for
record OneBound (f : Priced → ℤ) (name : BoundName) (amount : ℤ) (bounds : List Priced) : Type 0 where
  bound : Priced
  alone : bearing name_of name bounds ≡ bound ∷ []
  counts : inner_product (on_name name amount bounds) (map f bounds) ≡ amount *ℤ f bound

on_none : (f : Priced → ℤ) (name : BoundName) (amount : ℤ) (bounds : List Priced) → AllByRecursion (λ priced. name ≢ name_of priced) bounds → inner_product (on_name name amount bounds) (map f bounds) ≡ pos 0
on_none f name amount [] apart = refl
on_none f name amount (priced ∷ bounds) apart =
    let idle : (if is_same_name (name_of priced) name then amount else pos 0) ≡ pos 0 = ap (λ same. if same then amount else pos 0) (other_name (name_of priced) name (λ e. apart.0 (sym e))) in
    omega (arith, ints, ap (λ a. a *ℤ f priced) idle, zero-*ℤ (f priced), on_none f name amount bounds apart.1)

one_bound_cases : (f : Priced → ℤ) (name : BoundName) (amount : ℤ) (first : Priced) (bounds : List Priced) → Distinct (names_of (first ∷ bounds)) → (name_of first ≡ name) ⊎ Contains (names_of bounds) name
    → (Contains (names_of bounds) name → OneBound f name amount bounds) → OneBound f name amount (first ∷ bounds)
one_bound_cases f name amount first bounds distinct (inl e) rest =
    let apart = all_from_map (λ other. name_of first ≢ other) name_of bounds distinct.0 in
    let own : (if is_same_name (name_of first) (name_of first) then amount else pos 0) ≡ amount = ap (λ same. if same then amount else pos 0) (same_name (name_of first)) in
    let one : OneBound f (name_of first) amount (first ∷ bounds) = record {
      bound = first;
      alone = bearing_passes name_of first bounds ∙ ap (λ ps. first ∷ ps) (bearing_none name_of (name_of first) bounds apart);
      counts = omega (arith, ints, ap (λ a. a *ℤ f first) own, on_none f (name_of first) amount bounds apart);
    } in
    subst (λ n. OneBound f n amount (first ∷ bounds)) e one
one_bound_cases f name amount first bounds distinct (inr later) rest =
    let apart : name_of first ≢ name = all_at (λ other. name_of first ≢ other) (names_of bounds) name distinct.0 later in
    let one = rest later in
    let idle : (if is_same_name (name_of first) name then amount else pos 0) ≡ pos 0 = ap (λ same. if same then amount else pos 0) (other_name (name_of first) name apart) in
    record {
      bound = one.bound;
      alone = bearing_skips name_of name first bounds (λ e. apart (sym e)) ∙ one.alone;
      counts = omega (arith, ints, ap (λ a. a *ℤ f first) idle, zero-*ℤ (f first), one.counts);
    }

one_bound : (f : Priced → ℤ) (name : BoundName) (amount : ℤ) (bounds : List Priced) → Distinct (names_of bounds) → Contains (names_of bounds) name → OneBound f name amount bounds
one_bound f name amount [] distinct h = absurd (contains_none name h)
one_bound f name amount (first ∷ bounds) distinct h = one_bound_cases f name amount first bounds distinct (contains_cases (name_of first) (names_of bounds) name h) (one_bound f name amount bounds distinct.1)

added : (item : FlowItem) (items : List FlowItem) (same : Bool) → total (map (λ item. item.amount) (cond same (item ∷ items) items)) ≡ (if same then item.amount else pos 0) +ℤ total (map (λ item. item.amount) items)
added item items true = refl
added item items false = omega (arith, ints)

one_item_more : (f : Priced → ℤ) (item : FlowItem) (items : List FlowItem) (bounds : List Priced)
    → inner_product (amounts_of (item ∷ items) bounds) (map f bounds) ≡ inner_product (on_name item.name item.amount bounds) (map f bounds) +ℤ inner_product (amounts_of items bounds) (map f bounds)
one_item_more f item items [] = refl
one_item_more f item items (priced ∷ bounds) =
    let own : ℤ = if is_same_name (name_of priced) item.name then item.amount else pos 0 in
    let rest = amount_on (name_of priced) items in
    omega (arith, ints, ap (λ a. a *ℤ f priced) (added item (bearing item_name (name_of priced) items) (is_same_name (name_of priced) item.name)), sum_mul own rest (f priced), one_item_more f item items bounds)

no_items : (f : Priced → ℤ) (bounds : List Priced) → inner_product (amounts_of [] bounds) (map f bounds) ≡ pos 0
no_items f [] = refl
no_items f (priced ∷ bounds) = omega (arith, ints, zero-*ℤ (f priced), no_items f bounds)

pub sums : SumsOverItems
sums bounds [] f distinct named = no_items f bounds
sums bounds (item ∷ items) f distinct named =
    let one = one_bound f item.name item.amount bounds distinct named.0 in
    let rest = bounds_named (map item_name items) bounds in
    let counted : inner_product (item.amount ∷ map (λ item. item.amount) items) (map f (bearing name_of item.name bounds ++ rest)) ≡ (item.amount *ℤ f one.bound) +ℤ inner_product (map (λ item. item.amount) items) (map f rest)
    = ap (λ ps. inner_product (item.amount ∷ map (λ item. item.amount) items) (map f (ps ++ rest))) one.alone in
    omega (arith, ints, one_item_more f item items bounds, one.counts, sums bounds items f distinct named.1, counted)
