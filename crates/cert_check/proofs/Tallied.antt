-- What flow lines add up to, each at the bound that it names.
use Rattle.std.proofs.Common.{◌≡◌, ℕ, zero, suc, ◌+◌, ◌*◌, ◌^◌, ◌<◌, ◌≤◌, ℤ, pos, negsuc, ◌+ℤ◌, ◌*ℤ◌, List, [], ◌∷◌, length, map, drop, get_or, replicate, refl, sym, ap, ◌∙◌, subst, arith}
use Rattle.std.specs.Prelude.{unsigned_abs}
use Rattle.std.specs.List.{AllByRecursion}
use Rattle.std.proofs.lemmas.Int.{ints}
use Rattle.std.proofs.lemmas.List.{drop_all, drop_more}
use Rattle.words.specs.Lists.{inner_product}
use Rattle.words.proofs.Products.{size_of_product}
use Rattle.screen_model.specs.declared.bound.Bound.{Bound}
use Rattle.screen_model.specs.declared.bound.FlowItem.{FlowItem}
use Rattle.screen_model.specs.declared.place.Place.{Place}
use Rattle.screen_model.specs.Flow.{pull, unit_pull}
use Rattle.screen_model.specs.Names.{AreNamesIn, SumsOverItems, amounts_of, bounds_named}
use Rattle.screen_model.specs.Obeys.{Priced}
use Rattle.rule_file.specs.declared.rules.Rules.{Rules}
use Rattle.series_csv.specs.File.{TableView}
use Rattle.bound_maker.specs.Costs.{whole_problem}
use Rattle.bound_maker.specs.Laws.{NamesAreDistinct}
use Rattle.cert_format.specs.Line.{IsAmount, IsItem}
use Rattle.cert_check.specs.Tally.{AreWithin, added_by}
use Rattle.cert_check.proofs.Added.{by_small, more_within}
use Rattle.cert_check.proofs.Placed.{both}
use Rattle.cert_check.proofs.Steps.{IsNamedBy, named_next, names_apart, with_price}

-- the amounts of items, each times what its bound is worth
abbrev pub worth_of : (Priced → ℤ) → List Priced → List FlowItem → ℤ
worth_of worth bounds items = inner_product (map (λ (item : FlowItem). item.amount) items) (map worth (bounds_named (map (λ (item : FlowItem). item.name) items) bounds))

abbrev pub limit_worth : Priced → ℤ
limit_worth p = p.bound.limit

abbrev pub pull_worth : Place → Priced → ℤ
pull_worth place p = unit_pull place p.bound

-- pulls, with what further items pull
abbrev pub pulls_with : List Priced → List FlowItem → List Place → List ℤ → List ℤ
pulls_with bounds items (place ∷ places) (pull ∷ pulls) = (pull +ℤ worth_of (pull_worth place) bounds items) ∷ pulls_with bounds items places pulls
pulls_with bounds items [] pulls = []
pulls_with bounds items (place ∷ places) [] = []

pulls_alone : (bounds : List Priced) (places : List Place) (pulls : List ℤ) → length pulls ≡ length places → pulls_with bounds [] places pulls ≡ pulls
pulls_alone bounds [] [] long = refl
pulls_alone bounds [] (pull ∷ pulls) long = absurd (omega (arith, long))
pulls_alone bounds (place ∷ places) [] long = absurd (omega (arith, long))
pulls_alone bounds (place ∷ places) (pull ∷ pulls) long =
    both (pull +ℤ worth_of (pull_worth place) bounds []) pull (pulls_with bounds [] places pulls) pulls (omega (arith, ints)) (pulls_alone bounds places pulls (omega (arith, long)))

pub pulls_first : (bounds : List Priced) (items : List FlowItem) (places : List Place) → pulls_with bounds items places (replicate (length places) (pos 0)) ≡ map (λ (place : Place). worth_of (pull_worth place) bounds items) places
pulls_first bounds items [] = refl
pulls_first bounds items (place ∷ places) =
    both (pos 0 +ℤ worth_of (pull_worth place) bounds items) (worth_of (pull_worth place) bounds items) (pulls_with bounds items places (replicate (length places) (pos 0))) (map (λ (p : Place). worth_of (pull_worth p) bounds items) places)
    (omega (arith, ints)) (pulls_first bounds items places)

-- ---- sizes

pub each_at : {A : Type 0} (P : A → Type 0) (xs : List A) (i : ℕ) (d : A) → AllByRecursion P xs → i < length xs → P (get_or xs i d)
each_at P [] i d all h = absurd (omega (arith, h))
each_at P (x ∷ xs) zero d all h = all.0
each_at P (x ∷ xs) (suc i) d all h = each_at P xs i d all.1 (omega (arith, h))

pub none_within : (n : ℕ) → AreWithin 0 (replicate n (pos 0))
none_within zero = tt
none_within (suc n) = (omega arith, none_within n)

amount_size : (amount : ℤ) → IsAmount amount → unsigned_abs amount ≤ 10 ^ 15
amount_size (pos n) is = omega (arith, ints, is.1)
amount_size (negsuc n) is = absurd (omega (arith, ints, is.0))

pub amount_within : (item : FlowItem) → IsItem item → unsigned_abs item.amount ≤ 10 ^ 15
amount_within item is = amount_size item.amount is.1

pub pulls_within : (places : List Place) (pulls new : List ℤ) (bound : Bound) (amount : ℤ) (i : ℕ) → AreWithin (i * (2 * 10 ^ 15)) pulls → unsigned_abs amount ≤ 10 ^ 15 → new ≡ added_by places pulls bound amount
    → AreWithin ((i + 1) * (2 * 10 ^ 15)) new
pulls_within places pulls new bound amount i small few is =
    more_within (i * (2 * 10 ^ 15) + 2 * 10 ^ 15) ((i + 1) * (2 * 10 ^ 15)) new (omega arith)
    (subst (λ (ps : List ℤ). AreWithin (i * (2 * 10 ^ 15) + 2 * 10 ^ 15) ps) (sym is) (by_small places pulls bound amount (i * (2 * 10 ^ 15)) (10 ^ 15) small few))

pub limits_within : (sum amount limit new : ℤ) (i : ℕ) → new ≡ sum +ℤ (amount *ℤ limit) → unsigned_abs amount ≤ 10 ^ 15 → unsigned_abs limit ≤ 4 * 10 ^ 15 → unsigned_abs sum ≤ i * (4 * 10 ^ 30)
    → unsigned_abs new ≤ (i + 1) * (4 * 10 ^ 30)
limits_within sum amount limit new i is few most small =
    let product : unsigned_abs (amount *ℤ limit) ≤ 4 * 10 ^ 30 = omega (arith, size_of_product amount limit (10 ^ 15) (4 * 10 ^ 15) few most) in
    omega (arith, ints, is, product, small)

module _ (rules : Rules) (table : TableView) (distinct : NamesAreDistinct rules table) where
  abbrev bounds : List Priced
  bounds = (whole_problem rules table).bounds

  worth_next : (worth : Priced → ℤ) (item : FlowItem) (items : List FlowItem) (bound : Bound) → IsNamedBy rules table item.name bound
      → worth_of worth bounds (item ∷ items) ≡ (item.amount *ℤ worth (with_price rules bound)) +ℤ worth_of worth bounds items
  worth_next worth item items bound named =
      ap (λ (ps : List Priced). inner_product (item.amount ∷ map (λ (i : FlowItem). i.amount) items) (map worth ps))
      (named_next rules table item.name bound (map (λ (i : FlowItem). i.name) items) distinct named)

  pulls_next : (item : FlowItem) (items : List FlowItem) (bound : Bound) (places : List Place) (pulls : List ℤ) → IsNamedBy rules table item.name bound
      → pulls_with bounds items places (added_by places pulls bound item.amount) ≡ pulls_with bounds (item ∷ items) places pulls
  pulls_next item items bound [] pulls named = refl
  pulls_next item items bound (place ∷ places) [] named = refl
  pulls_next item items bound (place ∷ places) (pull ∷ pulls) named =
      both ((pull +ℤ (item.amount *ℤ unit_pull place bound)) +ℤ worth_of (pull_worth place) bounds items) (pull +ℤ worth_of (pull_worth place) bounds (item ∷ items))
      (pulls_with bounds items places (added_by places pulls bound item.amount)) (pulls_with bounds (item ∷ items) places pulls)
      (omega (arith, ints, worth_next (pull_worth place) item items bound named))
      (pulls_next item items bound places pulls named)

  pub pulls_step : (items : List FlowItem) (i : ℕ) (d : FlowItem) (bound : Bound) (amount : ℤ) (places : List Place) (pulls new : List ℤ) → i < length items → IsNamedBy rules table (get_or items i d).name bound
      → amount ≡ (get_or items i d).amount → new ≡ added_by places pulls bound amount
      → pulls_with bounds (drop (i + 1) items) places new ≡ pulls_with bounds (drop i items) places pulls
  pulls_step items i d bound amount places pulls new h named amount_is is =
      ap (pulls_with bounds (drop (i + 1) items) places) (is ∙ ap (added_by places pulls bound) amount_is)
      ∙ (pulls_next (get_or items i d) (drop (i + 1) items) bound places pulls named
      ∙ ap (λ (rest : List FlowItem). pulls_with bounds rest places pulls) (sym (drop_more items i d h)))

  pub limits_step : (items : List FlowItem) (i : ℕ) (d : FlowItem) (bound : Bound) (amount limit sum new : ℤ) → i < length items → IsNamedBy rules table (get_or items i d).name bound
      → amount ≡ (get_or items i d).amount → limit ≡ bound.limit → new ≡ sum +ℤ (amount *ℤ limit)
      → (sum +ℤ worth_of limit_worth bounds (drop i items)) ≡ worth_of limit_worth bounds items
      → (new +ℤ worth_of limit_worth bounds (drop (i + 1) items)) ≡ worth_of limit_worth bounds items
  limits_step items i d bound amount limit sum new h named amount_is limit_is is before =
      let next = worth_next limit_worth (get_or items i d) (drop (i + 1) items) bound named in
      let here = ap (worth_of limit_worth bounds) (drop_more items i d h) in
      let product : amount *ℤ limit ≡ (get_or items i d).amount *ℤ bound.limit = ap (λ z. z *ℤ limit) amount_is ∙ ap (λ z. (get_or items i d).amount *ℤ z) limit_is in
      omega (arith, ints, next, here, is, product, before)

  pub pulls_end : (items : List FlowItem) (i : ℕ) (places : List Place) (pulls : List ℤ) → length items ≤ i → length pulls ≡ length places → pulls_with bounds (drop i items) places pulls ≡ pulls
  pulls_end items i places pulls h long = ap (λ (rest : List FlowItem). pulls_with bounds rest places pulls) (drop_all i items h) ∙ pulls_alone bounds places pulls long

  -- ---- by the flow that the items tell

  pub pulls_told : SumsOverItems → (items : List FlowItem) → AreNamesIn bounds (map (λ (item : FlowItem). item.name) items) → (places : List Place)
      → map (pull bounds (amounts_of items bounds)) places ≡ map (λ (place : Place). worth_of (pull_worth place) bounds items) places
  pulls_told sums items named [] = refl
  pulls_told sums items named (place ∷ places) =
      both (pull bounds (amounts_of items bounds) place) (worth_of (pull_worth place) bounds items) (map (pull bounds (amounts_of items bounds)) places) (map (λ (p : Place). worth_of (pull_worth p) bounds items) places)
      (sums bounds items (pull_worth place) (names_apart rules table distinct) named)
      (pulls_told sums items named places)

  pub limits_end : SumsOverItems → (items : List FlowItem) (i : ℕ) (sum : ℤ) → length items ≤ i → AreNamesIn bounds (map (λ (item : FlowItem). item.name) items)
      → (sum +ℤ worth_of limit_worth bounds (drop i items)) ≡ worth_of limit_worth bounds items
      → sum ≡ inner_product (amounts_of items bounds) (map limit_worth bounds)
  limits_end sums items i sum h named before =
      let told = sums bounds items limit_worth (names_apart rules table distinct) named in
      let rest = ap (worth_of limit_worth bounds) (drop_all i items h) in
      omega (arith, ints, told, rest, before)
