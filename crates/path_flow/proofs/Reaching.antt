-- The nodes that a search has reached, and their labels.
use Rattle.std.proofs.Common.{◌≡◌, ◌≢◌, ℕ, zero, suc, ◌+◌, ◌<◌, ◌≤◌, Bool, true, false, ℤ, ◌≤ℤ◌, ◌<ℤ◌, List, [], ◌∷◌, ◌++◌, Option, None, Some, IfSome, if◌then◌else◌, length, get_or, set, take, replicate, refl, sym, ap, ◌∙◌, subst, ⊎_elim, arith, get_or-set_same, get_or-set_other, length-append}
use Rattle.std.specs.Prelude.{int_lt, is_some, Contains}
use Rattle.std.specs.List.{AllByRecursion}
use Rattle.std.proofs.lemmas.Int.{ints}
use Rattle.std.proofs.lemmas.Bool.{cases_eq}
use Rattle.std.proofs.lemmas.List.{length-set, length-take-le, take_more_set, get_or-replicate, length-replicate, ext_get_or, get_or_append_left}
use Rattle.words.specs.Lists.{Distinct}
use Rattle.words.proofs.Lists.{all_push, all_weaker, contains_first, contains_later, contains_cases, contains_none, distinct_push}
use Rattle.path_flow.specs.declared.search.Label.{Label}
use Rattle.path_flow.specs.Search.{label_at}
use Rattle.path_flow.specs.Reach.{HasDistance, IsReach, Reach, is_better, lowered}
use Rattle.path_flow.proofs.Pigeonhole.{few_distinct}

-- ---- one node more

apart_from : (xs : List ℕ) (x : ℕ) → (Contains xs x → ⊥) → AllByRecursion (λ y. x ≢ y) xs
apart_from [] x none = tt
apart_from (y ∷ ys) x none = ((λ e. none (subst (λ z. Contains (z ∷ ys) x) e (contains_first x ys))), apart_from ys x (λ there. none (contains_later y ys x there)))

distinct_more : (count long : ℕ) (reach : Reach) (node : ℕ) → IsReach count long reach → label_at reach.labels node ≡ None → Distinct (reach.reached ++ node ∷ [])
distinct_more count long reach node is none = distinct_push reach.reached node (apart_from reach.reached node (is.fresh node none)) is.distinct

-- where a node has no label there is room for it
pub room_for : (count long : ℕ) (reach : Reach) (items : List ℕ) (node : ℕ) → IsReach count long reach → reach.reached ≡ take count items → length items ≡ long → node < length reach.labels → label_at reach.labels node ≡ None → count < long
room_for count long reach items node is front size below none =
    let more = few_distinct (reach.reached ++ node ∷ []) (length reach.labels) (all_push (λ x. x < length reach.labels) reach.reached node is.nodes below) (distinct_more count long reach node is none) in
    let counted : length reach.reached ≡ count = ap (λ (l : List ℕ). length l) front ∙ length-take-le count items (omega (arith, size, is.within)) in
    omega (arith, more, counted, is.room, length-append reach.reached (node ∷ []))

contains_before : (xs : List ℕ) (y x : ℕ) → Contains xs x → Contains (xs ++ y ∷ []) x
contains_before xs y x has = (has.0, omega (arith, has.1, length-append xs (y ∷ [])), get_or_append_left xs (y ∷ []) x has.0 has.1 ∙ has.2)

contains_last : (xs : List ℕ) (y : ℕ) → Contains (xs ++ y ∷ []) y
contains_last [] y = contains_first y []
contains_last (x ∷ xs) y = contains_later x (xs ++ y ∷ []) y (contains_last xs y)

contains_push : (xs : List ℕ) (y x : ℕ) → x ≢ y → Contains (xs ++ y ∷ []) x → Contains xs x
contains_push [] y x apart has = ⊎_elim (λ e. absurd (apart (sym e))) (λ none. absurd (contains_none x none)) (contains_cases y [] x has)
contains_push (z ∷ xs) y x apart has = ⊎_elim
    (λ (e : z ≡ x). subst (λ w. Contains (w ∷ xs) x) (sym e) (contains_first x xs))
    (λ later. contains_later z xs x (contains_push xs y x apart later))
    (contains_cases z (xs ++ y ∷ []) x has)

labelled_set : (labels : List (Option Label)) (more old : List ℕ) (node : ℕ) (label : Label) → node < length labels → Contains more node → ((x : ℕ) → Contains old x → Contains more x)
    → ((x : ℕ) → IfSome (label_at labels x) (λ l. Contains old x)) → (x : ℕ) → IfSome (label_at (set labels node (Some label)) x) (λ l. Contains more x)
labelled_set labels more old node label below here kept before x = ⊎_elim
    (λ (e : x ≡ node).
    let is : label_at (set labels node (Some label)) x ≡ Some label = ap (label_at (set labels node (Some label))) e ∙ get_or-set_same labels node (Some label) None below in
    subst (λ (option : Option Label). IfSome option (λ l. Contains more x)) (sym is) (subst (Contains more) (sym e) here))
    (λ (apart : x ≢ node).
    let is : label_at (set labels node (Some label)) x ≡ label_at labels x = get_or-set_other labels node x (Some label) None apart in
    let weaker : (option : Option Label) → IfSome option (λ l. Contains old x) → IfSome option (λ l. Contains more x) =
    λ (option : Option Label). elim option as (λ (o : Option Label). IfSome o (λ l. Contains old x) → IfSome o (λ l. Contains more x)) [ None ↦ λ h. tt | Some l ↦ λ h. kept x h ] in
    subst (λ (option : Option Label). IfSome option (λ l. Contains more x)) (sym is) (weaker (label_at labels x) (before x)))
    (cases_eq x node)

label_elsewhere : (labels : List (Option Label)) (node x : ℕ) (label : Label) → node < length labels → label_at (set labels node (Some label)) x ≡ None → (x ≢ node) × (label_at labels x ≡ None)
label_elsewhere labels node x label below none =
    let apart : x ≢ node = λ e.
    let here : label_at (set labels node (Some label)) x ≡ Some label = ap (label_at (set labels node (Some label))) e ∙ get_or-set_same labels node (Some label) None below in
    absurd (let both = sym here ∙ none in cc) in
    (apart, sym (get_or-set_other labels node x (Some label) None apart) ∙ none)

all_below : (xs : List ℕ) (m n : ℕ) → n ≡ m → AllByRecursion (λ x. x < m) xs → AllByRecursion (λ x. x < n) xs
all_below xs m n same below = all_weaker (λ x. x < m) (λ x. x < n) (λ x less. omega (arith, less, same)) xs below

-- a node is reached for the first time
pub reach_more : (count : ℕ) (labels : List (Option Label)) (keys new_keys : List (Option ℤ)) (items : List ℕ) (node : ℕ) (label : Label)
    → IsReach count (length items) (record { labels = labels; keys = keys; reached = take count items }) → node < length labels → label_at labels node ≡ None → length new_keys ≡ length labels
    → IsReach (count + 1) (length (set items count node)) (record { labels = set labels node (Some label); keys = new_keys; reached = take (count + 1) (set items count node) })
reach_more count labels keys new_keys items node label is below none same =
    let old : Reach = record { labels = labels; keys = keys; reached = take count items } in
    let room = room_for count (length items) old items node is refl refl below none in
    let longer = length-set items count node in
    let labels_long = length-set labels node (Some label) in
    let front : take (count + 1) (set items count node) ≡ take count items ++ node ∷ [] = take_more_set items count node room in
    subst (λ (reached : List ℕ). IsReach (count + 1) (length (set items count node)) (record { labels = set labels node (Some label); keys = new_keys; reached = reached })) (sym front) (record {
      keyed = omega (arith, same, labels_long);
      room = omega (arith, longer, labels_long, is.room);
      few = omega (arith, labels_long, is.few);
      within = omega (arith, longer, room);
      nodes = all_below (take count items ++ node ∷ []) (length labels) (length (set labels node (Some label))) labels_long (all_push (λ x. x < length labels) (take count items) node is.nodes below);
      distinct = distinct_more count (length items) old node is none;
      labelled = labelled_set labels (take count items ++ node ∷ []) (take count items) node label below (contains_last (take count items) node) (λ x has. contains_before (take count items) node x has) is.labelled;
      fresh = λ x empty has.
          let elsewhere = label_elsewhere labels node x label below empty in
          is.fresh x elsewhere.1 (contains_push (take count items) node x elsewhere.0 has);
    })

labelled_in : (option : Option Label) (before : Label) (P : Type 0) → option ≡ Some before → IfSome option (λ l. P) → P
labelled_in option before P is has = subst (λ (o : Option Label). IfSome o (λ l. P)) is has

-- a node is reached again
pub reach_again : (count : ℕ) (labels : List (Option Label)) (keys new_keys : List (Option ℤ)) (items : List ℕ) (node : ℕ) (label before : Label)
    → IsReach count (length items) (record { labels = labels; keys = keys; reached = take count items }) → node < length labels → label_at labels node ≡ Some before → length new_keys ≡ length labels
    → IsReach count (length items) (record { labels = set labels node (Some label); keys = new_keys; reached = take count items })
reach_again count labels keys new_keys items node label before is below some same =
    let labels_long = length-set labels node (Some label) in
    record {
      keyed = omega (arith, same, labels_long);
      room = omega (arith, labels_long, is.room);
      few = omega (arith, labels_long, is.few);
      within = is.within;
      nodes = all_below (take count items) (length labels) (length (set labels node (Some label))) labels_long is.nodes;
      distinct = is.distinct;
      labelled = labelled_set labels (take count items) (take count items) node label below (labelled_in (label_at labels node) before (Contains (take count items) node) some (is.labelled node)) (λ x has. has) is.labelled;
      fresh = λ x empty has. is.fresh x (label_elsewhere labels node x label below empty).1 has;
    }

-- ---- what `lower` makes

pub lowered_first : (reach : Reach) (node : ℕ) (label : Label) → label_at reach.labels node ≡ None
    → lowered reach node label ≡ record { labels = set reach.labels node (Some label); keys = set reach.keys node (Some label.distance); reached = reach.reached ++ node ∷ [] }
lowered_first reach node label none =
    let is : Option Label → Type 0 = λ option.
    (if is_better label option then record {
      labels = set reach.labels node (Some label);
      keys = set reach.keys node (Some label.distance);
      reached = if is_some option then reach.reached else (reach.reached ++ node ∷ []);
    } else reach) ≡ record { labels = set reach.labels node (Some label); keys = set reach.keys node (Some label.distance); reached = reach.reached ++ node ∷ [] } in
    subst is (sym none) refl

pub lowered_again : (reach : Reach) (node : ℕ) (label before : Label) → label_at reach.labels node ≡ Some before → is_better label (label_at reach.labels node) ≡ true
    → lowered reach node label ≡ record { labels = set reach.labels node (Some label); keys = set reach.keys node (Some label.distance); reached = reach.reached }
lowered_again reach node label before some better =
    let new : Reach = record { labels = set reach.labels node (Some label); keys = set reach.keys node (Some label.distance); reached = reach.reached } in
    let is : Option Label → Bool → Type 0 = λ option test.
    (if test then record {
      labels = set reach.labels node (Some label);
      keys = set reach.keys node (Some label.distance);
      reached = if is_some option then reach.reached else (reach.reached ++ node ∷ []);
    } else reach) ≡ new in
    subst (λ (test : Bool). is (label_at reach.labels node) test) (sym better) (subst (λ (option : Option Label). is option true) (sym some) refl)

pub lowered_not : (reach : Reach) (node : ℕ) (label : Label) → is_better label (label_at reach.labels node) ≡ false → lowered reach node label ≡ reach
lowered_not reach node label worse =
    let new : Reach = record {
      labels = set reach.labels node (Some label);
      keys = set reach.keys node (Some label.distance);
      reached = if is_some (label_at reach.labels node) then reach.reached else (reach.reached ++ node ∷ []);
    } in
    ap (λ (test : Bool). if test then new else reach) worse

-- what is read of a list does not depend on what stands for elements that are not there
pub read_is : (labels : List (Option Label)) (node : ℕ) (read : Option Label) → node < length labels → read ≡ get_or labels node read → label_at labels node ≡ read
read_is [] node read below is = absurd (omega arith)
read_is (l ∷ labels) zero read below is = sym is
read_is (l ∷ labels) (suc node) read below is = read_is labels node read (omega (arith, below)) is

pub lower_by_test : (a b : ℤ) → int_lt a b ≡ true → a <ℤ b
lower_by_test a b test = grind (arith, ints)

pub not_lower_by_test : (a b : ℤ) → int_lt a b ≡ false → b ≤ℤ a
not_lower_by_test a b test = grind (arith, ints)

-- a better label has a lower key
pub key_falls : (key : Option ℤ) (option : Option Label) (label : Label) (written : ℤ) → written ≡ label.distance → is_better label option ≡ true → IfSome key (HasDistance option) → IfSome key (λ before. written ≤ℤ before)
key_falls None option label written same better keyed = tt
key_falls (Some key) None label written same better keyed = absurd keyed
key_falls (Some key) (Some before) label written same better keyed =
    let lower = lower_by_test label.distance before.distance better in
    omega (arith, ints, same, lower, keyed)

pub none_of : (option : Option Label) → is_some option ≡ false → option ≡ None
none_of None none = refl
none_of (Some label) none = absurd cc

pub some_of : (option : Option Label) → is_some option ≡ true → (label : Label) × (option ≡ Some label)
some_of None some = absurd cc
some_of (Some label) some = (label, refl)

-- ---- labels taken back

-- of the labels that are left each belongs to one of the nodes that are left
pub record AreLeft (labels : List (Option Label)) (reached : List ℕ) (done : ℕ) : Type 0 where
  pub left : (x : ℕ) → IfSome (label_at labels x) (λ l. (k : ℕ) × (done ≤ k) × (k < length reached) × (get_or reached k 0 ≡ x))

left_set : (labels : List (Option Label)) (reached : List ℕ) (done node x : ℕ) → node ≡ get_or reached done 0
    → IfSome (label_at labels x) (λ l. (k : ℕ) × (done ≤ k) × (k < length reached) × (get_or reached k 0 ≡ x)) → x ≢ node
    → IfSome (label_at labels x) (λ l. (k : ℕ) × (suc done ≤ k) × (k < length reached) × (get_or reached k 0 ≡ x))
left_set labels reached done node x node_is before apart =
    let step : (option : Option Label) → IfSome option (λ l. (k : ℕ) × (done ≤ k) × (k < length reached) × (get_or reached k 0 ≡ x)) → IfSome option (λ l. (k : ℕ) × (suc done ≤ k) × (k < length reached) × (get_or reached k 0 ≡ x)) =
    λ (option : Option Label). elim option as (λ (o : Option Label). IfSome o (λ l. (k : ℕ) × (done ≤ k) × (k < length reached) × (get_or reached k 0 ≡ x)) → IfSome o (λ l. (k : ℕ) × (suc done ≤ k) × (k < length reached) × (get_or reached k 0 ≡ x))) [
      | None ↦ λ h. tt
      | Some l ↦ λ h. (h.0, (let other : h.0 ≢ done = λ e. apart (sym (h.3) ∙ ap (λ k. get_or reached k 0) e ∙ sym node_is) in omega (arith, other, h.1)), h.2, h.3)
    ] in
    step (label_at labels x) before

pub one_taken : (labels : List (Option Label)) (reached : List ℕ) (done node : ℕ) → node < length labels → node ≡ get_or reached done 0 → AreLeft labels reached done → AreLeft (set labels node None) reached (suc done)
one_taken labels reached done node below node_is left = record {
  left = λ x. ⊎_elim
      (λ (e : x ≡ node).
      subst (λ (option : Option Label). IfSome option (λ l. (k : ℕ) × (suc done ≤ k) × (k < length reached) × (get_or reached k 0 ≡ x)))
      (sym (ap (label_at (set labels node None)) e ∙ get_or-set_same labels node None None below)) tt)
      (λ (apart : x ≢ node).
      subst (λ (option : Option Label). IfSome option (λ l. (k : ℕ) × (suc done ≤ k) × (k < length reached) × (get_or reached k 0 ≡ x)))
      (sym (get_or-set_other labels node x None None apart)) (left_set labels reached done node x node_is (left.left x) apart))
      (cases_eq x node);
}

none_left : (option : Option Label) (P : Type 0) → (P → ⊥) → IfSome option (λ l. P) → option ≡ None
none_left None P not has = refl
none_left (Some l) P not has = absurd (not has)

pub all_taken : (labels : List (Option Label)) (reached : List ℕ) (done : ℕ) → length reached ≤ done → AreLeft labels reached done → labels ≡ replicate (length labels) None
all_taken labels reached done all left =
    ext_get_or None labels (replicate (length labels) None) (sym (length-replicate (length labels) None))
    (λ i below. none_left (label_at labels i) ((k : ℕ) × (done ≤ k) × (k < length reached) × (get_or reached k 0 ≡ i)) (λ has. omega (arith, has.1, has.2, all)) (left.left i)
    ∙ sym (get_or-replicate (length labels) i None None below))

get_or_any : (xs : List ℕ) (k x : ℕ) → k < length xs → get_or xs k x ≡ x → get_or xs k 0 ≡ x
get_or_any [] k x below is = absurd (omega arith)
get_or_any (y ∷ xs) zero x below is = is
get_or_any (y ∷ xs) (suc k) x below is = get_or_any xs k x (omega (arith, below)) is

pub all_left : (labels : List (Option Label)) (reached : List ℕ) → ((x : ℕ) → IfSome (label_at labels x) (λ l. Contains reached x)) → AreLeft labels reached 0
all_left labels reached labelled = record {
  left = λ x.
      let step : (option : Option Label) → IfSome option (λ l. Contains reached x) → IfSome option (λ l. (k : ℕ) × (0 ≤ k) × (k < length reached) × (get_or reached k 0 ≡ x)) =
      λ (option : Option Label). elim option as (λ (o : Option Label). IfSome o (λ l. Contains reached x) → IfSome o (λ l. (k : ℕ) × (0 ≤ k) × (k < length reached) × (get_or reached k 0 ≡ x)))
      [ None ↦ λ h. tt | Some l ↦ λ h. (h.0, omega arith, h.1, get_or_any reached h.0 x h.1 h.2) ] in
      step (label_at labels x) (labelled x);
}
