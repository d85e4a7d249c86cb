-- The arcs of readings: their places among all arcs, and what flows on them.
use Rattle.std.proofs.Common.{◌≡◌, ℕ, zero, suc, ◌+◌, ◌*◌, ◌<◌, ◌≤◌, Bool, true, false, eqb, ℤ, pos, negsuc, ◌+ℤ◌, ◌-ℤ◌, ◌*ℤ◌, ◌≤ℤ◌, ◌<ℤ◌, List, [], ◌∷◌, ◌++◌, length, map, get_or, take, drop, refl, sym, ap, ◌∙◌, arith, add-zero}
use Rattle.std.specs.Prelude.{unsigned_abs}
use Rattle.std.specs.List.{AllZip}
use Rattle.std.proofs.lemmas.Int.{ints, by_lt_z}
use Rattle.std.proofs.lemmas.Bool.{eq-eqb, ne_eqb}
use Rattle.std.proofs.Math.IntN.{*ℤ_comm, *ℤ-zero, *ℤ-one, *ℤ-negsuc}
use Rattle.words.specs.Lists.{inner_product}
use Rattle.words.proofs.Products.{minus_mul, mul_minus, zero_minus_mul, size_within}
use Rattle.bound_graph.specs.declared.arc.Arc.{Arc}
use Rattle.bound_graph.specs.Arcs.{no_arc}
use Rattle.flow_core.specs.Layout.{reading_arcs}
use Rattle.flow_core.specs.State.{IsWithin, one_if, unit_balance, balance}

-- ---- lists

-- an inner product in two parts
pub inner_product-append : (fs xs ys : List ℤ) → inner_product fs (xs ++ ys) ≡ inner_product (take (length xs) fs) xs +ℤ inner_product (drop (length xs) fs) ys
inner_product-append fs [] ys = omega (arith, ints)
inner_product-append [] (x ∷ xs) ys = omega (arith, ints)
inner_product-append (f ∷ fs) (x ∷ xs) ys = omega (arith, ints, inner_product-append fs xs ys)

pub zip_split : {A B : Type 0} (R : A → B → Type 0) (xs ys : List A) (zs : List B) → AllZip R (xs ++ ys) zs → AllZip R xs (take (length xs) zs) × AllZip R ys (drop (length xs) zs)
zip_split R [] ys zs all = (tt, all)
zip_split R (x ∷ xs) ys [] all = absurd all
zip_split R (x ∷ xs) ys (z ∷ zs) all = let rest = zip_split R xs ys zs all.1 in ((all.0, rest.0), rest.1)

pub zip_by_place : {A B : Type 0} (R : A → B → Type 0) (d : A) (e : B) (xs : List A) (ys : List B) → length ys ≡ length xs → ((k : ℕ) → k < length xs → R (get_or xs k d) (get_or ys k e)) → AllZip R xs ys
zip_by_place R d e [] [] long each = tt
zip_by_place R d e [] (y ∷ ys) long each = absurd (omega arith)
zip_by_place R d e (x ∷ xs) [] long each = absurd (omega arith)
zip_by_place R d e (x ∷ xs) (y ∷ ys) long each = (each 0 (omega arith), zip_by_place R d e xs ys (omega arith) (λ k below. each (suc k) (omega arith)))

-- ---- where the arcs of a reading stand

abbrev pub arc_to : ℕ → ℤ → Arc
arc_to node value = record { tail = 0; head = node; cost = value }

abbrev pub arc_from : ℕ → ℤ → Arc
arc_from node value = record { tail = node; head = 0; cost = pos 0 -ℤ value }

double_more : (r : ℕ) → 2 * suc r ≡ suc (suc (2 * r))
double_more r = omega arith

pub arc_to_at : (node : ℕ) (values : List ℤ) (r : ℕ) → r < length values → get_or (reading_arcs node values) (2 * r) no_arc ≡ arc_to (node + r) (get_or values r (pos 0))
arc_to_at node [] r below = absurd (omega arith)
arc_to_at node (value ∷ values) zero below = ap (λ n. arc_to n value) (sym (add-zero node))
arc_to_at node (value ∷ values) (suc r) below =
    let next : suc node + r ≡ node + suc r = omega arith in
    ap (λ k. get_or (reading_arcs node (value ∷ values)) k no_arc) (double_more r) ∙ arc_to_at (suc node) values r (omega arith) ∙ ap (λ n. arc_to n (get_or values r (pos 0))) next

pub arc_from_at : (node : ℕ) (values : List ℤ) (r : ℕ) → r < length values → get_or (reading_arcs node values) (2 * r + 1) no_arc ≡ arc_from (node + r) (get_or values r (pos 0))
arc_from_at node [] r below = absurd (omega arith)
arc_from_at node (value ∷ values) zero below = ap (λ n. arc_from n value) (sym (add-zero node))
arc_from_at node (value ∷ values) (suc r) below =
    let next : suc node + r ≡ node + suc r = omega arith in
    let double : 2 * suc r + 1 ≡ suc (suc (2 * r + 1)) = omega arith in
    ap (λ k. get_or (reading_arcs node (value ∷ values)) k no_arc) double ∙ arc_from_at (suc node) values r (omega arith) ∙ ap (λ n. arc_from n (get_or values r (pos 0))) next

-- ---- what flows to the readings

-- what flows to each reading, less what flows from it
abbrev pub inflow : List ℤ → List ℤ
inflow [] = []
inflow (f ∷ []) = []
inflow (f ∷ (g ∷ fs)) = (f -ℤ g) ∷ inflow fs

pub length-inflow : (fs : List ℤ) (count : ℕ) → length fs ≡ 2 * count → length (inflow fs) ≡ count
length-inflow [] count e = omega arith
length-inflow (f ∷ []) count e = absurd (omega arith)
length-inflow (f ∷ (g ∷ fs)) zero e = absurd (omega arith)
length-inflow (f ∷ (g ∷ fs)) (suc count) e = omega (arith, length-inflow fs count (omega arith))

pub inflow_at : (fs : List ℤ) (count r : ℕ) → length fs ≡ 2 * count → r < count → get_or (inflow fs) r (pos 0) ≡ get_or fs (2 * r) (pos 0) -ℤ get_or fs (2 * r + 1) (pos 0)
inflow_at [] count r e below = absurd (omega arith)
inflow_at (f ∷ []) count r e below = absurd (omega arith)
inflow_at (f ∷ (g ∷ fs)) zero r e below = absurd (omega arith)
inflow_at (f ∷ (g ∷ fs)) (suc count) zero e below = refl
inflow_at (f ∷ (g ∷ fs)) (suc count) (suc r) e below =
    let odd : 2 * suc r + 1 ≡ suc (suc (2 * r + 1)) = omega arith in
    inflow_at fs count r (omega arith) (omega arith) ∙ (λ i. get_or (f ∷ (g ∷ fs)) (sym (double_more r) i) (pos 0) -ℤ get_or (f ∷ (g ∷ fs)) (sym odd i) (pos 0))

-- the two arcs of a reading bring its inflow to its node, and nothing to the other nodes but node 0
pair_balance : (f g : ℤ) (node other : ℕ) (value : ℤ) (b : Bool) → eqb node other ≡ b → 0 < other
    → (f *ℤ unit_balance other (arc_to node value)) +ℤ (g *ℤ unit_balance other (arc_from node value)) ≡ (f -ℤ g) *ℤ one_if b
pair_balance f g node other value b same some =
    let away : eqb 0 other ≡ false = ne_eqb 0 other (λ e. omega arith) in
    let there : unit_balance other (arc_to node value) ≡ one_if b -ℤ pos 0 = λ i. one_if (same i) -ℤ one_if (away i) in
    let back : unit_balance other (arc_from node value) ≡ pos 0 -ℤ one_if b = λ i. one_if (away i) -ℤ one_if (same i) in
    let one = one_if b in
    omega (arith, ints, ap (λ u. f *ℤ u) there, ap (λ u. g *ℤ u) back, mul_minus f one (pos 0), *ℤ-zero f, mul_minus g (pos 0) one, *ℤ-zero g, minus_mul f g one)

-- no node below the first gets anything
none_below : (node other : ℕ) (values fs : List ℤ) → 0 < other → other < node → length fs ≡ 2 * length values → balance (reading_arcs node values) fs other ≡ pos 0
none_below node other [] [] some below e = refl
none_below node other [] (f ∷ fs) some below e = absurd (omega arith)
none_below node other (value ∷ values) [] some below e = absurd (omega arith)
none_below node other (value ∷ values) (f ∷ []) some below e = absurd (omega arith)
none_below node other (value ∷ values) (f ∷ (g ∷ fs)) some below e =
    let apart : eqb node other ≡ false = ne_eqb node other (λ same. omega arith) in
    omega (arith, ints, pair_balance f g node other value false apart some, *ℤ-zero (f -ℤ g), none_below (suc node) other values fs some (omega arith) (omega arith))

pub balance_of_reading : (node : ℕ) (values fs : List ℤ) (r : ℕ) → 0 < node → length fs ≡ 2 * length values → r < length values → balance (reading_arcs node values) fs (node + r) ≡ get_or (inflow fs) r (pos 0)
balance_of_reading node [] fs r some e below = absurd (omega arith)
balance_of_reading node (value ∷ values) [] r some e below = absurd (omega arith)
balance_of_reading node (value ∷ values) (f ∷ []) r some e below = absurd (omega arith)
balance_of_reading node (value ∷ values) (f ∷ (g ∷ fs)) zero some e below =
    let same : eqb node (node + 0) ≡ true = eq-eqb node (node + 0) (omega arith) in
    omega (arith, ints, pair_balance f g node (node + 0) value true same (omega arith), *ℤ-one (f -ℤ g), none_below (suc node) (node + 0) values fs (omega arith) (omega arith) (omega arith))
balance_of_reading node (value ∷ values) (f ∷ (g ∷ fs)) (suc r) some e below =
    let apart : eqb node (node + suc r) ≡ false = ne_eqb node (node + suc r) (λ same. omega arith) in
    let next : suc node + r ≡ node + suc r = omega arith in
    let rest : balance (reading_arcs (suc node) values) fs (node + suc r) ≡ get_or (inflow fs) r (pos 0) =
    ap (λ n. balance (reading_arcs (suc node) values) fs n) (sym next) ∙ balance_of_reading (suc node) values fs r (omega arith) (omega arith) (omega arith) in
    omega (arith, ints, pair_balance f g node (node + suc r) value false apart (omega arith), *ℤ-zero (f -ℤ g), rest)

-- what the flows on the arcs of readings cost: the value times the inflow
pub cost_of_inflow : (node : ℕ) (values fs : List ℤ) → length fs ≡ 2 * length values → inner_product fs (map (λ arc. arc.cost) (reading_arcs node values)) ≡ inner_product values (inflow fs)
cost_of_inflow node [] [] e = refl
cost_of_inflow node [] (f ∷ fs) e = absurd (omega arith)
cost_of_inflow node (value ∷ values) [] e = absurd (omega arith)
cost_of_inflow node (value ∷ values) (f ∷ []) e = absurd (omega arith)
cost_of_inflow node (value ∷ values) (f ∷ (g ∷ fs)) e =
    omega (
      arith,
      ints,
      mul_minus g (pos 0) value,
      *ℤ-zero g,
      mul_minus value f g,
      *ℤ_comm f value,
      *ℤ_comm g value,
      cost_of_inflow (suc node) values fs (omega arith),
    )

-- an inflow is within the weight
pub inflow_within : (f g : ℤ) (weight : ℕ) → IsWithin weight f → IsWithin weight g → unsigned_abs (f -ℤ g) ≤ weight
inflow_within f g weight first second = size_within (f -ℤ g) weight (omega (arith, ints, first.0, second.1)) (omega (arith, ints, first.1, second.0))

-- ---- by how much a reading is changed

-- where the value rose, as much flows to the reading as can, and nothing from it; where it fell, the other way round
pub inflow_by_change : (f g d : ℤ) (weight : ℕ) → IsWithin weight f → IsWithin weight g
    → (f <ℤ pos weight → d ≤ℤ pos 0) → (pos 0 <ℤ f → pos 0 ≤ℤ d) → (g <ℤ pos weight → pos 0 ≤ℤ d) → (pos 0 <ℤ g → d ≤ℤ pos 0)
    → (f -ℤ g) *ℤ d ≡ pos (weight * unsigned_abs d)
inflow_by_change f g (pos zero) weight first second more less out back = omega (arith, ints, *ℤ-zero (f -ℤ g))
inflow_by_change f g (pos (suc n)) weight first second more less out back =
    let full : f ≡ pos weight = by_lt_z {P = f ≡ pos weight} f (pos weight) (λ below. absurd (omega (arith, ints, more below))) (λ at. omega (arith, ints, at, first.1)) in
    let none : g ≡ pos 0 = by_lt_z {P = g ≡ pos 0} (pos 0) g (λ above. absurd (omega (arith, ints, back above))) (λ at. omega (arith, ints, at, second.0)) in
    let whole : f -ℤ g ≡ pos weight = omega (arith, ints) in
    ap (λ z. z *ℤ pos (suc n)) whole ∙ omega (arith, ints)
inflow_by_change f g (negsuc n) weight first second more less out back =
    let none : f ≡ pos 0 = by_lt_z {P = f ≡ pos 0} (pos 0) f (λ above. absurd (omega (arith, ints, less above))) (λ at. omega (arith, ints, at, first.0)) in
    let full : g ≡ pos weight = by_lt_z {P = g ≡ pos weight} g (pos weight) (λ below. absurd (omega (arith, ints, out below))) (λ at. omega (arith, ints, at, second.1)) in
    let whole : f -ℤ g ≡ pos 0 -ℤ pos weight = omega (arith, ints) in
    ap (λ z. z *ℤ negsuc n) whole ∙ zero_minus_mul (pos weight) (negsuc n) ∙ omega (arith, ints, *ℤ-negsuc (pos weight) n)
