-- Where nothing more can be gained, the distances respect a bound without a price also where it is full: else more would
-- flow into the nodes that rose above its tail than can flow out of them.
use Rattle.std.proofs.Common.{◌≡◌, ◌≢◌, ℕ, zero, suc, ◌+◌, ◌*◌, ◌<◌, ◌≤◌, Bool, true, false, cond, eqb, ◌||◌, ⊎_elim, ℤ, pos, negsuc, ◌+ℤ◌, ◌-ℤ◌, ◌*ℤ◌, ◌≤ℤ◌, ◌<ℤ◌, List, [], ◌∷◌, length, map, sum, get_or, take, drop, refl, sym, ap, ◌∙◌, subst, arith, zero-add}
use Rattle.std.specs.List.{AllByRecursion, AllZip}
use Rattle.std.specs.Int.{is_positive}
use Rattle.std.proofs.lemmas.Int.{ints, by_lt_z}
use Rattle.std.proofs.lemmas.Bool.{eqb-true, eq-eqb, ne_eqb, cases_eq}
use Rattle.std.proofs.lemmas.List.{length-map, length-take-le, get_or-map, get_or-take, get_or_append_left, map-append}
use Rattle.std.proofs.lemmas.List.Sums.{sum_by-cons}
use Rattle.std.proofs.Math.IntN.{*ℤ-zero, *ℤ-one}
use Rattle.words.specs.Lists.{inner_product}
use Rattle.words.proofs.Products.{mul_sum, mul_minus, mul_swap}
use Rattle.bound_graph.specs.declared.arc.Arc.{Arc}
use Rattle.bound_graph.specs.Arcs.{IsArc, no_arc}
use Rattle.bound_graph.specs.Values.{value_of, RespectsArc, RespectsArcs}
use Rattle.bound_graph.specs.Reverses.{reversed}
use Rattle.flow_core.specs.Layout.{FlowNetwork, reading_arcs, arcs_of, arc_numbered, nodes_of, twice, unpriced_capacity, capacity_at_price, capacity_numbered}
use Rattle.flow_core.specs.State.{NetworkState, IsNetwork, IsWithin, one_if, unit_balance, balance, flow_on, residual_of}
use Rattle.flow_core.specs.Views.{is_residual, is_bare, residual_arcs, tight_arcs, bare_arcs}
use Rattle.flow_core.proofs.Sizes.{length-arcs_of, length-flows, arcs_valid, capacity_of_bound, flow_within}
use Rattle.flow_core.proofs.Readings.{inner_product-append, zip_split}
use Rattle.flow_core.proofs.BothWays.{unpriced_below, there_by_arc, back_by_arc}
use Rattle.cancel_flow.specs.Cycles.{IsBalanced}
use Rattle.cancel_flow.proofs.Numbers.{above_zero}
use Rattle.cancel_flow.proofs.Views.{there_each, there_respects, free_respects}

-- ---- what flows into a set of nodes, and out of it

-- the sum of what is at the nodes below a count
sum_below : (ℕ → ℤ) → ℕ → ℤ
sum_below f zero = pos 0
sum_below f (suc n) = sum_below f n +ℤ f n

none_below : (f : ℕ → ℤ) (n : ℕ) → ((node : ℕ) → node < n → f node ≡ pos 0) → sum_below f n ≡ pos 0
unfolding sum_below
none_below f zero none = refl
none_below f (suc n) none = omega (arith, ints, none_below f n (λ node below. none node (omega arith)), none n (omega arith))

none_at : (s : ℕ → ℤ) (node n : ℕ) → n ≤ node → sum_below (λ v. s v *ℤ one_if (eqb node v)) n ≡ pos 0
none_at s node n above = none_below (λ v. s v *ℤ one_if (eqb node v)) n (λ v below.
    let away = ne_eqb node v (λ e. omega arith) in
    ap (λ b. s v *ℤ one_if b) away ∙ *ℤ-zero (s v))

one_at_node : (s : ℕ → ℤ) (node n : ℕ) → node < n → sum_below (λ v. s v *ℤ one_if (eqb node v)) n ≡ s node
unfolding sum_below
one_at_node s node zero below = absurd (omega arith)
one_at_node s node (suc n) below = ⊎_elim
    (λ (same : node ≡ n).
    let here : s n *ℤ one_if (eqb node n) ≡ s node = omega (arith, ints, ap (λ b. s n *ℤ one_if b) (eq-eqb node n same), *ℤ-one (s n), ap s same) in
    omega (arith, ints, none_at s node n (omega arith), here))
    (λ (other : node ≢ n).
    let here : s n *ℤ one_if (eqb node n) ≡ pos 0 = ap (λ b. s n *ℤ one_if b) (ne_eqb node n other) ∙ *ℤ-zero (s n) in
    omega (arith, ints, one_at_node s node n (omega (arith, other)), here))
    (cases_eq node n)

-- by how much the value at an arc's head is above that at its tail
abbrev climb : (ℕ → ℤ) → Arc → ℤ
climb s arc = s arc.head -ℤ s arc.tail

unit_sum : (s : ℕ → ℤ) (arc : Arc) (n : ℕ)
    → sum_below (λ v. s v *ℤ unit_balance v arc) n ≡ sum_below (λ v. s v *ℤ one_if (eqb arc.head v)) n -ℤ sum_below (λ v. s v *ℤ one_if (eqb arc.tail v)) n
unfolding sum_below
unit_sum s arc zero = omega (arith, ints)
unit_sum s arc (suc n) = omega (arith, ints, unit_sum s arc n, mul_minus (s n) (one_if (eqb arc.head n)) (one_if (eqb arc.tail n)))

one_arc_more : (s : ℕ → ℤ) (arc : Arc) (arcs : List Arc) (flow : ℤ) (flows : List ℤ) (n : ℕ)
    → sum_below (λ v. s v *ℤ balance (arc ∷ arcs) (flow ∷ flows) v) n ≡ (flow *ℤ sum_below (λ v. s v *ℤ unit_balance v arc) n) +ℤ sum_below (λ v. s v *ℤ balance arcs flows v) n
unfolding sum_below
one_arc_more s arc arcs flow flows zero = omega (arith, ints, *ℤ-zero flow)
one_arc_more s arc arcs flow flows (suc n) =
    let unit = unit_balance n arc in
    omega (
      arith,
      ints,
      one_arc_more s arc arcs flow flows n,
      mul_sum (s n) (flow *ℤ unit) (balance arcs flows n),
      mul_swap (s n) flow unit,
      mul_sum flow (sum_below (λ v. s v *ℤ unit_balance v arc) n) (s n *ℤ unit),
    )

climbed : (s : ℕ → ℤ) (arcs : List Arc) (flows : List ℤ) (n : ℕ) → AllByRecursion (IsArc n) arcs → sum_below (λ v. s v *ℤ balance arcs flows v) n ≡ inner_product flows (map (climb s) arcs)
climbed s [] [] n valid = none_below (λ v. s v *ℤ pos 0) n (λ v below. *ℤ-zero (s v))
climbed s [] (flow ∷ flows) n valid = none_below (λ v. s v *ℤ pos 0) n (λ v below. *ℤ-zero (s v))
climbed s (arc ∷ arcs) [] n valid = none_below (λ v. s v *ℤ pos 0) n (λ v below. *ℤ-zero (s v))
climbed s (arc ∷ arcs) (flow ∷ flows) n valid =
    let here : sum_below (λ v. s v *ℤ unit_balance v arc) n ≡ climb s arc = omega (arith, ints, unit_sum s arc n, one_at_node s arc.head n valid.0.head, one_at_node s arc.tail n valid.0.tail) in
    omega (arith, ints, one_arc_more s arc arcs flow flows n, ap (λ z. flow *ℤ z) here, climbed s arcs flows n valid.1)

-- where no node has an excess, what flows does not climb
conserved : (net : NetworkState) (s : ℕ → ℤ) → IsNetwork net → IsBalanced net → inner_product net.flows (map (climb s) (arcs_of net.network)) ≡ pos 0
conserved net s is balanced =
    let arcs = arcs_of net.network in
    let n = nodes_of net.network in
    sym (climbed s arcs net.flows n (arcs_valid net.network is.layout))
    ∙ none_below (λ v. s v *ℤ balance arcs net.flows v) n (λ v below. ap (λ z. s v *ℤ z) (sym (is.excesses v below) ∙ balanced v) ∙ *ℤ-zero (s v))

-- ---- the arcs that cross the border of the set

-- nothing flows out of it on a bound without a price
free_crosses : (flow : ℤ) (head tail : Bool) → pos 0 ≤ℤ flow → (pos 0 <ℤ flow → tail ≡ true → head ≡ true) → pos 0 ≤ℤ (flow *ℤ (one_if head -ℤ one_if tail))
free_crosses flow true true some stays = omega (arith, ints, *ℤ-zero flow)
free_crosses flow true false some stays = omega (arith, ints, some, *ℤ-one flow)
free_crosses flow false false some stays = omega (arith, ints, *ℤ-zero flow)
free_crosses (pos zero) false true some stays = omega (arith, ints)
free_crosses (pos (suc n)) false true some stays = absurd (let both = stays (omega (arith, ints)) refl in cc)
free_crosses (negsuc n) false true some stays = absurd (omega (arith, ints, some))

minus_one : negsuc 0 ≡ pos 0 -ℤ pos 1
minus_one = omega (arith, ints)

-- on other arcs at most the capacity
out_one : (flow : ℤ) → flow *ℤ negsuc 0 ≡ pos 0 -ℤ flow
out_one flow = ap (λ z. flow *ℤ z) minus_one ∙ mul_minus flow (pos 0) (pos 1) ∙ omega (arith, ints, *ℤ-zero flow, *ℤ-one flow)

some_crosses : (flow : ℤ) (most : ℕ) (head tail : Bool) → pos 0 ≤ℤ flow → flow ≤ℤ pos most → pos 0 ≤ℤ ((flow *ℤ (one_if head -ℤ one_if tail)) +ℤ pos most)
some_crosses flow most true true some within = omega (arith, ints, *ℤ-zero flow)
some_crosses flow most true false some within = omega (arith, ints, some, *ℤ-one flow)
some_crosses flow most false false some within = omega (arith, ints, *ℤ-zero flow)
some_crosses flow most false true some within = omega (arith, ints, within, out_one flow)

pair_crosses : (f g : ℤ) (weight : ℕ) (zero_in node_in : Bool) → IsWithin weight f → IsWithin weight g
    → pos 0 ≤ℤ (((f *ℤ (one_if node_in -ℤ one_if zero_in)) +ℤ (g *ℤ (one_if zero_in -ℤ one_if node_in))) +ℤ pos weight)
pair_crosses f g weight true true first second = omega (arith, ints, *ℤ-zero f, *ℤ-zero g)
pair_crosses f g weight true false first second = omega (arith, ints, first.1, second.0, out_one f, *ℤ-one g)
pair_crosses f g weight false true first second = omega (arith, ints, first.0, second.1, out_one g, *ℤ-one f)
pair_crosses f g weight false false first second = omega (arith, ints, *ℤ-zero f, *ℤ-zero g)

readings_cross : (side : ℕ → Bool) (node : ℕ) (values : List ℤ) (weights : List ℕ) (flows : List ℤ) → length weights ≡ length values → AllZip IsWithin (twice weights) flows
    → pos 0 ≤ℤ (inner_product flows (map (climb (λ v. one_if (side v))) (reading_arcs node values)) +ℤ pos (sum weights))
readings_cross side node [] [] [] long within = omega (arith, ints)
readings_cross side node [] [] (f ∷ flows) long within = absurd within
readings_cross side node [] (weight ∷ weights) flows long within = absurd (omega arith)
readings_cross side node (value ∷ values) [] flows long within = absurd (omega arith)
readings_cross side node (value ∷ values) (weight ∷ weights) [] long within = absurd within
readings_cross side node (value ∷ values) (weight ∷ weights) (f ∷ []) long within = absurd within.1
readings_cross side node (value ∷ values) (weight ∷ weights) (f ∷ (g ∷ flows)) long within =
    let here = pair_crosses f g weight (side 0) (side node) within.0 within.1.0 in
    let rest = readings_cross side (suc node) values weights flows (omega arith) within.1.1 in
    omega (arith, ints, here, rest, sum_by-cons (λ x. x) weight weights)

-- a sum whose terms are no further below 0 than these numbers
terms_low : (flows ts : List ℤ) (prices : List ℕ) → length flows ≡ length prices → length ts ≡ length prices
    → ((k : ℕ) → k < length prices → pos 0 ≤ℤ ((get_or flows k (pos 0) *ℤ get_or ts k (pos 0)) +ℤ pos (get_or prices k 1)))
    → pos 0 ≤ℤ (inner_product flows ts +ℤ pos (sum prices))
terms_low [] [] [] one two each = omega (arith, ints)
terms_low [] [] (price ∷ prices) one two each = absurd (omega arith)
terms_low [] (t ∷ ts) prices one two each = absurd (omega arith)
terms_low (flow ∷ flows) [] prices one two each = absurd (omega arith)
terms_low (flow ∷ flows) (t ∷ ts) [] one two each = absurd (omega arith)
terms_low (flow ∷ flows) (t ∷ ts) (price ∷ prices) one two each =
    let here = each 0 (omega arith) in
    let rest = terms_low flows ts prices (omega arith) (omega arith) (λ k below. each (suc k) (omega arith)) in
    omega (arith, ints, here, rest, sum_by-cons (λ x. x) price prices)

-- and one of them is as great as this
terms_high : (flows ts : List ℤ) (prices : List ℕ) (j : ℕ) (extra : ℤ) → length flows ≡ length prices → length ts ≡ length prices
    → ((k : ℕ) → k < length prices → pos 0 ≤ℤ ((get_or flows k (pos 0) *ℤ get_or ts k (pos 0)) +ℤ pos (get_or prices k 1)))
    → j < length prices → extra ≤ℤ (get_or flows j (pos 0) *ℤ get_or ts j (pos 0))
    → extra ≤ℤ (inner_product flows ts +ℤ pos (sum prices))
terms_high [] ts prices j extra one two each below high = absurd (omega arith)
terms_high (flow ∷ flows) [] prices j extra one two each below high = absurd (omega arith)
terms_high (flow ∷ flows) (t ∷ ts) [] j extra one two each below high = absurd (omega arith)
terms_high (flow ∷ flows) (t ∷ ts) (price ∷ prices) zero extra one two each below high =
    let rest = terms_low flows ts prices (omega arith) (omega arith) (λ k inside. each (suc k) (omega arith)) in
    omega (arith, ints, high, rest, sum_by-cons (λ x. x) price prices)
terms_high (flow ∷ flows) (t ∷ ts) (price ∷ prices) (suc j) extra one two each below high =
    let here = each 0 (omega arith) in
    let rest = terms_high flows ts prices j extra (omega arith) (omega arith) (λ k inside. each (suc k) (omega arith)) (omega arith) high in
    omega (arith, ints, here, rest, sum_by-cons (λ x. x) price prices)

-- ---- the nodes that rose above the tail of a bound

positive : (z : ℤ) → pos 1 ≤ℤ z → is_positive z ≡ true
positive z some = grind (arith, ints)

-- by how much the distance of a node is above another value there
abbrev risen : List ℤ → List ℤ → ℕ → ℤ
risen distances values node = value_of distances node -ℤ value_of values node

abbrev above : List ℤ → List ℤ → ℕ → ℕ → Bool
above distances values base node = is_positive (risen distances values node -ℤ risen distances values base)

-- what is known where there is nothing more to gain
record IsAtRest (net : NetworkState) (distances values : List ℤ) : Type 0 where
  is : IsNetwork net
  balanced : IsBalanced net
  residual : RespectsArcs distances (residual_arcs net)
  bare : RespectsArcs values (bare_arcs net)

more_respects : (net : NetworkState) (distances : List ℤ) (k : ℕ) → RespectsArcs distances (residual_arcs net) → k < length (arcs_of net.network) → pos 1 ≤ℤ residual_of net k false → RespectsArc distances (arc_numbered net.network k)
more_respects net distances k all below room =
    there_respects distances (residual_arcs net) (2 * k) (arc_numbered net.network k) all (there_by_arc (is_residual net) (arcs_of net.network) k below (positive (residual_of net k false) room))

back_respects : (net : NetworkState) (distances : List ℤ) (k : ℕ) → RespectsArcs distances (residual_arcs net) → k < length (arcs_of net.network) → pos 1 ≤ℤ flow_on net k → RespectsArc distances (reversed (arc_numbered net.network k))
back_respects net distances k all below some =
    there_respects distances (residual_arcs net) (2 * k + 1) (reversed (arc_numbered net.network k)) all (back_by_arc (is_residual net) (arcs_of net.network) k below (positive (residual_of net k true) some))

-- the arc of a bound
at_bound : (network : FlowNetwork) (k : ℕ) → k < length network.bounds → arc_numbered network k ≡ get_or network.bounds k no_arc
at_bound network k below = get_or_append_left network.bounds (reading_arcs 1 network.values) no_arc k below

free_kept : (net : NetworkState) (distances values : List ℤ) (k : ℕ) → IsAtRest net distances values → k < length net.network.bounds → get_or net.network.prices k 1 ≡ 0
    → RespectsArc values (arc_numbered net.network k)
free_kept net distances values k rest below free = subst (RespectsArc values) (sym (at_bound net.network k below)) (free_respects net values k rest.bare below free)

-- where something flows on a bound without a price, its head rose at least as much as its tail
flow_rises : (net : NetworkState) (distances values : List ℤ) (base k : ℕ) → IsAtRest net distances values → k < length net.network.bounds → get_or net.network.prices k 1 ≡ 0 → pos 0 <ℤ flow_on net k
    → above distances values base (arc_numbered net.network k).tail ≡ true → above distances values base (arc_numbered net.network k).head ≡ true
flow_rises net distances values base k rest below free some tail =
    let arc = arc_numbered net.network k in
    let back = back_respects net distances k rest.residual (omega (arith, below, length-arcs_of net.network)) (omega (arith, ints, some)) in
    let kept = free_kept net distances values k rest below free in
    let at_tail = above_zero (risen distances values arc.tail -ℤ risen distances values base) tail in
    positive (risen distances values arc.head -ℤ risen distances values base) (omega (arith, ints, back, kept, at_tail))

abbrev cut : (ℕ → Bool) → Arc → ℤ
cut side arc = climb (λ v. one_if (side v)) arc

bound_crosses : (net : NetworkState) (distances values : List ℤ) (base k : ℕ) → IsAtRest net distances values → k < length net.network.bounds
    → pos 0 ≤ℤ ((flow_on net k *ℤ cut (above distances values base) (arc_numbered net.network k)) +ℤ pos (get_or net.network.prices k 1))
bound_crosses net distances values base k rest below =
    let side = above distances values base in
    let arc = arc_numbered net.network k in
    let price = get_or net.network.prices k 1 in
    let layout = rest.is.layout in
    let within = flow_within net k rest.is (omega (arith, below, length-arcs_of net.network)) in
    let capacity = capacity_of_bound net.network k (omega (arith, below, layout.priced)) in
    ⊎_elim
    (λ (free : price ≡ 0). omega (arith, ints, free_crosses (flow_on net k) (side arc.head) (side arc.tail) within.0 (λ some tail. flow_rises net distances values base k rest below free some tail)))
    (λ (priced : price ≢ 0).
    let most : capacity_numbered net.network k ≡ price = capacity ∙ ap (λ b. cond b (unpriced_capacity net.network) price) (ne_eqb price 0 priced) in
    some_crosses (flow_on net k) price (side arc.head) (side arc.tail) within.0 (omega (arith, ints, within.1, ap pos most)))
    (cases_eq price 0)

none_above : (distances values : List ℤ) (base : ℕ) → above distances values base base ≡ false
none_above distances values base =
    let none : risen distances values base -ℤ risen distances values base ≡ pos 0 = omega (arith, ints) in
    ap is_positive none

full_crosses : (flow extra : ℤ) (head tail : Bool) → extra ≤ℤ flow → head ≡ true → tail ≡ false → extra ≤ℤ (flow *ℤ (one_if head -ℤ one_if tail))
full_crosses flow extra true true full h t = absurd cc
full_crosses flow extra true false full h t = omega (arith, ints, full, *ℤ-one flow)
full_crosses flow extra false tail full h t = absurd cc

first_long : (net : NetworkState) → IsNetwork net → length (take (length net.network.bounds) net.flows) ≡ length net.network.prices
first_long net is =
    let layout = is.layout in
    length-take-le (length net.network.bounds) net.flows (omega (arith, length-flows net is, length-arcs_of net.network)) ∙ sym layout.priced

-- a full bound without a price is not broken
no_full_broken : (net : NetworkState) (distances values : List ℤ) (j : ℕ) → IsAtRest net distances values → j < length net.network.bounds → get_or net.network.prices j 1 ≡ 0
    → pos (capacity_numbered net.network j) ≤ℤ flow_on net j
    → (value_of distances (arc_numbered net.network j).tail +ℤ (arc_numbered net.network j).cost) <ℤ value_of distances (arc_numbered net.network j).head → ⊥
no_full_broken net distances values j rest below free full broken =
    let network = net.network in
    let bounds = network.bounds in
    let prices = network.prices in
    let layout = rest.is.layout in
    let arc = arc_numbered network j in
    let base = arc.tail in
    let side = above distances values base in
    let at = cut side in
    let first = take (length bounds) net.flows in
    let last = drop (length bounds) net.flows in
    let readings = reading_arcs 1 network.values in
    let long_at = length-map bounds at in
    let both : inner_product net.flows (map at (arcs_of network)) ≡ inner_product first (map at bounds) +ℤ inner_product last (map at readings) =
    ap (inner_product net.flows) (map-append at bounds readings)
    ∙ inner_product-append net.flows (map at bounds) (map at readings)
    ∙ (λ i. inner_product (take (long_at i) net.flows) (map at bounds) +ℤ inner_product (drop (long_at i) net.flows) (map at readings)) in
    let none = conserved net (λ v. one_if (side v)) rest.is rest.balanced in
    let cap = capacity_at_price (unpriced_capacity network) in
    let parts = zip_split IsWithin (map cap prices) (twice network.weights) net.flows rest.is.flows in
    let long : length (map cap prices) ≡ length bounds = length-map prices cap ∙ layout.priced in
    let within = subst (λ n. AllZip IsWithin (twice network.weights) (drop n net.flows)) long parts.1 in
    let crossing = readings_cross side 1 network.values network.weights last layout.weighted within in
    let flow_at : (k : ℕ) → k < length bounds → get_or first k (pos 0) ≡ flow_on net k = λ k inside. get_or-take (length bounds) net.flows k (pos 0) inside in
    let cut_at : (k : ℕ) → k < length bounds → get_or (map at bounds) k (pos 0) ≡ at (arc_numbered network k) = λ k inside. get_or-map at bounds k no_arc (pos 0) inside ∙ ap at (sym (at_bound network k inside)) in
    let term_at : (k : ℕ) → k < length bounds → get_or first k (pos 0) *ℤ get_or (map at bounds) k (pos 0) ≡ flow_on net k *ℤ at (arc_numbered network k) = λ k inside. λ i. flow_at k inside i *ℤ cut_at k inside i in
    let kept = free_kept net distances values j rest below free in
    let head : side arc.head ≡ true = positive (risen distances values arc.head -ℤ risen distances values base) (omega (arith, ints, kept, broken)) in
    let capacity : capacity_numbered network j ≡ unpriced_capacity network =
    capacity_of_bound network j (omega (arith, below, layout.priced)) ∙ ap (λ price. cond (eqb price 0) (unpriced_capacity network) price) free in
    let high = full_crosses (flow_on net j) (pos (unpriced_capacity network)) (side arc.head) (side base) (omega (arith, ints, full, ap pos capacity)) head (none_above distances values base) in
    let most = terms_high first (map at bounds) prices j (pos (unpriced_capacity network))
    (first_long net rest.is)
    (long_at ∙ sym layout.priced)
    (λ k inside. let k_below : k < length bounds = omega (arith, inside, layout.priced) in
    subst (λ (z : ℤ). pos 0 ≤ℤ (z +ℤ pos (get_or prices k 1))) (sym (term_at k k_below)) (bound_crosses net distances values base k rest k_below))
    (omega (arith, below, layout.priced))
    (subst (λ (z : ℤ). pos (unpriced_capacity network) ≤ℤ z) (sym (term_at j below)) high) in
    omega (arith, ints, both, none, crossing, most)

-- ---- the tight arcs

residual_none : (z : ℤ) → is_positive z ≡ false → z ≤ℤ pos 0
residual_none (pos zero) test = omega (arith, ints)
residual_none (pos (suc n)) test = absurd (let some = positive (pos (suc n)) (omega (arith, ints)) in cc)
residual_none (negsuc n) test = omega (arith, ints)

ahead_by : (net : NetworkState) (distances values : List ℤ) (k : ℕ) (bare residual : Bool) → IsAtRest net distances values → k < length (arcs_of net.network)
    → is_bare net k false ≡ bare → is_residual net k false ≡ residual → (bare || residual) ≡ true → RespectsArc distances (arc_numbered net.network k)
ahead_by net distances values k bare true rest below is_free is_room test = more_respects net distances k rest.residual below (above_zero (residual_of net k false) is_room)
ahead_by net distances values k false false rest below is_free is_room test = absurd cc
ahead_by net distances values k true false rest below is_free is_room test =
    let arc = arc_numbered net.network k in
    let layout = rest.is.layout in
    let free = eqb-true (get_or net.network.prices k 1) 0 is_free in
    let inside : k < length net.network.bounds = omega (arith, unpriced_below net.network k is_free, layout.priced) in
    let none = residual_none (residual_of net k false) is_room in
    by_lt_z {P = RespectsArc distances arc} (value_of distances arc.tail +ℤ arc.cost) (value_of distances arc.head)
    (λ broken. absurd (no_full_broken net distances values k rest inside free (omega (arith, ints, none)) broken))
    (λ kept. kept)

pub tight_respected : (net : NetworkState) (distances values : List ℤ) → IsNetwork net → IsBalanced net → RespectsArcs distances (residual_arcs net) → RespectsArcs values (bare_arcs net) → RespectsArcs distances (tight_arcs net)
tight_respected net distances values is balanced residual bare =
    let rest : IsAtRest net distances values = record { is = is; balanced = balanced; residual = residual; bare = bare } in
    there_each (RespectsArc distances) 0 (λ arc back. is_bare net arc back || is_residual net arc back) (arcs_of net.network)
    (λ k below there. ahead_by net distances values k (is_bare net k false) (is_residual net k false) rest below refl refl (ap (λ n. is_bare net n false || is_residual net n false) (sym (zero-add k)) ∙ there))
    (λ k below there. back_respects net distances k residual below (above_zero (flow_on net k) (ap (λ n. is_residual net n true) (sym (zero-add k)) ∙ there)))
