-- Excess carried over tight arcs.
use Rattle.std.proofs.Common.{◌≡◌, ◌≢◌, ◌⊎◌, ℕ, zero, suc, ◌+◌, ◌-◌, ◌*◌, ◌/◌, ◌<◌, ◌≤◌, Bool, true, false, eqb, max, ℤ, pos, ◌+ℤ◌, ◌-ℤ◌, ◌≤ℤ◌, List, length, sum_by, get_or, inl, inr, refl, sym, ap, ◌∙◌, subst, ⊎_elim, arith, get_or-set_same}
use Rattle.std.specs.Prelude.{unsigned_abs}
use Rattle.std.proofs.lemmas.Int.{ints}
use Rattle.std.proofs.lemmas.Bool.{cases_eq, cases_lt, eq-eqb, ne_eqb}
use Rattle.std.proofs.lemmas.List.{length-set}
use Rattle.std.proofs.Math.Nat.{mul-le-mul_left}
use Rattle.bound_graph.specs.Values.{value_of}
use Rattle.bound_graph.specs.Reverses.{turned, is_back}
use Rattle.flow_core.specs.Layout.{FlowNetwork, arcs_of, arc_numbered}
use Rattle.flow_core.specs.State.{NetworkState, IsNetwork, added, flow_on, pushed, rise_by}
use Rattle.flow_core.specs.Views.{arc_both_ways}
use Rattle.flow_core.proofs.Sizes.{arc_valid, length-flows}
use Rattle.path_flow.specs.declared.carry.Purse.{Purse}
use Rattle.path_flow.specs.declared.search.Direction.{Direction}
use Rattle.path_flow.specs.declared.search.Direction.TheVariants.{Forwards, Backwards}
use Rattle.path_flow.specs.Flow.{HasSign, IsCarried, IsCovered, IsLeft, excess_units, most_units, positive_size, units_left}
use Rattle.path_flow.specs.Search.{signed, takes_from}
use Rattle.path_flow.specs.Steps.{HasNoNegatives, reduced_cost}
use Rattle.path_flow.proofs.Augmenting.{count_of}
use Rattle.path_flow.proofs.Discharging.{IsMoved, if_all, if_none, size_negative, size_positive, whole_kept}
use Rattle.path_flow.proofs.Pathing.{excess_of_step, flow_elsewhere}
use Rattle.path_flow.proofs.Saturating.{no_negative_kept}
use Rattle.path_flow.proofs.Shifting.{tight_done}
use Rattle.path_flow.proofs.Solved.{few_units}
use Rattle.path_flow.proofs.Sums.{positive_less, positive_more, positive_none, positive_of, sums}

-- ---- the excess of all nodes

-- what a node gives away is not more than it has, so that the positive parts do not grow
positive_rest : (direction : Direction) (s e : ℤ) (a : ℕ) → HasSign direction s → a ≤ unsigned_abs s
    → positive_size (s -ℤ signed direction (pos a)) + positive_size (e +ℤ signed direction (pos a)) ≤ positive_size s + positive_size e
positive_rest Forwards s e a sign within =
    let size = size_positive s (omega (arith, ints, sign)) in
    let old = positive_of s (omega (arith, ints, sign)) in
    let new = positive_of (s -ℤ pos a) (omega (arith, ints, size, within)) in
    let more = positive_more e a in
    omega (arith, ints, old, new, more)
positive_rest Backwards s e a sign within =
    let size = size_negative s (omega (arith, ints, sign)) in
    let new = positive_none (s -ℤ (pos 0 -ℤ pos a)) (omega (arith, ints, size, within)) in
    let same : e +ℤ (pos 0 -ℤ pos a) ≡ e -ℤ pos a = omega (arith, ints) in
    let less = ap positive_size same in
    let fewer = positive_less e a in
    omega (arith, new, less, fewer)

excess_no_more : (direction : Direction) (s e a : ℕ) (old new : List ℤ) → IsMoved direction s e a old new → HasSign direction (value_of old s) → a ≤ unsigned_abs (value_of old s)
    → sum_by positive_size new ≤ sum_by positive_size old
excess_no_more direction s e a old new is sign within =
    let both = sums positive_size old new s e is.long is.apart is.below_s is.below_e is.others in
    let parts = positive_rest direction (value_of old s) (value_of old e) a sign within in
    let at_s = ap positive_size is.at_s in
    let at_e = ap positive_size is.at_e in
    omega (arith, both, parts, at_s, at_e)

-- ---- one push

tail_inside : (net : NetworkState) (arc : ℕ) (back : Bool) → IsNetwork net → arc < length (arcs_of net.network) → (turned back (arc_numbered net.network arc)).tail < length net.excesses
tail_inside net arc true is below = let valid = arc_valid net.network arc is.layout below in omega (arith, valid.head, is.excess_each)
tail_inside net arc false is below = let valid = arc_valid net.network arc is.layout below in omega (arith, valid.tail, is.excess_each)

head_inside : (net : NetworkState) (arc : ℕ) (back : Bool) → IsNetwork net → arc < length (arcs_of net.network) → (turned back (arc_numbered net.network arc)).head < length net.excesses
head_inside net arc true is below = let valid = arc_valid net.network arc is.layout below in omega (arith, valid.tail, is.excess_each)
head_inside net arc false is below = let valid = arc_valid net.network arc is.layout below in omega (arith, valid.head, is.excess_each)

moved_over : (net : NetworkState) (direction : Direction) (arc : ℕ) (back : Bool) (a : ℕ) → IsNetwork net → arc < length (arcs_of net.network)
    → (turned back (arc_numbered net.network arc)).head ≢ (turned back (arc_numbered net.network arc)).tail
    → IsMoved direction (turned back (arc_numbered net.network arc)).tail (turned back (arc_numbered net.network arc)).head a net.excesses (pushed net arc (takes_from direction back) (pos a)).excesses
moved_over net direction arc back a is below apart =
    let s = (turned back (arc_numbered net.network arc)).tail in
    let e = (turned back (arc_numbered net.network arc)).head in
    let d = direction in
    let ends = arc_numbered net.network arc in
    let rise = rise_by (takes_from direction back) (pos a) in
    let taken = added net.excesses ends.tail (pos 0 -ℤ rise) in
    record {
      long = length-set taken ends.head (value_of taken ends.head +ℤ rise) ∙ length-set net.excesses ends.tail (value_of net.excesses ends.tail +ℤ (pos 0 -ℤ rise));
      apart = λ same. apart (sym same);
      below_s = tail_inside net arc back is below;
      below_e = head_inside net arc back is below;
      others = λ x inside not_s not_e.
          let into = if_none d (eqb e x) (pos a) (ne_eqb e x (λ same. not_e (sym same))) in
          let out = if_none d (eqb s x) (pos a) (ne_eqb s x (λ same. not_s (sym same))) in
          let change = excess_of_step net d arc back (pos a) x is below in
          omega (arith, ints, change, into, out);
      at_s =
          let into = if_none d (eqb e s) (pos a) (ne_eqb e s apart) in
          let out = if_all d (eqb s s) (pos a) (eq-eqb s s refl) in
          let change = excess_of_step net d arc back (pos a) s is below in
          omega (arith, ints, change, into, out);
      at_e =
          let into = if_all d (eqb e e) (pos a) (eq-eqb e e refl) in
          let out = if_none d (eqb s e) (pos a) (ne_eqb s e (λ same. apart (sym same))) in
          let change = excess_of_step net d arc back (pos a) e is below in
          omega (arith, ints, change, into, out);
    }

-- a push over a tight arc leaves no residual arc of negative reduced cost
optimal_after : (net : NetworkState) (arc : ℕ) (back : Bool) (amount : ℤ) → HasNoNegatives net → reduced_cost net arc ≡ pos 0 → HasNoNegatives (pushed net arc back amount)
optimal_after net arc back amount all tight k below = ⊎_elim
    (λ (e : k ≡ arc). tight_done (pushed net arc back amount) k (ap (reduced_cost net) e ∙ tight))
    (λ (other : k ≢ arc). no_negative_kept net (pushed net arc back amount) k refl refl (flow_elsewhere net arc k back amount other) (all k below))
    (cases_eq k arc)

flow_after : (net : NetworkState) (arc : ℕ) (back : Bool) (amount : ℤ) → IsNetwork net → arc < length (arcs_of net.network) → flow_on (pushed net arc back amount) arc ≡ flow_on net arc +ℤ rise_by back amount
flow_after net arc back amount is below = get_or-set_same net.flows arc (flow_on net arc +ℤ rise_by back amount) (pos 0) (omega (arith, below, length-flows net is))

-- what flows on a bound without a price after a push that is cut to the limit
flow_limited : (purse : Purse) (net : NetworkState) (arc : ℕ) (back : Bool) (amount : ℤ) → IsCovered purse net → IsNetwork net → arc < length (arcs_of net.network) → pos 1 ≤ℤ amount
    → (back ≡ false → get_or net.network.prices arc 1 ≡ 0 → (flow_on net arc +ℤ amount) ≤ℤ pos purse.limit)
    → get_or net.network.prices arc 1 ≡ 0 → flow_on (pushed net arc back amount) arc ≤ℤ pos purse.limit
flow_limited purse net arc true amount covered is below some cut free =
    let here = flow_after net arc true amount is below in
    let was = covered.free arc free in
    omega (arith, ints, here, was, covered.top, some)
flow_limited purse net arc false amount covered is below some cut free =
    let here = flow_after net arc false amount is below in
    let high = cut refl free in
    omega (arith, ints, here, high)

-- the purse after a push
pub record IsPaid (before purse : Purse) (net : NetworkState) (arc : ℕ) : Type 0 where
  pub need : purse.need ≡ before.need
  pub limit : purse.limit ≡ before.limit
  pub pool : purse.pool + 1 ≡ before.pool
  pub before_top : before.top ≤ purse.top
  pub arc_top : get_or net.network.prices arc 1 ≡ 0 → flow_on net arc ≤ℤ pos purse.top
  pub least_top : (purse.top ≡ before.top) ⊎ ((get_or net.network.prices arc 1 ≡ 0) × (pos purse.top ≡ flow_on net arc))

pub paid_by : (before : Purse) (net : NetworkState) (arc free top : ℕ) → 1 ≤ before.pool → top ≡ max before.top free → (get_or net.network.prices arc 1 ≡ 0 → pos free ≡ flow_on net arc)
    → (get_or net.network.prices arc 1 ≢ 0 → free ≡ 0) → IsPaid before (record { need = before.need; limit = before.limit; top = top; pool = before.pool - 1 }) net arc
paid_by before net arc free top some top_is is_free is_priced = record {
  need = refl;
  limit = refl;
  pool = omega (arith, some);
  before_top = omega (arith, top_is);
  arc_top = λ price. let flow = is_free price in omega (arith, ints, flow, top_is);
  least_top = ⊎_elim
      (λ (price : get_or net.network.prices arc 1 ≡ 0). ⊎_elim
      (λ (less : before.top < free).
      let flow = is_free price in
      let here : top ≡ free = omega (arith, top_is, less) in
      inr (price, ap pos here ∙ flow))
      (λ (more : free ≤ before.top). inl (omega (arith, top_is, more)))
      (cases_lt before.top free))
      (λ (price : get_or net.network.prices arc 1 ≢ 0). let none = is_priced price in inl (omega (arith, top_is, none)))
      (cases_eq (get_or net.network.prices arc 1) 0);
}

covered_by : (before purse : Purse) (net : NetworkState) (direction : Direction) (arc : ℕ) (back : Bool) (a : ℕ) → IsCovered before net → IsNetwork net → arc < length (arcs_of net.network)
    → reduced_cost net arc ≡ pos 0 → (turned back (arc_numbered net.network arc)).head ≢ (turned back (arc_numbered net.network arc)).tail
    → HasSign direction (value_of net.excesses (turned back (arc_numbered net.network arc)).tail) → a ≤ unsigned_abs (value_of net.excesses (turned back (arc_numbered net.network arc)).tail)
    → pos 1 ≤ℤ pos a → (takes_from direction back ≡ false → get_or net.network.prices arc 1 ≡ 0 → (flow_on net arc +ℤ pos a) ≤ℤ pos before.limit)
    → IsPaid before purse (pushed net arc (takes_from direction back) (pos a)) arc → IsCovered purse (pushed net arc (takes_from direction back) (pos a))
covered_by before purse net direction arc back a covered is below tight apart sign within some cut paid =
    let takes = takes_from direction back in
    let new = pushed net arc takes (pos a) in
    let move = moved_over net direction arc back a is below apart in
    let s = (turned back (arc_numbered net.network arc)).tail in
    let e = (turned back (arc_numbered net.network arc)).head in
    let excess = excess_no_more direction s e a net.excesses new.excesses move sign within in
    record {
      optimal = optimal_after net arc takes (pos a) covered.optimal tight;
      limit = omega (arith, covered.limit, paid.limit, paid.need);
      top = ⊎_elim
          (λ (same : purse.top ≡ before.top). omega (arith, same, covered.top, paid.limit))
          (λ (here : (get_or net.network.prices arc 1 ≡ 0) × (pos purse.top ≡ flow_on new arc)).
          let high = flow_limited before net arc takes (pos a) covered is below some cut here.0 in
          omega (arith, ints, high, here.1, paid.limit))
          paid.least_top;
      free = λ k price. ⊎_elim
          (λ (same : k ≡ arc). subst (λ n. flow_on new n ≤ℤ pos purse.top) (sym same) (paid.arc_top (ap (λ n. get_or net.network.prices n 1) (sym same) ∙ price)))
          (λ (other : k ≢ arc).
          let kept = flow_elsewhere net arc k takes (pos a) other in
          let was = covered.free k price in
          omega (arith, ints, kept, was, paid.before_top))
          (cases_eq k arc);
      excess = omega (arith, excess, covered.excess, paid.need);
      whole = whole_kept direction s e a net.excesses new.excesses move ∙ covered.whole;
    }

-- a push over a tight arc, of what a node has
pub covered_after : (before purse : Purse) (net new : NetworkState) (direction : Direction) (node number : ℕ) (takes : Bool) (amount : ℤ) → IsCovered before net → IsNetwork net
    → number / 2 < length (arcs_of net.network) → (arc_both_ways net.network number).tail ≡ node → (arc_both_ways net.network number).head ≢ node → reduced_cost net (number / 2) ≡ pos 0
    → takes ≡ takes_from direction (is_back number) → HasSign direction (value_of net.excesses node) → pos 1 ≤ℤ amount → amount ≤ℤ pos (unsigned_abs (value_of net.excesses node))
    → (takes ≡ false → get_or net.network.prices (number / 2) 1 ≡ 0 → (flow_on net (number / 2) +ℤ amount) ≤ℤ pos before.limit)
    → new ≡ pushed net (number / 2) takes amount → IsPaid before purse new (number / 2) → IsCovered purse new
covered_after before purse net new direction node number takes amount covered is below tail head tight takes_is sign some within cut push paid =
    let a = unsigned_abs amount in
    let same = count_of amount some in
    let arc = number / 2 in
    let back = is_back number in
    let whole : new ≡ pushed net arc (takes_from direction back) (pos a) = push ∙ (λ i. pushed net arc (takes_is i) (sym same i)) in
    subst (IsCovered purse) (sym whole)
    (covered_by before purse net direction arc back a covered is below tight (λ e. head (e ∙ tail))
    (subst (λ n. HasSign direction (value_of net.excesses n)) (sym tail) sign)
    (subst (λ n. a ≤ unsigned_abs (value_of net.excesses n)) (sym tail) (omega (arith, ints, same, within)))
    (subst (λ (z : ℤ). pos 1 ≤ℤ z) (sym same) some)
    (λ forth price. let high = cut (takes_is ∙ forth) price in omega (arith, ints, high, same))
    (subst (λ (state : NetworkState). IsPaid before purse state arc) whole paid))

pub carried_after : (before purse : Purse) (net new : NetworkState) (arc : ℕ) (back : Bool) (amount : ℤ) → new ≡ pushed net arc back amount → IsPaid before purse new arc → IsCarried before purse net new
carried_after before purse net new arc back amount push paid = record {
  network = ap (λ (state : NetworkState). state.network) push;
  need = paid.need;
  changes = let more = ap (λ (state : NetworkState). state.changes) push in omega (arith, more, paid.pool);
}

-- ---- one step after the other

pub nothing_carried : (purse : Purse) (net : NetworkState) → IsCarried purse purse net net
nothing_carried purse net = record { network = refl; need = refl; changes = omega arith }

pub carried_on : (first second third : Purse) (old net new : NetworkState) → IsCarried first second old net → IsCarried second third net new → IsCarried first third old new
carried_on first second third old net new one two = record {
  network = two.network ∙ one.network;
  need = two.need ∙ one.need;
  changes = omega (arith, one.changes, two.changes);
}

-- ---- before and after

pub few_covered : (purse : Purse) (net : NetworkState) → IsNetwork net → IsCovered purse net → units_left net ≤ 2 * most_units net.network
few_covered purse net is covered = omega (arith, few_units net is covered.whole, covered.excess, covered.limit)

pub units_covered : (purse : Purse) (net : NetworkState) → IsCovered purse net → excess_units net ≤ most_units net.network
units_covered purse net covered = omega (arith, covered.excess, covered.limit)

-- the pushes that are left pay for a path over all readings for each unit more
pub paths_paid : (readings pool : ℕ) → readings * (pool / max readings 1) ≤ pool
paths_paid zero pool = omega arith
paths_paid (suc n) pool =
    let same : max (suc n) 1 ≡ suc n = omega arith in
    let each = ap (λ k. suc n * (pool / k)) same in
    let whole : suc n * (pool / suc n) ≤ pool = omega arith in
    omega (arith, each, whole)

pub budget_paid : (readings count need pool result : ℕ) → count ≡ max readings 1 → result ≤ need + pool / count → readings * result ≤ pool + readings * need
budget_paid readings count need pool result is within =
    let more = mul-le-mul_left readings within in
    let split : readings * (need + pool / count) ≡ readings * need + readings * (pool / count) = omega arith in
    let same = ap (λ k. readings * (pool / k)) is in
    let paid = paths_paid readings pool in
    omega (arith, more, split, same, paid)

-- for each unit a path over all readings
pub paths_for : (readings most limit need : ℕ) → limit + need ≡ most → limit * readings + readings * need ≡ readings * most
paths_for readings most limit need whole =
    let same = ap (λ k. readings * k) whole in
    let split : readings * (limit + need) ≡ limit * readings + readings * need = omega arith in
    omega (arith, same, split)

pub left_after : (first purse : Purse) (old new : NetworkState) (budget : ℕ) (spare : ℤ) → IsNetwork new → IsCovered purse new → IsCarried first purse old new
    → first.pool + length old.network.values * first.need ≡ length old.network.values * most_units old.network
    → budget + purse.top ≤ most_units new.network → purse.need ≤ budget → length new.network.values * budget ≤ purse.pool + length new.network.values * purse.need
    → spare ≡ pos budget -ℤ pos (units_left new) → IsLeft old.network (old.changes + length old.network.values * most_units old.network) new spare 1
left_after first purse old new budget spare is covered carried start most need paid spare_is =
    let units = ap most_units carried.network in
    let product = ap (λ (n : FlowNetwork). length n.values * budget) carried.network in
    let needed = ap (λ (n : FlowNetwork). length n.values * purse.need) carried.network in
    let same = ap (λ n. length old.network.values * n) carried.need in
    record {
      same = carried.network;
      budget = budget;
      most = omega (arith, most, units);
      spare_is = spare_is;
      excess = λ fewer. omega (arith, covered.excess, need);
      free = λ arc price.
          let flow = covered.free arc (ap (λ (n : FlowNetwork). get_or n.prices arc 1) carried.network ∙ price) in
          omega (arith, ints, flow, most, units);
      whole = covered.whole;
      few = omega (arith, few_covered purse new is covered, units);
      changes = omega (arith, carried.changes, start, paid, product, needed, same);
      done = λ x some below. absurd (omega (arith, some, below));
    }
