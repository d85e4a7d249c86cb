-- Flow pushed along one arc after the other.
use Rattle.std.proofs.Common.{◌≡◌, ◌≢◌, ℕ, zero, suc, ◌+◌, ◌/◌, ◌%◌, ◌^◌, ◌<◌, ◌≤◌, Bool, true, false, cond, eqb, ⊎_elim, ℤ, pos, negsuc, ◌+ℤ◌, ◌-ℤ◌, ◌*ℤ◌, ◌≤ℤ◌, ◌<ℤ◌, List, [], ◌∷◌, length, map, take, get_or, refl, sym, ap, ◌∙◌, subst, arith, get_or-set_same, get_or-set_other}
use Rattle.std.specs.Prelude.{unsigned_abs}
use Rattle.std.proofs.lemmas.Int.{ints}
use Rattle.std.proofs.lemmas.Bool.{eqb-true, cases_eq, cases_lt}
use Rattle.std.proofs.lemmas.List.{length-map, get_or-map, get_or_past, map-append, take_more}
use Rattle.std.proofs.Math.IntN.{*ℤ-zero}
use Rattle.words.specs.Lists.{inner_product, total}
use Rattle.words.proofs.Sums.{total-append}
use Rattle.words.proofs.InnerProducts.{inner_product-set}
use Rattle.words.proofs.Products.{mul_sum, mul_minus, zero_minus_mul, within_size}
use Rattle.bound_graph.specs.declared.arc.Arc.{Arc}
use Rattle.bound_graph.specs.Values.{value_of}
use Rattle.bound_graph.specs.Arcs.{no_arc}
use Rattle.bound_graph.specs.Reverses.{reversed, is_back}
use Rattle.flow_core.specs.Layout.{FlowNetwork, arcs_of, arc_numbered, nodes_of, capacity_numbered}
use Rattle.flow_core.specs.State.{NetworkState, IsNetwork, flow_on, added, rise_by, pushed, unit_balance, balance, value}
use Rattle.flow_core.specs.Views.{arc_both_ways}
use Rattle.flow_core.proofs.Sizes.{length-flows, costs_so_far_small, costs_of}
use Rattle.cancel_flow.specs.Cycles.{room_of, HaveRoom}
use Rattle.cancel_flow.proofs.Cycles.{IsResidualCycle}

-- of the reverse of an arc it is what it is of the arc, negated
abbrev pub IsOdd : (Arc → ℤ) → Type 0
IsOdd f = (arc : Arc) → f (reversed arc) ≡ pos 0 -ℤ f arc

-- An amount was pushed along each of the arcs and reverses: sums over all arcs, as the balance at a node and the cost, rose
-- by what it brings on each of them.
pub record IsPushedAlong (old new : NetworkState) (amount : ℤ) (numbers : List ℕ) : Type 0 where
  pub network : new.network ≡ old.network
  pub is : IsNetwork new
  pub sums : (f : Arc → ℤ) → IsOdd f → inner_product new.flows (map f (arcs_of old.network))
      ≡ inner_product old.flows (map f (arcs_of old.network)) +ℤ (amount *ℤ total (map (λ number. f (arc_both_ways old.network number)) numbers))

-- So much was pushed along the first arcs and reverses of a list, and each of the others has room for it.
pub record IsPartway (old new : NetworkState) (amount : ℤ) (numbers : List ℕ) (count : ℕ) : Type 0 where
  pub pushed : IsPushedAlong old new amount (take count numbers)
  pub left : (i : ℕ) → count ≤ i → i < length numbers → amount ≤ℤ room_of new (get_or numbers i 0)

-- ---- one push

-- by how much a sum over all arcs rises where the flow of one of them does
sum_raised : (arcs : List Arc) (f : Arc → ℤ) (flows : List ℤ) (arc : ℕ) (rise : ℤ) → arc < length flows → arc < length arcs
    → inner_product (added flows arc rise) (map f arcs) ≡ inner_product flows (map f arcs) +ℤ (rise *ℤ f (get_or arcs arc no_arc))
sum_raised arcs f flows arc rise flowing below =
    let fs = map f arcs in
    let old = get_or flows arc (pos 0) in
    let by : (old +ℤ rise) -ℤ old ≡ rise = omega (arith, ints) in
    inner_product-set flows fs arc (old +ℤ rise) flowing (omega (arith, length-map arcs f, below))
    ∙ ap (λ z. inner_product flows fs +ℤ (z *ℤ get_or fs arc (pos 0))) by
    ∙ ap (λ z. inner_product flows fs +ℤ (rise *ℤ z)) (get_or-map f arcs arc no_arc (pos 0) below)

-- what it brings where the amount is pushed along the arc or back along it
by_way : (f : Arc → ℤ) (arc : Arc) (amount : ℤ) (b : Bool) → IsOdd f → rise_by b amount *ℤ f arc ≡ amount *ℤ f (cond b (reversed arc) arc)
by_way f arc amount true odd = zero_minus_mul amount (f arc) ∙ omega (arith, ints, ap (λ z. amount *ℤ z) (odd arc), mul_minus amount (pos 0) (f arc), *ℤ-zero amount)
by_way f arc amount false odd = refl

nothing_pushed : (net : NetworkState) (amount : ℤ) → IsNetwork net → IsPushedAlong net net amount []
nothing_pushed net amount is = record {
  network = refl;
  is = is;
  sums = λ f odd. omega (arith, ints, *ℤ-zero amount);
}

one_more : (old net new : NetworkState) (amount : ℤ) (numbers : List ℕ) (i : ℕ) → IsPushedAlong old net amount (take i numbers) → i < length numbers
    → get_or numbers i 0 / 2 < length (arcs_of net.network) → new ≡ pushed net (get_or numbers i 0 / 2) (is_back (get_or numbers i 0)) amount → IsNetwork new
    → IsPushedAlong old new amount (take (i + 1) numbers)
one_more old net new amount numbers i so_far within below is_pushed is =
    let number = get_or numbers i 0 in
    let k = number / 2 in
    let same = so_far.network in
    let arcs = arcs_of old.network in
    let inside : k < length arcs = subst (λ (n : FlowNetwork). k < length (arcs_of n)) same below in
    let long = length-flows net so_far.is in
    let flowing : k < length net.flows = omega (arith, below, long) in
    record {
      network = ap (λ (n : NetworkState). n.network) is_pushed ∙ same;
      is = is;
      sums = λ f odd.
          let of : ℕ → ℤ = λ (n : ℕ). f (arc_both_ways old.network n) in
          let raised = sum_raised arcs f net.flows k (rise_by (is_back number) amount) flowing inside in
          let way = by_way f (arc_numbered old.network k) amount (is_back number) odd in
          let flows = ap (λ (n : NetworkState). inner_product n.flows (map f arcs)) is_pushed in
          let more : total (map of (take (i + 1) numbers)) ≡ total (map of (take i numbers)) +ℤ of number =
          ap (λ (ns : List ℕ). total (map of ns)) (take_more numbers i 0 within) ∙ ap total (map-append of (take i numbers) (number ∷ [])) ∙ total-append (map of (take i numbers)) (of number ∷ []) ∙ omega (arith, ints) in
          omega (arith, ints, flows, raised, way, so_far.sums f odd, ap (λ z. amount *ℤ z) more, mul_sum amount (total (map of (take i numbers))) (of number));
    }

-- ---- the room of the others

room_by_way : (capacity : ℕ) (flow new amount : ℤ) (b c : Bool) → pos 1 ≤ℤ amount → new ≡ flow +ℤ rise_by b amount → (b ≡ c → ⊥)
    → cond c flow (pos capacity -ℤ flow) ≤ℤ cond c new (pos capacity -ℤ new)
room_by_way capacity flow new amount true true some is apart = absurd (apart refl)
room_by_way capacity flow new amount true false some is apart = omega (arith, ints, some, is)
room_by_way capacity flow new amount false true some is apart = omega (arith, ints, some, is)
room_by_way capacity flow new amount false false some is apart = absurd (apart refl)

room_same : (capacity : ℕ) (flow new : ℤ) (c : Bool) → new ≡ flow → cond c flow (pos capacity -ℤ flow) ≤ℤ cond c new (pos capacity -ℤ new)
room_same capacity flow new true is = omega (arith, ints, is)
room_same capacity flow new false is = omega (arith, ints, is)

eq_test : (r : ℕ) → r ≡ 1 → eqb r 1 ≡ true
eq_test r e = ap (λ x. eqb x 1) e

number_by : (m n : ℕ) → m / 2 ≡ n / 2 → is_back m ≡ is_back n → m ≡ n
number_by m n half parity = ⊎_elim
    (λ (odd : m % 2 ≡ 1). let other : n % 2 ≡ 1 = eqb-true (n % 2) 1 (sym parity ∙ eq_test (m % 2) odd) in omega (arith, half, odd, other))
    (λ (even : m % 2 ≡ 1 → ⊥). let other : n % 2 ≡ 1 → ⊥ = λ e. even (eqb-true (m % 2) 1 (parity ∙ eq_test (n % 2) e)) in omega (arith, half, even, other))
    (cases_eq (m % 2) 1)

-- another number has as much room after a push as before, or more
room_stays : (net new : NetworkState) (amount : ℤ) (number other : ℕ) → number / 2 < length net.flows → pos 1 ≤ℤ amount → new ≡ pushed net (number / 2) (is_back number) amount → number ≢ other
    → room_of net other ≤ℤ room_of new other
room_stays net new amount number other flowing some is apart =
    let after = pushed net (number / 2) (is_back number) amount in
    let capacity = capacity_numbered net.network (other / 2) in
    subst (λ (n : NetworkState). room_of net other ≤ℤ room_of n other) (sym is) (⊎_elim
    (λ (same : other / 2 ≡ number / 2).
    let new_flow : flow_on after (other / 2) ≡ flow_on net (other / 2) +ℤ rise_by (is_back number) amount =
    ap (flow_on after) same ∙ get_or-set_same net.flows (number / 2) (flow_on net (number / 2) +ℤ rise_by (is_back number) amount) (pos 0) flowing ∙ ap (λ k. flow_on net k +ℤ rise_by (is_back number) amount) (sym same) in
    room_by_way capacity (flow_on net (other / 2)) (flow_on after (other / 2)) amount (is_back number) (is_back other) some new_flow (λ parity. apart (number_by number other (sym same) parity)))
    (λ (ne : other / 2 ≢ number / 2).
    room_same capacity (flow_on net (other / 2)) (flow_on after (other / 2)) (is_back other)
    (get_or-set_other net.flows (number / 2) (other / 2) (flow_on net (number / 2) +ℤ rise_by (is_back number) amount) (pos 0) ne))
    (cases_eq (other / 2) (number / 2)))

-- ---- the numbers of a cycle, one after the other

pub begun : (net : NetworkState) (amount : ℤ) (numbers : List ℕ) → IsNetwork net → HaveRoom net amount numbers → IsPartway net net amount numbers 0
begun net amount numbers is have = record {
  pushed = nothing_pushed net amount is;
  left = λ i after below. let has = have i below in has.room;
}

pub inside : (old net : NetworkState) (amount : ℤ) (numbers : List ℕ) (i number : ℕ) → IsPartway old net amount numbers i → HaveRoom old (pos 1) numbers → i < length numbers → get_or numbers i 0 ≡ number
    → number / 2 < length (arcs_of net.network)
inside old net amount numbers i number partway have below is =
    let has = have i below in
    let same = partway.pushed.network in
    subst (λ (n : FlowNetwork). number / 2 < length (arcs_of n)) (sym same) (subst (λ n. n / 2 < length (arcs_of old.network)) is has.below)

pub step : (old net new : NetworkState) (amount : ℤ) (numbers : List ℕ) (i number : ℕ) → IsResidualCycle old numbers → IsPartway old net amount numbers i → pos 1 ≤ℤ amount → i < length numbers → get_or numbers i 0 ≡ number
    → new ≡ pushed net (number / 2) (is_back number) amount → IsNetwork new → IsPartway old new amount numbers (i + 1)
step old net new amount numbers i number cycle partway some below is is_pushed sound =
    let here = get_or numbers i 0 in
    let at : new ≡ pushed net (here / 2) (is_back here) amount = is_pushed ∙ ap (λ n. pushed net (n / 2) (is_back n) amount) (sym is) in
    let there = inside old net amount numbers i here partway cycle.room below refl in
    record {
      pushed = one_more old net new amount numbers i partway.pushed below there at sound;
      left = λ j after within.
          let room = partway.left j (omega (arith, after)) within in
          let stays = room_stays net new amount here (get_or numbers j 0) (omega (arith, there, length-flows net partway.pushed.is)) some at (cycle.apart i j (omega (arith, after)) within) in
          omega (arith, ints, room, stays);
    }

-- ---- a whole cycle

odd_units : (node : ℕ) → IsOdd (unit_balance node)
odd_units node arc = omega (arith, ints)

odd_costs : IsOdd (λ arc. arc.cost)
odd_costs arc = refl

cycle_balances : (old new : NetworkState) (amount : ℤ) (numbers : List ℕ) → IsNetwork old → IsPushedAlong old new amount numbers → IsResidualCycle old numbers → (node : ℕ) → value_of new.excesses node ≡ value_of old.excesses node
cycle_balances old new amount numbers is all cycle node = ⊎_elim
    (λ (below : node < nodes_of old.network).
    let inside : node < nodes_of new.network = subst (λ (n : FlowNetwork). node < nodes_of n) (sym all.network) below in
    let sum = all.sums (unit_balance node) (odd_units node) in
    let arcs = ap (λ (n : FlowNetwork). balance (arcs_of n) new.flows node) all.network in
    omega (arith, ints, is.excesses node below, all.is.excesses node inside, arcs, sum, ap (λ z. amount *ℤ z) (cycle.closed node), *ℤ-zero amount))
    (λ (past : nodes_of old.network ≤ node).
    let same : nodes_of new.network ≡ nodes_of old.network = ap nodes_of all.network in
    get_or_past new.excesses node (pos 0) (omega (arith, all.is.excess_each, same, past)) ∙ sym (get_or_past old.excesses node (pos 0) (omega (arith, is.excess_each, past))))
    (cases_lt node (nodes_of old.network))

product_negative : (a c : ℤ) → pos 1 ≤ℤ a → c ≤ℤ negsuc 0 → (a *ℤ c) <ℤ pos 0
product_negative (pos zero) c some below = absurd (omega (arith, ints, some))
product_negative (pos (suc n)) (pos m) some below = absurd (omega (arith, ints, below))
product_negative (pos (suc n)) (negsuc m) some below = omega (arith, ints)
product_negative (negsuc n) c some below = absurd (omega (arith, ints, some))

cycle_raises : (old new : NetworkState) (amount : ℤ) (numbers : List ℕ) → pos 1 ≤ℤ amount → IsPushedAlong old new amount numbers → IsResidualCycle old numbers → value old <ℤ value new
cycle_raises old new amount numbers some all cycle =
    let sum = all.sums (λ arc. arc.cost) odd_costs in
    let arcs = ap (λ (n : FlowNetwork). inner_product new.flows (map (λ arc. arc.cost) (arcs_of n))) all.network in
    omega (arith, ints, sum, arcs, product_negative amount (total (map (λ number. (arc_both_ways old.network number).cost) numbers)) some cycle.negative)

take_all : {A : Type 0} (xs : List A) → take (length xs) xs ≡ xs
take_all [] = refl
take_all (x ∷ xs) = ap (λ ys. x ∷ ys) (take_all xs)

-- what is left of a cycle once flow was pushed along all of it
pub record IsCancelled (old new : NetworkState) : Type 0 where
  pub excesses : (node : ℕ) → value_of new.excesses node ≡ value_of old.excesses node
  pub value : value old <ℤ value new

pub cancelled : (old new : NetworkState) (amount : ℤ) (numbers : List ℕ) (i : ℕ) → IsNetwork old → IsResidualCycle old numbers → IsPartway old new amount numbers i → pos 1 ≤ℤ amount → i ≡ length numbers → IsCancelled old new
cancelled old new amount numbers i is cycle partway some end =
    let all : IsPushedAlong old new amount numbers = subst (IsPushedAlong old new amount) (ap (λ n. take n numbers) end ∙ take_all numbers) partway.pushed in
    record {
      excesses = cycle_balances old new amount numbers is all cycle;
      value = cycle_raises old new amount numbers some all cycle;
    }

-- ---- the greatest value

value_small : (net : NetworkState) → IsNetwork net → value net ≤ℤ pos (10 ^ 32)
value_small net is =
    let costs = costs_of net.network in
    let small : unsigned_abs (inner_product net.flows costs) ≤ 10 ^ 32 = subst (λ (fs : List ℤ). unsigned_abs (inner_product fs costs) ≤ 10 ^ 32) (take_all net.flows) (costs_so_far_small net (length net.flows) is) in
    let within = within_size (inner_product net.flows costs) (10 ^ 32) small in
    omega (arith, ints, within.0)

size_less : (x y : ℤ) → pos 0 ≤ℤ x → x <ℤ y → unsigned_abs x < unsigned_abs y
size_less (pos a) (pos b) some less = omega (arith, ints, less)
size_less (pos a) (negsuc b) some less = absurd (omega (arith, ints, less))
size_less (negsuc a) y some less = absurd (omega (arith, ints, some))

-- how far a number lies below another one falls as it rises
gap_falls : (old new most : ℤ) → old <ℤ new → new ≤ℤ most → unsigned_abs (most -ℤ new) < unsigned_abs (most -ℤ old)
gap_falls old new most rises within =
    let positive : pos 0 ≤ℤ (most -ℤ new) = omega (arith, ints, within) in
    size_less (most -ℤ new) (most -ℤ old) positive (omega (arith, ints, rises))

pub value_nears : (old new : NetworkState) → IsNetwork new → value old <ℤ value new → unsigned_abs (pos (10 ^ 32) -ℤ value new) < unsigned_abs (pos (10 ^ 32) -ℤ value old)
value_nears old new is rises = gap_falls (value old) (value new) (pos (10 ^ 32)) rises (value_small new is)
