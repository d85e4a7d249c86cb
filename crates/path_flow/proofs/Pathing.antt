-- Flow pushed along a path, from its end back to the source.
use Rattle.std.proofs.Common.{◌≡◌, ◌≢◌, ◌⊎◌, ℕ, ◌+◌, ◌/◌, ◌<◌, Bool, true, false, not, eqb, ℤ, pos, ◌+ℤ◌, ◌-ℤ◌, ◌*ℤ◌, ◌≤ℤ◌, List, Option, Some, length, inl, inr, refl, sym, ap, ◌∙◌, subst, ⊎_elim, arith, get_or-set_same, get_or-set_other}
use Rattle.std.proofs.lemmas.Int.{ints}
use Rattle.std.proofs.lemmas.Bool.{cases_eq}
use Rattle.std.proofs.lemmas.List.{length-set}
use Rattle.std.proofs.Math.IntN.{*ℤ-zero, *ℤ-one}
use lib.IntN.{one}
use Rattle.bound_graph.specs.declared.arc.Arc.{Arc}
use Rattle.bound_graph.specs.Values.{value_of}
use Rattle.bound_graph.specs.Reverses.{turned, is_back}
use Rattle.flow_core.specs.Layout.{FlowNetwork, arcs_of, arc_numbered}
use Rattle.flow_core.specs.State.{NetworkState, IsNetwork, flow_on, one_if, added, rise_by, pushed}
use Rattle.flow_core.specs.Views.{arc_both_ways}
use Rattle.flow_core.proofs.Elements.{added_at}
use Rattle.flow_core.proofs.Sizes.{arc_valid, length-flows}
use Rattle.path_flow.specs.declared.search.Direction.{Direction}
use Rattle.path_flow.specs.declared.search.Direction.TheVariants.{Forwards, Backwards}
use Rattle.path_flow.specs.declared.search.Task.{Task}
use Rattle.path_flow.specs.declared.search.Label.{Label}
use Rattle.path_flow.specs.Steps.{reduced_cost}
use Rattle.path_flow.specs.Search.{takes_from, signed, label_at, IsLinked}
use Rattle.path_flow.specs.Flow.{amount_if, IsPushed}

-- ---- one push

times_if : (z : ℤ) (b : Bool) → z *ℤ one_if b ≡ amount_if b z
unfolding one
times_if z true = *ℤ-one z
times_if z false = *ℤ-zero z

minus_if : (z : ℤ) (b : Bool) → amount_if b (pos 0 -ℤ z) ≡ pos 0 -ℤ amount_if b z
minus_if z true = refl
minus_if z false = omega (arith, ints)

excess_raised : (excesses : List ℤ) (tail head : ℕ) (rise : ℤ) (x : ℕ) → tail < length excesses → head < length excesses
    → value_of (added (added excesses tail (pos 0 -ℤ rise)) head rise) x ≡ (value_of excesses x +ℤ amount_if (eqb head x) rise) -ℤ amount_if (eqb tail x) rise
excess_raised excesses tail head rise x out into =
    let taken = added excesses tail (pos 0 -ℤ rise) in
    let less = added_at excesses tail x (pos 0 -ℤ rise) out in
    let more = added_at taken head x rise (omega (arith, length-set excesses tail (value_of excesses tail +ℤ (pos 0 -ℤ rise)))) in
    let first = times_if (pos 0 -ℤ rise) (eqb tail x) ∙ minus_if rise (eqb tail x) in
    let second = times_if rise (eqb head x) in
    omega (arith, ints, less, more, first, second)

-- what a push changes at a node, by the ends of what flow moves over
excess_pushed : (net : NetworkState) (arc : ℕ) (back : Bool) (amount : ℤ) (x : ℕ) → IsNetwork net → arc < length (arcs_of net.network)
    → value_of (pushed net arc back amount).excesses x
    ≡ (value_of net.excesses x +ℤ amount_if (eqb (turned back (arc_numbered net.network arc)).head x) amount) -ℤ amount_if (eqb (turned back (arc_numbered net.network arc)).tail x) amount
excess_pushed net arc true amount x is below =
    let ends = arc_numbered net.network arc in
    let valid = arc_valid net.network arc is.layout below in
    let raised = excess_raised net.excesses ends.tail ends.head (pos 0 -ℤ amount) x (omega (arith, valid.tail, is.excess_each)) (omega (arith, valid.head, is.excess_each)) in
    let first = minus_if amount (eqb ends.head x) in
    let second = minus_if amount (eqb ends.tail x) in
    omega (arith, ints, raised, first, second)
excess_pushed net arc false amount x is below =
    let ends = arc_numbered net.network arc in
    let valid = arc_valid net.network arc is.layout below in
    excess_raised net.excesses ends.tail ends.head amount x (omega (arith, valid.tail, is.excess_each)) (omega (arith, valid.head, is.excess_each))

-- the same by the step that a search took
pub excess_of_step : (net : NetworkState) (direction : Direction) (arc : ℕ) (back : Bool) (amount : ℤ) (x : ℕ) → IsNetwork net → arc < length (arcs_of net.network)
    → value_of (pushed net arc (takes_from direction back) amount).excesses x
    ≡ (value_of net.excesses x +ℤ signed direction (amount_if (eqb (turned back (arc_numbered net.network arc)).head x) amount))
    -ℤ signed direction (amount_if (eqb (turned back (arc_numbered net.network arc)).tail x) amount)
excess_of_step net Forwards arc back amount x is below = excess_pushed net arc back amount x is below
excess_of_step net Backwards arc true amount x is below = let push = excess_pushed net arc false amount x is below in omega (arith, ints, push)
excess_of_step net Backwards arc false amount x is below = let push = excess_pushed net arc true amount x is below in omega (arith, ints, push)

pub flow_elsewhere : (net : NetworkState) (arc other : ℕ) (back : Bool) (amount : ℤ) → other ≢ arc → flow_on (pushed net arc back amount) other ≡ flow_on net other
flow_elsewhere net arc other back amount ne = get_or-set_other net.flows arc other (flow_on net arc +ℤ rise_by back amount) (pos 0) ne

rise_at_most : (back : Bool) (amount : ℤ) → pos 1 ≤ℤ amount → rise_by back amount ≤ℤ amount
rise_at_most true amount some = omega (arith, ints, some)
rise_at_most false amount some = omega (arith, ints)

flow_here : (net : NetworkState) (arc : ℕ) (back : Bool) (amount : ℤ) → IsNetwork net → arc < length (arcs_of net.network) → pos 1 ≤ℤ amount → flow_on (pushed net arc back amount) arc ≤ℤ (flow_on net arc +ℤ amount)
flow_here net arc back amount is below some =
    let here = get_or-set_same net.flows arc (flow_on net arc +ℤ rise_by back amount) (pos 0) (omega (arith, below, length-flows net is)) in
    omega (arith, ints, here, rise_at_most back amount some)

-- ---- two nodes are not reached over one arc

label_is : (option : Option Label) (first second : Label) → option ≡ Some first → option ≡ Some second → first ≡ second
label_is option first second one two = let both = sym one ∙ two in cc

same_or_not : (a b : Bool) → (a ≡ b) ⊎ (a ≡ not b)
same_or_not true true = inl refl
same_or_not true false = inr refl
same_or_not false true = inr refl
same_or_not false false = inl refl

turned_round : (b : Bool) (arc : Arc) → (turned (not b) arc).tail ≡ (turned b arc).head
turned_round true arc = refl
turned_round false arc = refl

-- a node that lies nearer to the source by hops was reached over another arc
pub other_arc : (net : NetworkState) (direction : Direction) (labels : List (Option Label)) (x v : ℕ) (label here : Label)
    → label_at labels x ≡ Some label → label_at labels v ≡ Some here → IsLinked net direction labels x label → IsLinked net direction labels v here
    → label.hops < here.hops → label.number / 2 ≢ here.number / 2
other_arc net direction labels x v label here is_x is_v reached_x reached_v nearer same =
    let arc : arc_numbered net.network (label.number / 2) ≡ arc_numbered net.network (here.number / 2) = ap (arc_numbered net.network) same in
    ⊎_elim
    (λ (e : is_back label.number ≡ is_back here.number).
    let ends : arc_both_ways net.network label.number ≡ arc_both_ways net.network here.number = λ i. turned (e i) (arc i) in
    let node : x ≡ v = sym reached_x.head ∙ ap (λ (a : Arc). a.head) ends ∙ reached_v.head in
    let one : label ≡ here = label_is (label_at labels x) label here is_x (ap (label_at labels) node ∙ is_v) in
    let hops = ap (λ (l : Label). l.hops) one in
    absurd (omega (arith, hops, nearer)))
    (λ (e : is_back label.number ≡ not (is_back here.number)).
    let ends : arc_both_ways net.network label.number ≡ turned (not (is_back here.number)) (arc_numbered net.network (here.number / 2)) = λ i. turned (e i) (arc i) in
    let tail : (arc_both_ways net.network label.number).tail ≡ v = ap (λ (a : Arc). a.tail) ends ∙ turned_round (is_back here.number) (arc_numbered net.network (here.number / 2)) ∙ reached_v.head in
    let before : reached_x.before ≡ here = label_is (label_at labels v) reached_x.before here (ap (label_at labels) (sym tail) ∙ reached_x.from) is_v in
    let hops = ap (λ (l : Label). l.hops) before in
    absurd (omega (arith, hops, nearer, reached_x.hops)))
    (same_or_not (is_back label.number) (is_back here.number))

-- ---- one arc of the path more

pub nothing_pushed : (task : Task) (labels : List (Option Label)) (end : ℕ) (amount : ℤ) (net : NetworkState) → pos 1 ≤ℤ amount → IsPushed task labels end end amount net net
nothing_pushed task labels end amount net some = record {
  network = refl;
  potentials = refl;
  excesses = λ x below. omega (arith, ints);
  tight = λ arc cost. refl;
  once = λ arc. omega (arith, ints, some);
  nearer = λ x label here other is_x is_v hops. refl;
  changes = λ here last is_v is_end. let one = ap (λ (l : Label). l.hops) (label_is (label_at labels end) here last is_v is_end) in omega (arith, one);
}

-- the push over the arc by which a node was reached
pub pushed_more : (task : Task) (labels : List (Option Label)) (end v : ℕ) (amount : ℤ) (old net new : NetworkState) (here : Label)
    → IsPushed task labels end v amount old net → IsNetwork net → pos 1 ≤ℤ amount → v ≢ task.source
    → label_at labels v ≡ Some here → IsLinked old task.direction labels v here → reduced_cost old (here.number / 2) ≡ pos 0
    → ((x : ℕ) (label : Label) → x ≢ task.source → label_at labels x ≡ Some label → IsLinked old task.direction labels x label)
    → new ≡ pushed net (here.number / 2) (takes_from task.direction (is_back here.number)) amount
    → IsPushed task labels end (arc_both_ways old.network here.number).tail amount old new
pushed_more task labels end v amount old net new here so_far is some inner is_v reached tight all push =
    let arc = here.number / 2 in
    let back = is_back here.number in
    let takes = takes_from task.direction back in
    let u = (arc_both_ways old.network here.number).tail in
    let below : arc < length (arcs_of net.network) = subst (λ (n : FlowNetwork). arc < length (arcs_of n)) (sym so_far.network) reached.step.below in
    let before_of : (h : Label) → label_at labels u ≡ Some h → here.hops ≡ h.hops + 1 =
    λ h is_u. let same = ap (λ (l : Label). l.hops) (label_is (label_at labels u) reached.before h reached.from is_u) in omega (arith, same, reached.hops) in
    let unchanged : flow_on net arc ≡ flow_on old arc = so_far.nearer v here here inner is_v is_v (omega arith) in
    subst (λ (state : NetworkState). IsPushed task labels end u amount old state) (sym push) (record {
      network = so_far.network;
      potentials = so_far.potentials;
      excesses = λ x inside.
          let step = excess_of_step net task.direction arc back amount x is below in
          let head : amount_if (eqb (turned back (arc_numbered net.network arc)).head x) amount ≡ amount_if (eqb v x) amount =
          ap (λ (n : FlowNetwork). amount_if (eqb (turned back (arc_numbered n arc)).head x) amount) so_far.network ∙ ap (λ n. amount_if (eqb n x) amount) reached.head in
          let tail : amount_if (eqb (turned back (arc_numbered net.network arc)).tail x) amount ≡ amount_if (eqb u x) amount =
          ap (λ (n : FlowNetwork). amount_if (eqb (turned back (arc_numbered n arc)).tail x) amount) so_far.network in
          let signed_head = ap (signed task.direction) head in
          let signed_tail = ap (signed task.direction) tail in
          omega (arith, ints, step, signed_head, signed_tail, so_far.excesses x inside);
      tight = λ k cost. flow_elsewhere net arc k takes amount (λ e. cost (ap (reduced_cost old) e ∙ tight)) ∙ so_far.tight k cost;
      once = λ k. ⊎_elim
          (λ (e : k ≡ arc).
          let pushed_here = flow_here net arc takes amount is below some in
          subst (λ n. flow_on (pushed net arc takes amount) n ≤ℤ (flow_on old n +ℤ amount)) (sym e) (omega (arith, ints, pushed_here, unchanged)))
          (λ (other : k ≢ arc). let kept = flow_elsewhere net arc k takes amount other in omega (arith, ints, kept, so_far.once k))
          (cases_eq k arc);
      nearer = λ x label h other is_x is_u hops.
          let farther = before_of h is_u in
          let apart = other_arc old task.direction labels x v label here is_x is_v (all x label other is_x) reached (omega (arith, hops, farther)) in
          flow_elsewhere net arc (label.number / 2) takes amount apart ∙ so_far.nearer x label here other is_x is_v (omega (arith, hops, farther));
      changes = λ h last is_u is_end.
          let farther = before_of h is_u in
          omega (arith, farther, so_far.changes here last is_v is_end);
    })
