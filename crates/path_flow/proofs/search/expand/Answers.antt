use Rattle.std.proofs.Common.{◌≡◌, ◌<◌, ◌+◌, ℕ, zero, suc, List, [], ◌∷◌, Some, length, get_or, drop, inl, refl, sym, ◌∙◌, subst, add-one, drop-cons, arith}
use Rattle.std.specs.Prelude.{Contains}
use Rattle.bound_graph.specs.Graph.{leaving}
use Rattle.bound_graph.specs.Reverses.{with_reverses}
use Rattle.flow_core.specs.Layout.{arcs_of}
use Rattle.flow_core.specs.State.{NetworkState}
use Rattle.path_flow.specs.declared.search.Task.{Task}
use Rattle.path_flow.specs.declared.search.Label.{Label}
use Rattle.path_flow.specs.Reach.{Reach}
use Rattle.path_flow.specs.Search.{label_at}
use Rattle.path_flow.specs.Searching.{IsLast, IsSearching, StepsFrom}
use Rattle.path_flow.proofs.Trees.{distance_small, hops_small, same_label}
use Rattle.path_flow.proofs.Numbers.{IsLeaving, leaving_is, is_leaving}
use Rattle.path_flow.proofs.Expanding.{passed}
use Rattle.path_flow.proofs.Stepping.{IsAmong, step_over}
use Rattle.path_flow.proofs.search.expand.Goals as goal

is_at : (xs : List ℕ) (i d : ℕ) → i < length xs → get_or xs i d ≡ get_or xs i 0
is_at [] i d below = absurd (omega (arith, below))
is_at (x ∷ xs) zero d below = refl
is_at (x ∷ xs) (suc i) d below = is_at xs i d (omega (arith, below))

leaves : (net : NetworkState) (node i : ℕ) (items : List ℕ) → items ≡ leaving (with_reverses (arcs_of net.network)) node → i < length items → IsLeaving net.network node (get_or items i 0)
leaves net node i items same below =
    leaving_is net.network node (get_or items i 0) (subst (λ (l : List ℕ). Contains l (get_or items i 0)) same (i, below, is_at items i (get_or items i 0) below))

-- the numbers that are left, of which the first one is looked at
front : (xs items : List ℕ) (i : ℕ) → items ≡ xs → i < length items → drop i xs ≡ get_or items i 0 ∷ drop (i + 1) xs
front xs items i same below =
    drop-cons xs i 0 (subst (λ (l : List ℕ). i < length l) same below) ∙ (λ j. get_or (sym same j) i 0 ∷ drop (sym (add-one i) j) xs)

last_is : (task : Task) (reach : Reach) (node : ℕ) (read : Label) (last : (label : Label) × IsLast task reach node label) → Some read ≡ label_at reach.labels node → read ≡ last.0
last_is task reach node read last is = same_label (label_at reach.labels node) read last.0 (sym is) last.1.settled.is

pub reach_over-requires : goal.reach_over-requires
reach_over-requires c =
    let net = c.args.net.now in
    let old = c.args.labels.now in
    let is = c.loop-number.invariant in
    let leave = leaves net c.args.node c.loop-number.number-index c.out_arcs-number-items.result.now c.out_arcs-number-items.ensures c.loop-number-test.true in
    let tree = is.searching.tree in
    record {
      network = c.requires.network;
      number = leave.below;
      near = distance_small net c.args.task c.loop-number.labels.labels c.args.node c.in-Some.last c.requires.network c.requires.optimal tree is.is_last.settled.is;
      few = hops_small net c.args.task c.loop-number.labels.labels c.args.node c.in-Some.last c.requires.network tree is.is_last.settled.is;
      size = tree.size;
      keyed = is.searching.keyed;
    }

pub loop-number-init : goal.loop-number-init
loop-number-init c =
    let net = c.args.net.now in
    let node = c.args.node in
    let read = c.in-Some.ensures in
    record {
      searching = passed net c.args.task c.args.labels.now (StepsFrom net node) (IsAmong (leaving (with_reverses (arcs_of net.network)) node)) c.requires.searching
          (λ arc back room from settled left. inl (is_leaving net.network node arc back room.below left));
      is_last = subst (λ (l : Label). IsLast c.args.task c.args.labels.now node l) (sym (last_is c.args.task c.args.labels.now node c.in-Some.last c.requires.last read.label)) c.requires.last.1;
      same = read.size;
      counted = refl;
    }

pub loop-number-preserved : goal.loop-number-preserved
loop-number-preserved c =
    let net = c.args.net.now in
    let node = c.args.node in
    let i = c.loop-number.number-index in
    let items = c.out_arcs-number-items.result.now in
    let xs = leaving (with_reverses (arcs_of net.network)) node in
    let is = c.loop-number.invariant in
    let leave = leaves net node i items c.out_arcs-number-items.ensures c.loop-number-test.true in
    let searching : IsSearching net c.args.task (IsAmong (get_or items i 0 ∷ drop (i + 1) xs)) c.loop-number.labels =
    subst (λ (l : List ℕ). IsSearching net c.args.task (IsAmong l) c.loop-number.labels) (front xs items i c.out_arcs-number-items.ensures c.loop-number-test.true) is.searching in
    let stepped = step_over net c.args.task c.loop-number.labels c.reach_over.new.labels node (get_or items i 0) (drop (i + 1) xs) c.in-Some.last c.requires.network c.requires.optimal searching is.is_last leave.tail leave.below is.same
    c.reach_over.ensures.none c.reach_over.ensures.some in
    record {
      searching = stepped.searching;
      is_last = stepped.is_last;
      same = stepped.same;
      counted = stepped.counted ∙ is.counted;
    }
