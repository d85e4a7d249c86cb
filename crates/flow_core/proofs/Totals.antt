-- The excesses of all nodes add up to 0.
use Rattle.std.proofs.Common.{◌≡◌, ℕ, zero, suc, ◌+◌, ◌<◌, ◌≤◌, false, eqb, ⊎_elim, ℤ, pos, ◌+ℤ◌, ◌-ℤ◌, ◌*ℤ◌, List, [], ◌∷◌, length, refl, sym, ap, ◌∙◌, subst, arith}
use Rattle.std.specs.List.{AllByRecursion}
use Rattle.std.proofs.lemmas.Int.{ints}
use Rattle.std.proofs.lemmas.Bool.{eq-eqb, ne_eqb, cases_eq, cases_lt}
use Rattle.std.proofs.lemmas.List.{get_or_past}
use Rattle.std.proofs.Math.IntN.{*ℤ-zero}
use Rattle.words.proofs.Products.{mul_sum}
use Rattle.bound_graph.specs.declared.arc.Arc.{Arc}
use Rattle.bound_graph.specs.Arcs.{IsArc}
use Rattle.flow_core.specs.Layout.{arcs_of}
use Rattle.flow_core.specs.State.{one_if, unit_balance, balance}
use Rattle.flow_core.specs.Laws.{BalancedEverywhere}
use Rattle.flow_core.proofs.Sizes.{arcs_valid}

-- the sum of what is at the nodes below a count
sum_below : (ℕ → ℤ) → ℕ → ℤ
sum_below f zero = pos 0
sum_below f (suc n) = sum_below f n +ℤ f n

none_at : (node n : ℕ) → n ≤ node → sum_below (λ v. one_if (eqb node v)) n ≡ pos 0
unfolding sum_below
none_at node zero above = refl
none_at node (suc n) above =
    let away : eqb node n ≡ false = ne_eqb node n (λ e. omega arith) in
    omega (arith, ints, none_at node n (omega arith), ap one_if away)

one_at_node : (node n : ℕ) → node < n → sum_below (λ v. one_if (eqb node v)) n ≡ pos 1
unfolding sum_below
one_at_node node zero below = absurd (omega arith)
one_at_node node (suc n) below = ⊎_elim
    (λ (same : node ≡ n). omega (arith, ints, none_at node n (omega arith), ap one_if (eq-eqb node n same)))
    (λ (other : node ≡ n → ⊥). omega (arith, ints, one_at_node node n (omega (arith, other)), ap one_if (ne_eqb node n other)))
    (cases_eq node n)

unit_total : (arc : Arc) (n : ℕ) → sum_below (λ v. unit_balance v arc) n ≡ sum_below (λ v. one_if (eqb arc.head v)) n -ℤ sum_below (λ v. one_if (eqb arc.tail v)) n
unfolding sum_below
unit_total arc zero = omega (arith, ints)
unit_total arc (suc n) = omega (arith, ints, unit_total arc n)

balance_total : (arc : Arc) (arcs : List Arc) (flow : ℤ) (flows : List ℤ) (n : ℕ)
    → sum_below (balance (arc ∷ arcs) (flow ∷ flows)) n ≡ (flow *ℤ sum_below (λ v. unit_balance v arc) n) +ℤ sum_below (balance arcs flows) n
unfolding sum_below
balance_total arc arcs flow flows zero = omega (arith, ints, *ℤ-zero flow)
balance_total arc arcs flow flows (suc n) =
    omega (arith, ints, balance_total arc arcs flow flows n, mul_sum flow (sum_below (λ v. unit_balance v arc) n) (unit_balance n arc))

nothing_total : (arcs : List Arc) (n : ℕ) → sum_below (balance arcs []) n ≡ pos 0
unfolding sum_below
nothing_total arcs zero = refl
nothing_total arcs (suc n) = omega (arith, ints, nothing_total arcs n)

no_arcs_total : (flows : List ℤ) (n : ℕ) → sum_below (balance [] flows) n ≡ pos 0
unfolding sum_below
no_arcs_total flows zero = refl
no_arcs_total [] (suc n) = omega (arith, ints, no_arcs_total [] n)
no_arcs_total (flow ∷ flows) (suc n) = omega (arith, ints, no_arcs_total (flow ∷ flows) n)

all_balances : (arcs : List Arc) (flows : List ℤ) (n : ℕ) → AllByRecursion (IsArc n) arcs → sum_below (balance arcs flows) n ≡ pos 0
all_balances [] flows n valid = no_arcs_total flows n
all_balances (arc ∷ arcs) [] n valid = nothing_total (arc ∷ arcs) n
all_balances (arc ∷ arcs) (flow ∷ flows) n valid =
    let none : sum_below (λ v. unit_balance v arc) n ≡ pos 0 = omega (arith, ints, unit_total arc n, one_at_node arc.head n valid.0.head, one_at_node arc.tail n valid.0.tail) in
    omega (arith, ints, balance_total arc arcs flow flows n, ap (λ z. flow *ℤ z) none, *ℤ-zero flow, all_balances arcs flows n valid.1)

-- where all nodes but node 0 have nothing, the sum is what node 0 has
first_alone : (f : ℕ → ℤ) (m : ℕ) → ((node : ℕ) → node < m → f (suc node) ≡ pos 0) → sum_below f (suc m) ≡ f 0
unfolding sum_below
first_alone f zero others = omega (arith, ints)
first_alone f (suc m) others = omega (arith, ints, first_alone f m (λ node below. others node (omega arith)), others m (omega arith))

pub everywhere : BalancedEverywhere
everywhere net is balanced zero =
    let arcs = arcs_of net.network in
    let m = length net.network.values in
    let nodes : m + 1 ≡ suc m = omega arith in
    let total = all_balances arcs net.flows (suc m) (subst (λ n. AllByRecursion (IsArc n) arcs) nodes (arcs_valid net.network is.layout)) in
    let others : (node : ℕ) → node < m → balance arcs net.flows (suc node) ≡ pos 0 = λ node below. sym (is.excesses (suc node) (omega arith)) ∙ balanced node below in
    is.excesses 0 (omega arith) ∙ sym (first_alone (balance arcs net.flows) m others) ∙ total
everywhere net is balanced (suc reading) = ⊎_elim
    (λ (below : reading < length net.network.values). balanced reading below)
    (λ (past : length net.network.values ≤ reading). get_or_past net.excesses (suc reading) (pos 0) (omega (arith, is.excess_each)))
    (cases_lt reading (length net.network.values))
