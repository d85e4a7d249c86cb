-- Which numbers are among those of the arcs that leave a node.
use Rattle.std.proofs.Common.{◌≡◌, ℕ, zero, suc, ◌+◌, Bool, true, false, cond, eqb, List, [], ◌∷◌, Contains, refl, sym, ap, ◌∙◌, subst, ⊎_elim, arith}
use Rattle.std.proofs.lemmas.Bool.{eqb-true, eq-eqb, cond-true}
use Rattle.words.proofs.Lists.{contains_later, contains_cases}
use Rattle.bound_graph.specs.declared.arc.Arc.{Arc}
use Rattle.bound_graph.specs.Graph.{leaving, leaving_from}
use Rattle.bound_graph.specs.Nodes.{Leaves, LeavingExactly}

-- the arc of a number, counted on from another, leaves the node
record LeavesFrom (start : ℕ) (arcs : List Arc) (node number : ℕ) : Type 0 where
  place : ℕ
  is : number ≡ start + place
  leaves : Leaves arcs place node

-- one more arc in front
later : (start : ℕ) (arc : Arc) (arcs : List Arc) (node number : ℕ) → LeavesFrom (start + 1) arcs node number → LeavesFrom start (arc ∷ arcs) node number
later start arc arcs node number from = record { place = suc from.place; is = omega (arith, from.is); leaves = from.leaves }

first_or_later : (start : ℕ) (arc : Arc) (arcs : List Arc) (node number : ℕ) (same : Bool) → eqb arc.tail node ≡ same
    → Contains (cond same (start ∷ leaving_from (start + 1) arcs node) (leaving_from (start + 1) arcs node)) number
    → (Contains (leaving_from (start + 1) arcs node) number → LeavesFrom (start + 1) arcs node number) → LeavesFrom start (arc ∷ arcs) node number
first_or_later start arc arcs node number true e h rest = ⊎_elim
    (λ (first : start ≡ number). record { place = 0; is = omega arith; leaves = (arc, refl, eqb-true arc.tail node e) })
    (λ (others : Contains (leaving_from (start + 1) arcs node) number). later start arc arcs node number (rest others))
    (contains_cases start (leaving_from (start + 1) arcs node) number h)
first_or_later start arc arcs node number false e h rest = later start arc arcs node number (rest h)

leaves_if_among : (start : ℕ) (arcs : List Arc) (node number : ℕ) → Contains (leaving_from start arcs node) number → LeavesFrom start arcs node number
leaves_if_among start [] node number h = absurd (omega (arith, h.1))
leaves_if_among start (arc ∷ arcs) node number h =
    first_or_later start arc arcs node number (eqb arc.tail node) refl h (leaves_if_among (start + 1) arcs node number)

behind : (same : Bool) (start : ℕ) (rest : List ℕ) (number : ℕ) → Contains rest number → Contains (cond same (start ∷ rest) rest) number
behind true start rest number h = contains_later start rest number h
behind false start rest number h = h

among_if_leaves : (start : ℕ) (arcs : List Arc) (node place : ℕ) → Leaves arcs place node → Contains (leaving_from start arcs node) (start + place)
among_if_leaves start [] node place leaves = absurd (let none = leaves.1 in cc)
among_if_leaves start (arc ∷ arcs) node zero leaves =
    let this : arc ≡ leaves.0 = let some = leaves.1 in cc in
    let same : eqb arc.tail node ≡ true = eq-eqb arc.tail node (ap (λ (a : Arc). a.tail) this ∙ leaves.2) in
    let list = cond-true (eqb arc.tail node) (start ∷ leaving_from (start + 1) arcs node) (leaving_from (start + 1) arcs node) same in
    let here : start ≡ start + 0 = omega arith in
    subst (λ (l : List ℕ). Contains l (start + 0)) (sym list) (0, omega arith, here)
among_if_leaves start (arc ∷ arcs) node (suc place) leaves =
    let on : start + 1 + place ≡ start + suc place = omega arith in
    behind (eqb arc.tail node) start (leaving_from (start + 1) arcs node) (start + suc place)
    (subst (Contains (leaving_from (start + 1) arcs node)) on (among_if_leaves (start + 1) arcs node place leaves))

pub exactly : LeavingExactly
exactly arcs node number = (
  λ among.
      let from = leaves_if_among 0 arcs node number among in
      let at : from.place ≡ number = omega (arith, from.is) in
      subst (λ k. Leaves arcs k node) at from.leaves,
  λ leaves.
      let at : 0 + number ≡ number = omega arith in
      subst (Contains (leaving arcs node)) at (among_if_leaves 0 arcs node number leaves),
)
