-- A walk that comes back to one of its nodes.
use Rattle.std.proofs.Common.{◌≡◌, ◌≢◌, ℕ, suc, ◌+◌, ◌<◌, ◌≤◌, List, [], ◌∷◌, length, get_or, map, Option, None, Some, refl, sym, ap, ◌∙◌, ⊎_elim, arith}
use Rattle.std.specs.Option.{option_map, unwrap_or}
use Rattle.std.proofs.lemmas.Grind.{common_steps}
use Rattle.std.proofs.lemmas.Bool.{cases_lt}
use Rattle.std.proofs.lemmas.List.{ext_get_or, length-map, get_or-map}
use Rattle.std.proofs.lemmas.List.Elements.{recursion_from_All, All-from_get_or}
use Rattle.words.specs.Lists.{Distinct, rotated}
use Rattle.neg_cycle.specs.declared.forest.Parent.{Parent}
use Rattle.neg_cycle.specs.Forest.{parent_at, IsParentCycle}
use Rattle.neg_cycle.specs.ForestWalk.{tail_at}

pub distinct : (xs : List ℕ) → ((i j : ℕ) → i < length xs → j < length xs → get_or xs i 0 ≡ get_or xs j 0 → i ≡ j) → Distinct xs
distinct [] h = tt
distinct (x ∷ xs) h = (
  recursion_from_All (λ y. x ≢ y) xs (All-from_get_or (λ y. x ≢ y) xs 0 (λ i l e. absurd (omega (arith, h 0 (suc i) (omega arith) (omega arith) e)))),
  distinct xs (λ i j l m e. omega (arith, h (suc i) (suc j) (omega arith) (omega arith) e)),
)

abbrev no_parent : Parent
no_parent = record { arc = 0; tail = 0 }

abbrev parent_of : List (Option Parent) → ℕ → Parent
parent_of parents node = unwrap_or (parent_at parents node) no_parent

parent_is : (o : Option Parent) (tail : ℕ) → option_map (λ parent. parent.tail) o ≡ Some tail →
    (o ≡ Some (unwrap_or o no_parent)) × ((unwrap_or o no_parent).tail ≡ tail)
parent_is None tail h = absurd (cc)
parent_is (Some parent) tail h = (refl, cc)

get_or-rotated : (xs : List ℕ) (i : ℕ) → i + 1 < length xs → get_or (rotated xs) i 0 ≡ get_or xs (i + 1) 0
get_or-rotated [] i l = absurd (omega arith)
get_or-rotated (x ∷ xs) i l = grind (arith, common_steps)

get_or-rotated_last : (xs : List ℕ) (i : ℕ) → i + 1 ≡ length xs → get_or (rotated xs) i 0 ≡ get_or xs 0 0
get_or-rotated_last [] i l = absurd (omega arith)
get_or-rotated_last (x ∷ xs) i l = grind (arith, common_steps)

length-rotated : (xs : List ℕ) → length (rotated xs) ≡ length xs
length-rotated [] = refl
length-rotated (x ∷ xs) = grind (arith, common_steps)

-- Each one's parent's tail is the next, the last one's the first.
pub record IsClosed (parents : List (Option Parent)) (nodes : List ℕ) : Type 0 where
  pub some : 1 ≤ length nodes
  pub steps : (i : ℕ) → i + 1 < length nodes → tail_at parents (get_or nodes i 0) ≡ Some (get_or nodes (i + 1) 0)
  pub last : (i : ℕ) → i + 1 ≡ length nodes → tail_at parents (get_or nodes i 0) ≡ Some (get_or nodes 0 0)
  pub apart : (i j : ℕ) → i < length nodes → j < length nodes → get_or nodes i 0 ≡ get_or nodes j 0 → i ≡ j

tails : (parents : List (Option Parent)) (nodes : List ℕ) → IsClosed parents nodes → (i : ℕ) → i < length nodes →
    tail_at parents (get_or nodes i 0) ≡ Some (get_or (rotated nodes) i 0)
tails parents nodes closed i l = ⊎_elim
    (λ more. rw (get_or-rotated nodes i more) (closed.steps i more))
    (λ none. let last : i + 1 ≡ length nodes = omega arith in rw (get_or-rotated_last nodes i last) (closed.last i last))
    (cases_lt (i + 1) (length nodes))

-- the parent at a place of a closed walk, as the one list and the other have it
parents_at : (parents : List (Option Parent)) (nodes : List ℕ) → IsClosed parents nodes → (i : ℕ) → i < length nodes →
    get_or (map (parent_at parents) nodes) i None ≡ get_or (map Some (map (parent_of parents) nodes)) i None
parents_at parents nodes closed i l =
    let is = (parent_is (parent_at parents (get_or nodes i 0)) (get_or (rotated nodes) i 0) (tails parents nodes closed i l)).0 in
    let left = get_or-map (parent_at parents) nodes i 0 None l in
    let right = get_or-map Some (map (parent_of parents) nodes) i no_parent None (rw length-map l) in
    let inner = get_or-map (parent_of parents) nodes i 0 no_parent l in
    left ∙ is ∙ sym (right ∙ ap Some inner)

tails_at : (parents : List (Option Parent)) (nodes : List ℕ) → IsClosed parents nodes → (i : ℕ) → i < length nodes →
    get_or (map (λ (step : Parent). step.tail) (map (parent_of parents) nodes)) i 0 ≡ get_or (rotated nodes) i 0
tails_at parents nodes closed i l =
    let is = (parent_is (parent_at parents (get_or nodes i 0)) (get_or (rotated nodes) i 0) (tails parents nodes closed i l)).1 in
    let right = get_or-map (λ (step : Parent). step.tail) (map (parent_of parents) nodes) i no_parent 0 (rw length-map l) in
    let inner = get_or-map (parent_of parents) nodes i 0 no_parent l in
    right ∙ ap (λ (step : Parent). step.tail) inner ∙ is

pub cycle : (parents : List (Option Parent)) (nodes : List ℕ) → IsClosed parents nodes → IsParentCycle parents nodes
cycle parents nodes closed = record {
  steps = map (parent_of parents) nodes;
  parents_of = ext_get_or None (map (parent_at parents) nodes) (map Some (map (parent_of parents) nodes))
      (grind (arith, common_steps)) (λ i l. parents_at parents nodes closed i (rw (← length-map nodes (parent_at parents)) l));
  some = closed.some;
  closed = ext_get_or 0 (map (λ step. step.tail) (map (parent_of parents) nodes)) (rotated nodes)
      (length-map (map (parent_of parents) nodes) (λ step. step.tail) ∙ length-map nodes (parent_of parents) ∙ sym (length-rotated nodes))
      (λ i l. tails_at parents nodes closed i (simp length-map at l));
  simple = distinct nodes closed.apart;
}
