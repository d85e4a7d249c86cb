-- The keys of a window with one more at the end, and without the first.
use Rattle.std.proofs.Common.{◌≡◌, ℤ, ◌<ℤ◌, append-nil, List, [], ◌∷◌, ◌++◌, refl, sym, ap, ◌∙◌, subst, arith}
use Rattle.std.specs.Prelude.{All}
use Rattle.std.specs.List.{AllByRecursion}
use Rattle.std.proofs.lemmas.Int.{ints}
use Rattle.std.proofs.lemmas.List.Elements.{recursion_from_All}
use Rattle.words.proofs.Lists.{all_of_append}
use Rattle.order_window.specs.declared.key.Key.{Key}
use Rattle.order_window.specs.Window.{IsAdded}

no_less : (a b : ℤ) → a <ℤ b → b <ℤ a → ⊥
no_less a b g h = omega (arith, ints)

not_itself : (a b : ℤ) → a <ℤ b → a ≡ b → ⊥
not_itself a b h e = omega (arith, ints)

none_after : (key : Key) (after : List Key) → AllByRecursion (λ other. other.ticks <ℤ key.ticks) after → AllByRecursion (λ other. key.ticks <ℤ other.ticks) after → after ≡ []
none_after key [] earlier later = refl
none_after key (other ∷ after) earlier later = absurd (no_less other.ticks key.ticks earlier.0 later.0)

at_end : (before after : List Key) (key : Key) (old new : List Key) → old ≡ before ++ after → new ≡ before ++ key ∷ after → after ≡ [] → new ≡ old ++ key ∷ []
at_end before after key old new e f none =
    let O : List Key → Type 0 = λ ks. old ≡ before ++ ks in
    let N : List Key → Type 0 = λ ks. new ≡ before ++ key ∷ ks in
    let before_is : old ≡ before = subst O none e ∙ append-nil before in
    subst N none f ∙ ap (λ (ks : List Key). ks ++ key ∷ []) (sym before_is)

-- added after all others, a key stands at the end
pub added_last : (key : Key) (old new : List Key) → IsAdded key old new → All (λ other. other.ticks <ℤ key.ticks) old → new ≡ old ++ key ∷ []
added_last key old new added all =
    let A : List Key → Type 0 = λ ks. AllByRecursion (λ other. other.ticks <ℤ key.ticks) ks in
    let parts = all_of_append (λ other. other.ticks <ℤ key.ticks) added.before added.after (subst A added.old_is (recursion_from_All (λ other. other.ticks <ℤ key.ticks) old all)) in
    at_end added.before added.after key old new added.old_is added.new_is
    (none_after key added.after parts.1 (recursion_from_All (λ other. key.ticks <ℤ other.ticks) added.after added.later))

same_first : (a b : Key) (xs ys : List Key) → a ∷ xs ≡ b ∷ ys → a ≡ b
same_first a b xs ys e = cc

same_rest : (a b : Key) (xs ys : List Key) → a ∷ xs ≡ b ∷ ys → xs ≡ ys
same_rest a b xs ys e = cc

without_first : (key own : Key) (others before after : List Key) → own ∷ others ≡ before ++ key ∷ after → AllByRecursion (λ other. other.ticks <ℤ key.ticks) before → key.ticks ≡ own.ticks → before ++ after ≡ others
without_first key own others [] after e earlier same = sym (same_rest own key others after e)
without_first key own others (first ∷ before) after e earlier same =
    let T : Key → Type 0 = λ k. k.ticks <ℤ key.ticks in
    absurd (not_itself own.ticks key.ticks (subst T (sym (same_first own first others (before ++ key ∷ after) e)) earlier.0) (sym same))

-- taken out, the first key leaves the others
pub first_taken : (key own : Key) (old new others : List Key) → IsAdded key new old → key.ticks ≡ own.ticks → old ≡ own ∷ others → new ≡ others
first_taken key own old new others added same e =
    added.old_is
    ∙ without_first key own others added.before added.after (sym e ∙ added.new_is) (recursion_from_All (λ other. other.ticks <ℤ key.ticks) added.before added.earlier) same

pub there_is_one : (own : Key) (old others : List Key) → old ≡ own ∷ others → All (λ key. key.ticks ≡ own.ticks → ⊥) old → ⊥
there_is_one own old others e all =
    let A : List Key → Type 0 = λ ks. AllByRecursion (λ key. key.ticks ≡ own.ticks → ⊥) ks in
    (subst A e (recursion_from_All (λ key. key.ticks ≡ own.ticks → ⊥) old all)).0 refl

pub none_taken : (key own : Key) (old new : List Key) → IsAdded key new old → key.ticks ≡ own.ticks → All (λ other. other.ticks ≡ own.ticks → ⊥) old → ⊥
none_taken key own old new added same all =
    let A : List Key → Type 0 = λ ks. AllByRecursion (λ other. other.ticks ≡ own.ticks → ⊥) ks in
    let parts = all_of_append (λ other. other.ticks ≡ own.ticks → ⊥) added.before (key ∷ added.after) (subst A added.new_is (recursion_from_All (λ other. other.ticks ≡ own.ticks → ⊥) old all)) in
    parts.1.0 same
