-- Names that go up: by rule, from row, to row, column and side.
use Rattle.std.proofs.Common.{◌≡◌, ℕ, ◌<◌, true, ◌&&◌, ◌||◌, ◌⊎◌, inl, inr, List, [], ◌∷◌, ◌++◌, Option, Some, None, refl, sym, ap, ◌∙◌, subst, arith}
use Rattle.std.specs.Prelude.{IsTrue, nat_lt, ◌==◌, option_to_list}
use Rattle.std.specs.List.{AllByRecursion, flat_map}
use Rattle.std.proofs.lemmas.Bool.{and_from, eq-eqb, or_left, or_right}
use Rattle.std.proofs.lemmas.Bool.Decides.{nat_tests}
use Rattle.std.proofs.lemmas.List.{map-append}
use Rattle.words.proofs.Lists.{all_append, all_weaker}
use Rattle.screen_model.specs.declared.bound.Bound.{Bound}
use Rattle.screen_model.specs.declared.bound.BoundName.{BoundName}
use Rattle.screen_model.specs.declared.bound.Side.{Side}
use Rattle.screen_model.specs.declared.bound.Side.TheVariants.{Up, Down}
use Rattle.screen_model.specs.Order.{Rises, is_before, name_key, side_number}
use Rattle.bound_maker.specs.Bounds.{both_sides}
use Rattle.bound_maker.proofs.Chains.{joined}
use Rattle.bound_maker.proofs.Distinct.{names}
use Rattle.bound_maker.proofs.Finding.{named_so}

-- ---- lists that go up

-- each stands in the relation with all that follow
abbrev pub Ascends : {A : Type 0} → (A → A → Type 0) → List A → Type 0
Ascends R [] = Unit {0}
Ascends R (x ∷ xs) = AllByRecursion (R x) xs × Ascends R xs

-- all of the first with all of the second
abbrev pub AreBelow : {A : Type 0} → (A → A → Type 0) → List A → List A → Type 0
AreBelow R xs ys = AllByRecursion (λ x. AllByRecursion (R x) ys) xs

pub ascends_append : {A : Type 0} (R : A → A → Type 0) (xs ys : List A) → Ascends R xs → Ascends R ys → AreBelow R xs ys → Ascends R (xs ++ ys)
ascends_append R [] ys first second below = second
ascends_append R (x ∷ xs) ys first second below = (all_append (R x) xs ys first.0 below.0, ascends_append R xs ys first.1 second below.1)

below_none : {A : Type 0} (R : A → A → Type 0) (xs : List A) → AreBelow R xs []
below_none R [] = tt
below_none R (x ∷ xs) = (tt, below_none R xs)

below_append : {A : Type 0} (R : A → A → Type 0) (xs ys zs : List A) → AreBelow R xs ys → AreBelow R xs zs → AreBelow R xs (ys ++ zs)
below_append R xs ys zs first second =
    joined (λ x. AllByRecursion (R x) ys) (λ x. AllByRecursion (R x) zs) (λ x. AllByRecursion (R x) (ys ++ zs)) (λ x a b. all_append (R x) ys zs a b) xs first second

below_flat : {A B : Type 0} (f : A → List B) (G : A → A → Type 0) (R : B → B → Type 0) (a : A) (xs : List A) → ((c d : A) → G c d → AreBelow R (f c) (f d)) → AllByRecursion (G a) xs → AreBelow R (f a) (flat_map f xs)
below_flat f G R a [] each all = below_none R (f a)
below_flat f G R a (x ∷ xs) each all = below_append R (f a) (f x) (flat_map f xs) (each a x all.0) (below_flat f G R a xs each all.1)

-- groups that go up, each of which goes up
pub ascends_flat : {A B : Type 0} (f : A → List B) (G : A → A → Type 0) (R : B → B → Type 0) (xs : List A) → ((a b : A) → G a b → AreBelow R (f a) (f b)) → AllByRecursion (λ a. Ascends R (f a)) xs → Ascends G xs → Ascends R (flat_map f xs)
ascends_flat f G R [] each all rise = tt
ascends_flat f G R (x ∷ xs) each all rise =
    ascends_append R (f x) (flat_map f xs) all.0 (ascends_flat f G R xs each all.1 rise.1) (below_flat f G R x xs each rise.0)

-- all elements of each of two lists have something that orders them
pub all_below : {A : Type 0} (P Q : A → Type 0) (R : A → A → Type 0) → ((x y : A) → P x → Q y → R x y) → (xs ys : List A) → AllByRecursion P xs → AllByRecursion Q ys → AreBelow R xs ys
all_below P Q R order [] ys first second = tt
all_below P Q R order (x ∷ xs) ys first second = (all_weaker Q (R x) (λ y q. order x y first.0 q) ys second, all_below P Q R order xs ys first.1 second)

-- ---- the order of names

-- less by a number, or equal by it and less by what follows
abbrev pub Lex : ℕ → ℕ → Type 0 → Type 0
Lex m n Rest = (m < n) ⊎ ((m ≡ n) × Rest)

abbrev pub IsLess : BoundName → BoundName → Type 0
IsLess m n = Lex m.rule n.rule (Lex m.from_row n.from_row (Lex m.to_row n.to_row (Lex m.col n.col (side_number m.side < side_number n.side))))

less_test : (m n : ℕ) → m < n → nat_lt m n ≡ true
less_test m n h = grind (arith, nat_tests)

lex_step : (m n : ℕ) (ms ns : List ℕ) (Rest : Type 0) → (Rest → is_before ms ns ≡ true) → Lex m n Rest → (nat_lt m n || ((m == n) && is_before ms ns)) ≡ true
lex_step m n ms ns Rest later (inl less) = or_left (nat_lt m n) ((m == n) && is_before ms ns) (less_test m n less)
lex_step m n ms ns Rest later (inr equal) = or_right (nat_lt m n) ((m == n) && is_before ms ns) (and_from (m == n) (is_before ms ns) (eq-eqb m n equal.0) (later equal.1))

last_step : (m n : ℕ) → m < n → is_before (m ∷ []) (n ∷ []) ≡ true
last_step m n less = or_left (nat_lt m n) ((m == n) && is_before [] []) (less_test m n less)

key_before : (m n : BoundName) → IsLess m n → IsTrue (is_before (name_key m) (name_key n))
key_before m n less =
    let side = λ (h : side_number m.side < side_number n.side). last_step (side_number m.side) (side_number n.side) h in
    let col = lex_step m.col n.col (side_number m.side ∷ []) (side_number n.side ∷ []) (side_number m.side < side_number n.side) side in
    let to = lex_step m.to_row n.to_row (m.col ∷ side_number m.side ∷ []) (n.col ∷ side_number n.side ∷ []) (Lex m.col n.col (side_number m.side < side_number n.side)) col in
    let from = lex_step m.from_row n.from_row (m.to_row ∷ m.col ∷ side_number m.side ∷ []) (n.to_row ∷ n.col ∷ side_number n.side ∷ []) (Lex m.to_row n.to_row (Lex m.col n.col (side_number m.side < side_number n.side))) to in
    lex_step m.rule n.rule (m.from_row ∷ m.to_row ∷ m.col ∷ side_number m.side ∷ []) (n.from_row ∷ n.to_row ∷ n.col ∷ side_number n.side ∷ []) (Lex m.from_row n.from_row (Lex m.to_row n.to_row (Lex m.col n.col (side_number m.side < side_number n.side)))) from less

pub rises_from : (ns : List BoundName) → Ascends IsLess ns → Rises name_key ns
rises_from [] rise = tt
rises_from (n ∷ []) rise = tt
rises_from (m ∷ n ∷ ns) rise = (key_before m n rise.0.0, rises_from (n ∷ ns) rise.1)

-- ---- the two bounds of one thing

-- the name has these parts
pub record HasParts (number from to col : ℕ) (name : BoundName) : Type 0 where
  pub rule_is : name.rule ≡ number
  pub from_is : name.from_row ≡ from
  pub to_is : name.to_row ≡ to
  pub col_is : name.col ≡ col

parts_of : (number from to col : ℕ) (side : Side) (name : BoundName) → name ≡ named_so number from to col side → HasParts number from to col name
parts_of number from to col side name is = record {
  rule_is = ap (λ (n : BoundName). n.rule) is;
  from_is = ap (λ (n : BoundName). n.from_row) is;
  to_is = ap (λ (n : BoundName). n.to_row) is;
  col_is = ap (λ (n : BoundName). n.col) is;
}

-- the bounds of both sides bear names of these parts
abbrev pub AreNamedSo : (Side → Option Bound) → ℕ → ℕ → ℕ → ℕ → Type 0
AreNamedSo bound number from to col = (side : Side) (b : Bound) → bound side ≡ Some b → b.name ≡ named_so number from to col side

some_named : (P : BoundName → Type 0) (o : Option Bound) → ((b : Bound) → o ≡ Some b → P b.name) → AllByRecursion P (names (option_to_list o))
some_named P (Some b) each = (each b refl, tt)
some_named P None each = tt

pub sides_named : (P : BoundName → Type 0) (bound : Side → Option Bound) → ((side : Side) (b : Bound) → bound side ≡ Some b → P b.name) → AllByRecursion P (names (both_sides bound))
sides_named P bound each =
    subst (λ ns. AllByRecursion P ns) (sym (map-append (λ (b : Bound). b.name) (option_to_list (bound Up)) (option_to_list (bound Down))))
    (all_append P (names (option_to_list (bound Up))) (names (option_to_list (bound Down))) (some_named P (bound Up) (each Up)) (some_named P (bound Down) (each Down)))

pub sides_parts : (bound : Side → Option Bound) (number from to col : ℕ) → AreNamedSo bound number from to col → AllByRecursion (HasParts number from to col) (names (both_sides bound))
sides_parts bound number from to col named = sides_named (HasParts number from to col) bound (λ side b is. parts_of number from to col side b.name (named side b is))

up_first : (number from to col : ℕ) → IsLess (named_so number from to col Up) (named_so number from to col Down)
up_first number from to col = inr (refl, inr (refl, inr (refl, inr (refl, omega arith))))

two_ascend : (number from to col : ℕ) (o q : Option Bound) → ((b : Bound) → o ≡ Some b → b.name ≡ named_so number from to col Up) → ((b : Bound) → q ≡ Some b → b.name ≡ named_so number from to col Down)
    → Ascends IsLess (names (option_to_list o ++ option_to_list q))
two_ascend number from to col (Some a) (Some b) up down =
    let first = up a refl in
    let second = down b refl in
    ((subst (λ (n : BoundName). IsLess n b.name) (sym first) (subst (λ (n : BoundName). IsLess (named_so number from to col Up) n) (sym second) (up_first number from to col)), tt), (tt, tt))
two_ascend number from to col (Some a) None up down = (tt, tt)
two_ascend number from to col None (Some b) up down = (tt, tt)
two_ascend number from to col None None up down = tt

pub sides_ascend : (bound : Side → Option Bound) (number from to col : ℕ) → AreNamedSo bound number from to col → Ascends IsLess (names (both_sides bound))
sides_ascend bound number from to col named = two_ascend number from to col (bound Up) (bound Down) (named Up) (named Down)

-- ---- names in the order of rows

-- the rows of the first come before those of the second: by the from row, and then by the to row
abbrev pub RowsBefore : ℕ → ℕ → ℕ → ℕ → Type 0
RowsBefore from to other_from other_to = Lex from other_from (to < other_to)

parts_less : (number from to col other_from other_to other_col : ℕ) (m n : BoundName) → RowsBefore from to other_from other_to → HasParts number from to col m → HasParts number other_from other_to other_col n → IsLess m n
parts_less number from to col other_from other_to other_col m n (inl less) p q = inr (p.rule_is ∙ sym q.rule_is, inl (omega (arith, less, p.from_is, q.from_is)))
parts_less number from to col other_from other_to other_col m n (inr equal) p q =
    inr (p.rule_is ∙ sym q.rule_is, inr (p.from_is ∙ (equal.0 ∙ sym q.from_is), inl (omega (arith, equal.1, p.to_is, q.to_is))))

pub rows_below : (number from to col other_from other_to other_col : ℕ) (xs ys : List BoundName) → RowsBefore from to other_from other_to → AllByRecursion (HasParts number from to col) xs → AllByRecursion (HasParts number other_from other_to other_col) ys → AreBelow IsLess xs ys
rows_below number from to col other_from other_to other_col xs ys before first second =
    all_below (HasParts number from to col) (HasParts number other_from other_to other_col) IsLess
    (λ m n p q. parts_less number from to col other_from other_to other_col m n before p q) xs ys first second

-- the same row, and then the column
col_less : (number row col other : ℕ) (m n : BoundName) → col < other → HasParts number row row col m → HasParts number row row other n → IsLess m n
col_less number row col other m n less p q =
    inr (p.rule_is ∙ sym q.rule_is, inr (p.from_is ∙ sym q.from_is, inr (p.to_is ∙ sym q.to_is, inl (omega (arith, less, p.col_is, q.col_is)))))

pub cols_below : (number row col other : ℕ) (xs ys : List BoundName) → col < other → AllByRecursion (HasParts number row row col) xs → AllByRecursion (HasParts number row row other) ys → AreBelow IsLess xs ys
cols_below number row col other xs ys less first second =
    all_below (HasParts number row row col) (HasParts number row row other) IsLess (λ m n p q. col_less number row col other m n less p q) xs ys first second

-- the rule
rule_less : (number other : ℕ) (m n : BoundName) → number < other → m.rule ≡ number → n.rule ≡ other → IsLess m n
rule_less number other m n less p q = inl (omega (arith, less, p, q))

pub rules_below : (number other : ℕ) (xs ys : List BoundName) → number < other → AllByRecursion (λ (n : BoundName). n.rule ≡ number) xs → AllByRecursion (λ (n : BoundName). n.rule ≡ other) ys → AreBelow IsLess xs ys
rules_below number other xs ys less first second =
    all_below (λ (n : BoundName). n.rule ≡ number) (λ (n : BoundName). n.rule ≡ other) IsLess (λ m n p q. rule_less number other m n less p q) xs ys first second
