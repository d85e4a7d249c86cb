-- Bounds that are told by their names.
use Rattle.std.proofs.Common.{◌≡◌, ◌≢◌, true, false, cond, ◌⊎◌, inl, inr, List, [], ◌∷◌, ◌++◌, map, refl, sym, ap, ◌∙◌, subst}
use Rattle.std.specs.Prelude.{Contains, filter}
use Rattle.std.specs.List.{AllByRecursion}
use Rattle.std.proofs.lemmas.Bool.{eqb-true, eq-eqb, and_from, and_parts, false≢true, false_from_ne_true}
use Rattle.screen_model.specs.declared.bound.BoundName.{BoundName}
use Rattle.screen_model.specs.declared.bound.Side.{Side}
use Rattle.screen_model.specs.declared.bound.Side.TheVariants.{Up, Down}
use Rattle.words.specs.Lists.{Distinct, IsPart, none, kept, left_out}
use Rattle.words.proofs.Lists.{all_weaker, all_at, all_map, all_from_map, contains_cases, contains_none, contains_map}
use Rattle.words.proofs.Parts.{part_map, part_all, part_contains}
use Rattle.screen_model.specs.Obeys.{Priced}
use Rattle.screen_model.specs.Names.{is_same_side, is_same_name, names_of, AreNamesIn, bounds_named, NamesTellBounds}
use Rattle.screen_model.specs.Parts.{NamesOverParts}

-- ---- names

same_side : (side : Side) → is_same_side side side ≡ true
same_side Up = refl
same_side Down = refl

side_from_same : (m n : Side) → is_same_side m n ≡ true → m ≡ n
side_from_same Up Up h = refl
side_from_same Down Down h = refl
side_from_same Up Down h = absurd (false≢true h)
side_from_same Down Up h = absurd (false≢true h)

pub same_name : (name : BoundName) → is_same_name name name ≡ true
same_name name =
    and_from _ _ (eq-eqb name.rule name.rule refl)
    (and_from _ _ (eq-eqb name.from_row name.from_row refl)
    (and_from _ _ (eq-eqb name.to_row name.to_row refl)
    (and_from _ _ (eq-eqb name.col name.col refl) (same_side name.side))))

pub name_from_same : (m n : BoundName) → is_same_name m n ≡ true → m ≡ n
name_from_same m n h =
    let a = and_parts _ _ h in
    let b = and_parts _ _ a.1 in
    let c = and_parts _ _ b.1 in
    let d = and_parts _ _ c.1 in
    let rule = eqb-true m.rule n.rule a.0 in
    let from_row = eqb-true m.from_row n.from_row b.0 in
    let to_row = eqb-true m.to_row n.to_row c.0 in
    let col = eqb-true m.col n.col d.0 in
    let side = side_from_same m.side n.side d.1 in
    λ i. record { rule = rule i; from_row = from_row i; to_row = to_row i; col = col i; side = side i }

pub other_name : (m n : BoundName) → m ≢ n → is_same_name m n ≡ false
other_name m n h = false_from_ne_true (is_same_name m n) (λ same. h (name_from_same m n same))

-- ---- what bears a name

abbrev pub bearing : {A : Type 0} → (A → BoundName) → BoundName → List A → List A
bearing name_of name xs = filter (λ x. is_same_name name (name_of x)) xs

pub bearing_passes : {A : Type 0} (name_of : A → BoundName) (x : A) (xs : List A) → bearing name_of (name_of x) (x ∷ xs) ≡ x ∷ bearing name_of (name_of x) xs
bearing_passes name_of x xs = ap (λ same. cond same (x ∷ bearing name_of (name_of x) xs) (bearing name_of (name_of x) xs)) (same_name (name_of x))

pub bearing_skips : {A : Type 0} (name_of : A → BoundName) (name : BoundName) (x : A) (xs : List A) → name ≢ name_of x → bearing name_of name (x ∷ xs) ≡ bearing name_of name xs
bearing_skips name_of name x xs other = ap (λ same. cond same (x ∷ bearing name_of name xs) (bearing name_of name xs)) (other_name name (name_of x) other)

pub bearing_none : {A : Type 0} (name_of : A → BoundName) (name : BoundName) (xs : List A) → AllByRecursion (λ x. name ≢ name_of x) xs → bearing name_of name xs ≡ []
bearing_none name_of name [] others = refl
bearing_none name_of name (x ∷ xs) others = bearing_skips name_of name x xs others.0 ∙ bearing_none name_of name xs others.1

-- the name of a bound
abbrev pub name_of : Priced → BoundName
name_of priced = priced.bound.name

-- where names are distinct, what bears a name is one alone
found : {A : Type 0} (name_of : A → BoundName) (x first : A) (xs : List A) → Distinct (map name_of (first ∷ xs)) → (first ≡ x) ⊎ Contains xs x
    → (Contains xs x → bearing name_of (name_of x) xs ≡ x ∷ []) → bearing name_of (name_of x) (first ∷ xs) ≡ x ∷ []
found {A} name_of x first xs distinct (inl e) rest =
    let none_left = bearing_none name_of (name_of first) xs (all_from_map (λ name. name_of first ≢ name) name_of xs distinct.0) in
    subst (λ (y : A). bearing name_of (name_of y) (first ∷ xs) ≡ y ∷ []) e (bearing_passes name_of first xs ∙ ap (λ ys. first ∷ ys) none_left)
found name_of x first xs distinct (inr later) rest =
    bearing_skips name_of (name_of x) first xs (λ e. all_at (λ name. name_of first ≢ name) (map name_of xs) (name_of x) distinct.0 (contains_map name_of xs x later) (sym e))
    ∙ rest later

pub one_bearing : {A : Type 0} (name_of : A → BoundName) (xs : List A) (x : A) → Distinct (map name_of xs) → Contains xs x → bearing name_of (name_of x) xs ≡ x ∷ []
one_bearing name_of [] x distinct h = absurd (contains_none x h)
one_bearing name_of (first ∷ xs) x distinct h = found name_of x first xs distinct (contains_cases first xs x h) (one_bearing name_of xs x distinct.1)

pub bound_named : (bounds : List Priced) (priced : Priced) → Distinct (names_of bounds) → Contains bounds priced → filter (λ other. is_same_name priced.bound.name other.bound.name) bounds ≡ priced ∷ []
bound_named bounds priced distinct h = one_bearing name_of bounds priced distinct h

named_are : (bounds members : List Priced) → Distinct (names_of bounds) → AllByRecursion (Contains bounds) members → bounds_named (names_of members) bounds ≡ members
named_are bounds [] distinct all = refl
named_are bounds (priced ∷ members) distinct all =
    ap (λ ps. ps ++ bounds_named (names_of members) bounds) (bound_named bounds priced distinct all.0)
    ∙ ap (λ ps. priced ∷ ps) (named_are bounds members distinct all.1)

pub tell : NamesTellBounds
tell bounds members distinct all = (
  all_map (Contains (names_of bounds)) name_of members (all_weaker (Contains bounds) (λ priced. Contains (names_of bounds) (name_of priced)) (contains_map name_of bounds) members all),
  named_are bounds members distinct all,
)

-- ---- names of bounds of a part

same_bearing_kept : (name : BoundName) (first : Priced) (part bounds : List Priced) → IsPart part bounds → Distinct (names_of (first ∷ bounds)) → (name_of first ≡ name) ⊎ Contains (names_of part) name
    → (Contains (names_of part) name → bearing name_of name bounds ≡ bearing name_of name part) → bearing name_of name (first ∷ bounds) ≡ bearing name_of name (first ∷ part)
same_bearing_kept name first part bounds is_part distinct (inl e) rest =
    let others : AllByRecursion (λ (other : Priced). name ≢ name_of other) bounds = subst (λ n. AllByRecursion (λ (other : Priced). n ≢ name_of other) bounds) e (all_from_map (λ name. name_of first ≢ name) name_of bounds distinct.0) in
    let same : bearing name_of name bounds ≡ bearing name_of name part = bearing_none name_of name bounds others ∙ sym (bearing_none name_of name part (part_all (λ (other : Priced). name ≢ name_of other) is_part others)) in
    ap (λ ps. cond (is_same_name name (name_of first)) (first ∷ ps) ps) same
same_bearing_kept name first part bounds is_part distinct (inr later) rest = ap (λ ps. cond (is_same_name name (name_of first)) (first ∷ ps) ps) (rest later)

-- a bound that is left out does not bear the name of one in the part
pub not_left_out : (name : BoundName) (first : Priced) {part bounds : List Priced} → IsPart part bounds → Distinct (names_of (first ∷ bounds)) → Contains (names_of part) name → name_of first ≢ name
not_left_out name first {bounds = bounds} is_part distinct h = all_at (λ other. name_of first ≢ other) (names_of bounds) name distinct.0 (part_contains (part_map name_of is_part) name h)

same_bearing : (name : BoundName) {part bounds : List Priced} → IsPart part bounds → Distinct (names_of bounds) → Contains (names_of part) name → bearing name_of name bounds ≡ bearing name_of name part
same_bearing name none distinct h = refl
same_bearing name (kept {x = first} {part = part} {whole = bounds} rest) distinct h = same_bearing_kept name first part bounds rest distinct (contains_cases (name_of first) (names_of part) name h) (same_bearing name rest distinct.1)
same_bearing name (left_out {x = first} {whole = bounds} rest) distinct h = bearing_skips name_of name first bounds (λ e. not_left_out name first rest distinct h (sym e)) ∙ same_bearing name rest distinct.1 h

same_named : (names : List BoundName) {part bounds : List Priced} → IsPart part bounds → Distinct (names_of bounds) → AreNamesIn part names → bounds_named names bounds ≡ bounds_named names part
same_named [] is_part distinct named = refl
same_named (name ∷ names) {part = part} {bounds = bounds} is_part distinct named =
    ap (λ ps. ps ++ bounds_named names bounds) (same_bearing name is_part distinct named.0)
    ∙ ap (λ ps. bearing name_of name part ++ ps) (same_named names is_part distinct named.1)

pub still_named : (names : List BoundName) {part bounds : List Priced} → IsPart part bounds → AreNamesIn part names → AreNamesIn bounds names
still_named names {part = part} {bounds = bounds} is_part named = all_weaker (Contains (names_of part)) (Contains (names_of bounds)) (part_contains (part_map name_of is_part)) names named

pub over_parts : NamesOverParts
over_parts part bounds names is_part distinct named = (still_named names is_part named, same_named names is_part distinct named)
