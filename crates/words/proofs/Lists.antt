-- What holds of each element of a list; lists that are joined, turned round or rotated; distinct elements.
use Rattle.std.proofs.Common.{◌≡◌, ◌≢◌, ℕ, zero, suc, ◌<◌, ◌⊎◌, inl, inr, List, [], ◌∷◌, ◌++◌, map, reverse, length, get_or, refl, sym, ap, ◌∙◌, arith}
use Rattle.std.specs.Prelude.{Contains}
use Rattle.std.specs.List.{AllByRecursion, AllZip}
use Rattle.std.proofs.lemmas.List.{map-append, reverse-append}
use Rattle.std.proofs.lemmas.List.Elements.{All-contains, All-from_recursion}
use Rattle.words.specs.Lists.{Distinct, rotated}

-- ---- what holds of each element

pub all_weaker : {A : Type 0} (P Q : A → Type 0) → ((x : A) → P x → Q x) → (xs : List A) → AllByRecursion P xs → AllByRecursion Q xs
all_weaker P Q weaker [] all = tt
all_weaker P Q weaker (x ∷ xs) all = (weaker x all.0, all_weaker P Q weaker xs all.1)

pub all_append : {A : Type 0} (P : A → Type 0) (xs ys : List A) → AllByRecursion P xs → AllByRecursion P ys → AllByRecursion P (xs ++ ys)
all_append P [] ys a b = b
all_append P (x ∷ xs) ys a b = (a.0, all_append P xs ys a.1 b)

pub all_of_append : {A : Type 0} (P : A → Type 0) (xs ys : List A) → AllByRecursion P (xs ++ ys) → AllByRecursion P xs × AllByRecursion P ys
all_of_append P [] ys all = (tt, all)
all_of_append P (x ∷ xs) ys all = let rest = all_of_append P xs ys all.1 in ((all.0, rest.0), rest.1)

pub all_push : {A : Type 0} (P : A → Type 0) (xs : List A) (x : A) → AllByRecursion P xs → P x → AllByRecursion P (xs ++ x ∷ [])
all_push P xs x all here = all_append P xs (x ∷ []) all (here, tt)

pub all_map : {A B : Type 0} (P : B → Type 0) (f : A → B) (xs : List A) → AllByRecursion (λ x. P (f x)) xs → AllByRecursion P (map f xs)
all_map P f [] all = tt
all_map P f (x ∷ xs) all = (all.0, all_map P f xs all.1)

pub all_from_map : {A B : Type 0} (P : B → Type 0) (f : A → B) (xs : List A) → AllByRecursion P (map f xs) → AllByRecursion (λ x. P (f x)) xs
all_from_map P f [] all = tt
all_from_map P f (x ∷ xs) all = (all.0, all_from_map P f xs all.1)

-- two lists of which each two elements side by side are related are of one length
pub all_zip_long : {A B : Type 0} (R : A → B → Type 0) (xs : List A) (ys : List B) → AllZip R xs ys → length ys ≡ length xs
all_zip_long R [] [] all = refl
all_zip_long R (x ∷ xs) (y ∷ ys) all = omega (arith, all_zip_long R xs ys all.1)
all_zip_long R [] (y ∷ ys) all = absurd all
all_zip_long R (x ∷ xs) [] all = absurd all

-- ---- members

pub contains_first : {A : Type 0} (x : A) (xs : List A) → Contains (x ∷ xs) x
contains_first x xs = (0, omega arith, refl)

pub contains_later : {A : Type 0} (y : A) (xs : List A) (x : A) → Contains xs x → Contains (y ∷ xs) x
contains_later y xs x h = (suc h.0, omega (arith, h.1), h.2)

at_cons : {A : Type 0} (y : A) (xs : List A) (x : A) (k : ℕ) (below : k < length (y ∷ xs)) → get_or (y ∷ xs) k x ≡ x → (y ≡ x) ⊎ Contains xs x
at_cons y xs x zero below e = inl e
at_cons y xs x (suc k) below e = inr (k, omega arith, e)

pub contains_cases : {A : Type 0} (y : A) (xs : List A) (x : A) → Contains (y ∷ xs) x → (y ≡ x) ⊎ Contains xs x
contains_cases y xs x h = at_cons y xs x h.0 h.1 h.2

pub contains_none : {A : Type 0} (x : A) → Contains [] x → ⊥
contains_none x h = omega (arith, h.1)

pub all_at : {A : Type 0} (P : A → Type 0) (xs : List A) (x : A) → AllByRecursion P xs → Contains xs x → P x
all_at P xs x all h = All-contains P xs x (All-from_recursion P xs all) h

mapped_cases : {A B : Type 0} (f : A → B) (y : A) (xs : List A) (x : A) → (Contains xs x → Contains (map f xs) (f x)) → (y ≡ x) ⊎ Contains xs x → Contains (map f (y ∷ xs)) (f x)
mapped_cases f y xs x rest (inl e) = (0, omega arith, ap f e)
mapped_cases f y xs x rest (inr later) = contains_later (f y) (map f xs) (f x) (rest later)

pub contains_map : {A B : Type 0} (f : A → B) (xs : List A) (x : A) → Contains xs x → Contains (map f xs) (f x)
contains_map f [] x h = absurd (contains_none x h)
contains_map f (y ∷ xs) x h = mapped_cases f y xs x (contains_map f xs x) (contains_cases y xs x h)

-- ---- turned round and rotated

pub map-rotated : {A B : Type 0} (f : A → B) (xs : List A) → map f (rotated xs) ≡ rotated (map f xs)
map-rotated f [] = refl
map-rotated f (x ∷ xs) = map-append f xs (x ∷ [])

pub reverse_cons : {A : Type 0} (x : A) (xs : List A) → reverse (x ∷ xs) ≡ reverse xs ++ x ∷ []
reverse_cons x xs = reverse-append (x ∷ []) xs

pub map-reverse : {A B : Type 0} (f : A → B) (xs : List A) → map f (reverse xs) ≡ reverse (map f xs)
map-reverse f [] = refl
map-reverse f (x ∷ xs) = ap (map f) (reverse_cons x xs) ∙ map-append f (reverse xs) (x ∷ []) ∙ ap (λ ys. ys ++ f x ∷ []) (map-reverse f xs) ∙ sym (reverse_cons (f x) (map f xs))

-- a list turned round is the rotation of its rotation turned round
pub rotated-reverse-rotated : {A : Type 0} (xs : List A) → rotated (reverse (rotated xs)) ≡ reverse xs
rotated-reverse-rotated [] = refl
rotated-reverse-rotated (x ∷ xs) = ap rotated (reverse-append xs (x ∷ [])) ∙ sym (reverse_cons x xs)

pub all_reverse : {A : Type 0} (P : A → Type 0) (xs : List A) → AllByRecursion P xs → AllByRecursion P (reverse xs)
all_reverse P [] all = tt
all_reverse P (x ∷ xs) all = rw (reverse_cons x xs) (all_push P (reverse xs) x (all_reverse P xs all.1) all.0)

-- ---- distinct elements

pub distinct_push : {A : Type 0} (xs : List A) (x : A) → AllByRecursion (λ y. x ≢ y) xs → Distinct xs → Distinct (xs ++ x ∷ [])
distinct_push [] x new distinct = (tt, tt)
distinct_push (y ∷ xs) x new distinct = (all_push (λ z. y ≢ z) xs x distinct.0 (λ e. new.0 (sym e)), distinct_push xs x new.1 distinct.1)

pub distinct_rotated : {A : Type 0} (xs : List A) → Distinct xs → Distinct (rotated xs)
distinct_rotated [] distinct = tt
distinct_rotated (x ∷ xs) distinct = distinct_push xs x distinct.0 distinct.1

pub distinct_reverse : {A : Type 0} (xs : List A) → Distinct xs → Distinct (reverse xs)
distinct_reverse [] distinct = tt
distinct_reverse (x ∷ xs) distinct = rw (reverse_cons x xs) (distinct_push (reverse xs) x (all_reverse (λ y. x ≢ y) xs distinct.0) (distinct_reverse xs distinct.1))
