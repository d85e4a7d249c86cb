-- Parts of lists.
use Rattle.std.proofs.Common.{◌≡◌, ◌≢◌, Bool, true, false, cond, ◌⊎◌, inl, inr, List, [], ◌∷◌, ◌++◌, map, subst}
use Rattle.std.specs.Prelude.{Contains}
use Rattle.std.specs.List.{AllByRecursion, filter}
use Rattle.words.specs.Lists.{Distinct, IsPart, none, kept, left_out}
use Rattle.words.proofs.Lists.{contains_first, contains_later, contains_cases}

pub part_of_itself : {A : Type 0} (xs : List A) → IsPart xs xs
part_of_itself [] = none
part_of_itself (x ∷ xs) = kept (part_of_itself xs)

pub part_none : {A : Type 0} (xs : List A) → IsPart [] xs
part_none [] = none
part_none (x ∷ xs) = left_out (part_none xs)

pub part_append : {A : Type 0} {part whole more all : List A} → IsPart part whole → IsPart more all → IsPart (part ++ more) (whole ++ all)
part_append none later = later
part_append (kept first) later = kept (part_append first later)
part_append (left_out first) later = left_out (part_append first later)

pub part_map : {A B : Type 0} (f : A → B) {part whole : List A} → IsPart part whole → IsPart (map f part) (map f whole)
part_map f none = none
part_map f (kept rest) = kept (part_map f rest)
part_map f (left_out rest) = left_out (part_map f rest)

filter_one : {A : Type 0} (test : A → Bool) (x : A) (xs : List A) (passes : Bool) → IsPart (filter test xs) xs → IsPart (cond passes (x ∷ filter test xs) (filter test xs)) (x ∷ xs)
filter_one test x xs true rest = kept rest
filter_one test x xs false rest = left_out rest

-- what passes a test is a part
pub part_filter : {A : Type 0} (test : A → Bool) (xs : List A) → IsPart (filter test xs) xs
part_filter test [] = none
part_filter test (x ∷ xs) = filter_one test x xs (test x) (part_filter test xs)

-- what holds of each element of the whole list holds of each of the part
pub part_all : {A : Type 0} (P : A → Type 0) {part whole : List A} → IsPart part whole → AllByRecursion P whole → AllByRecursion P part
part_all P none all = tt
part_all P (kept rest) all = (all.0, part_all P rest all.1)
part_all P (left_out rest) all = part_all P rest all.1

pub part_distinct : {A : Type 0} {part whole : List A} → IsPart part whole → Distinct whole → Distinct part
part_distinct none distinct = tt
part_distinct (kept {x = x} rest) distinct = (part_all (λ y. x ≢ y) rest distinct.0, part_distinct rest distinct.1)
part_distinct (left_out rest) distinct = part_distinct rest distinct.1

kept_cases : {A : Type 0} (x : A) (part whole : List A) (y : A) → (Contains part y → Contains whole y) → (x ≡ y) ⊎ Contains part y → Contains (x ∷ whole) y
kept_cases x part whole y rest (inl e) = subst (Contains (x ∷ whole)) e (contains_first x whole)
kept_cases x part whole y rest (inr later) = contains_later x whole y (rest later)

-- an element of the part is one of the whole list
pub part_contains : {A : Type 0} {part whole : List A} → IsPart part whole → (y : A) → Contains part y → Contains whole y
part_contains none y h = h
part_contains (kept {x = x} {part = part} {whole = whole} rest) y h = kept_cases x part whole y (part_contains rest y) (contains_cases x part y h)
part_contains (left_out {x = x} {whole = whole} rest) y h = contains_later x whole y (part_contains rest y h)
