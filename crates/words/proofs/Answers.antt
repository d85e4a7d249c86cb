-- For proofs: what the answer of a reader says of its values and of its refusals, apart from want of memory, and relations
-- of an input to its answer that have at most one answer.
use Rattle.std.proofs.Common.{◌≡◌, ◌≢◌, Result, Ok, Err, IfOk, IfErr}
use Rattle.words.specs.Answers.{UnlessMemory}

pub accepted_if : {A E : Type 0} (memory : E) (Reads : Result A E → Type 0) (answer : Result A E) → UnlessMemory memory Reads answer → IfOk answer (λ value. Reads (Ok value))
accepted_if memory Reads (Ok value) reads = reads (λ same. cc)
accepted_if memory Reads (Err fault) reads = tt

pub refused_if : {A E : Type 0} (memory : E) (Reads : Result A E → Type 0) (answer : Result A E) → UnlessMemory memory Reads answer → IfErr answer (λ fault. fault ≢ memory → Reads (Err fault))
refused_if memory Reads (Ok value) reads = tt
refused_if memory Reads (Err fault) reads = λ other. reads (λ same. other cc)

-- and the answer is the only one, where there is only one
pub only_if : {A E : Type 0} (memory : E) (Reads : Result A E → Type 0) → ((one other : Result A E) → Reads one → Reads other → one ≡ other) → (given answer : Result A E) → UnlessMemory memory Reads given → Reads answer → UnlessMemory memory (λ result. result ≡ answer) given
only_if memory Reads law given answer reads other = λ some. law given answer (reads some) other

-- no two answers are related
abbrev pub HasOne : {A E : Type 0} → (Result A E → Type 0) → Type 0
HasOne {A = A} {E = E} R = (one other : Result A E) → R one → R other → one ≡ other

pub value_or_cause : {A E : Type 0} (R : Result A E → Type 0) → HasOne R → (one : A) (found : E) → R (Ok one) → R (Err found) → ⊥
value_or_cause R same one found p q = let e = same (Ok one) (Err found) p q in absurd cc

pub one_cause : {A E : Type 0} (R : Result A E → Type 0) → HasOne R → (found other : E) → R (Err found) → R (Err other) → found ≡ other
one_cause R same found other p q = let e = same (Err found) (Err other) p q in cc

pub one_good : {A E : Type 0} (R : Result A E → Type 0) → HasOne R → (one other : A) → R (Ok one) → R (Ok other) → one ≡ other
one_good R same one other p q = let e = same (Ok one) (Ok other) p q in cc
