-- A text has one answer.
use Rattle.std.proofs.Common.{◌≡◌, ℕ, ◌+◌, ◌*◌, ◌<◌, ◌≤◌, ℤ, List, Result, Ok, Err, IfOk, IfErr, length, inl, inr, refl, sym, ap, ◌∙◌, subst, arith}
use Rattle.std.proofs.Math.Nat.{mul-le-mul_right}
use Rattle.std.proofs.lemmas.Nat.{same_from_place}
use Rattle.std.proofs.lemmas.Bool.{cases_lt}
use Rattle.fix_point.specs.Grammar.{Parts, fraction_digits, IsNumberText}
use Rattle.fix_point.specs.Scaled.{signed, tens_below, denominator, IsExact, IsNearest, IsTaken, IsScaled, Reads, Spells, Refuses}
use Rattle.fix_point.specs.declared.scale.Extra.{Extra}
use Rattle.fix_point.specs.declared.scale.Extra.TheVariants.{Refuse, Round}
use Rattle.fix_point.specs.declared.scale.NumFault.{NumFault}
use Rattle.fix_point.specs.declared.scale.NumFault.TheVariants.{NotNumber, TooFine, OutOfRange}
use Rattle.fix_point.proofs.Reading.{one_reading}
use Rattle.fix_point.proofs.Sizes.{power_some}

some_parts : (parts : Parts) → 0 < denominator parts
some_parts parts = power_some (length (fraction_digits parts.fraction) + tens_below parts.power)

not_above : (parts : Parts) (d one other : ℕ) → IsNearest parts d one → IsNearest parts d other → one ≤ other
not_above parts d one other p q = elim (cases_lt other one) as (λ _. one ≤ other) [
  | inl above ↦ let more : (other + 1) * denominator parts ≤ one * denominator parts = mul-le-mul_right (denominator parts) (omega (arith, above)) in
      absurd (omega (arith, p.low, q.high, more))
  | inr h ↦ omega (arith, h)
]

-- one size is taken
one_size : (extra : Extra) (parts : Parts) (d one other : ℕ) → IsTaken extra parts d one → IsTaken extra parts d other → one ≡ other
one_size Refuse parts d one other p q =
    let some = some_parts parts in
    (same_from_place one 0 other 0 (denominator parts) some some (omega (arith, p, q))).0
one_size Round parts d one other p q =
    omega (arith, not_above parts d one other p q, not_above parts d other one q p)

-- of texts that are numbers, by their parts
size_taken : (text : List ℕ) (d : ℕ) (extra : Extra) (p q : Parts) (one other : ℕ) → IsNumberText text p → IsNumberText text q → IsTaken extra p d one → IsTaken extra q d other → one ≡ other
size_taken text d extra p q one other is_p is_q take_p take_q =
    let same = one_reading text q p is_q is_p in
    one_size extra p d one other take_p (subst (λ parts. IsTaken extra parts d other) same take_q)

exact : (extra : Extra) (parts : Parts) (d size : ℕ) → extra ≡ Refuse → IsTaken extra parts d size → IsExact parts d size
exact extra parts d size e taken = subst (λ way. IsTaken way parts d size) e taken

never_fine : (text : List ℕ) (d : ℕ) (extra : Extra) (most : ℤ) (parts : Parts) (size : ℕ) → IsNumberText text parts → IsTaken extra parts d size → Refuses text d extra most TooFine → ⊥
never_fine text d extra most parts size is taken fine =
    let same = one_reading text parts fine.0 is fine.1 in
    fine.3 size (exact extra fine.0 d size fine.2 (subst (λ given. IsTaken extra given d size) same taken))

value_or_fault : (text : List ℕ) (d : ℕ) (extra : Extra) (most value : ℤ) (fault : NumFault) → IsScaled text d extra most value → Refuses text d extra most fault → ⊥
value_or_fault text d extra most value NotNumber p q = q p.parts p.number
value_or_fault text d extra most value TooFine p q = never_fine text d extra most p.parts p.size p.number p.taken q
value_or_fault text d extra most value OutOfRange p q =
    let same = size_taken text d extra p.parts q.0 p.size q.2 p.number q.1 p.taken q.3 in
    omega (arith, same, p.small, q.4)

one_fault : (text : List ℕ) (d : ℕ) (extra : Extra) (most : ℤ) (one other : NumFault) → Refuses text d extra most one → Refuses text d extra most other → one ≡ other
one_fault text d extra most NotNumber NotNumber p q = refl
one_fault text d extra most NotNumber TooFine p q = absurd (p q.0 q.1)
one_fault text d extra most NotNumber OutOfRange p q = absurd (p q.0 q.1)
one_fault text d extra most TooFine NotNumber p q = absurd (q p.0 p.1)
one_fault text d extra most TooFine TooFine p q = refl
one_fault text d extra most TooFine OutOfRange p q = absurd (never_fine text d extra most q.0 q.2 q.1 q.3 p)
one_fault text d extra most OutOfRange NotNumber p q = absurd (q p.0 p.1)
one_fault text d extra most OutOfRange TooFine p q = absurd (never_fine text d extra most p.0 p.2 p.1 p.3 q)
one_fault text d extra most OutOfRange OutOfRange p q = refl

one_value : (text : List ℕ) (d : ℕ) (extra : Extra) (most one other : ℤ) → IsScaled text d extra most one → IsScaled text d extra most other → one ≡ other
one_value text d extra most one other p q =
    let parts = one_reading text p.parts q.parts p.number q.number in
    let size = size_taken text d extra p.parts q.parts p.size q.size p.number q.number p.taken q.taken in
    p.value_is ∙ (ap (λ given. signed given.sign p.size) parts ∙ (ap (λ n. signed q.parts.sign n) size ∙ sym q.value_is))

pub one_answer_only : (text : List ℕ) (d : ℕ) (extra : Extra) (most : ℤ) (one other : Result ℤ NumFault) → Reads text d extra most one → Reads text d extra most other → one ≡ other
one_answer_only text d extra most (Ok one) (Ok other) p q = ap Ok (one_value text d extra most one other p q)
one_answer_only text d extra most (Ok one) (Err fault) p q = absurd (value_or_fault text d extra most one fault p q)
one_answer_only text d extra most (Err fault) (Ok other) p q = absurd (value_or_fault text d extra most other fault q p)
one_answer_only text d extra most (Err one) (Err other) p q = ap Err (one_fault text d extra most one other p q)

-- what a reader answers is what the text is read as
pub is_read : (text : List ℕ) (d : ℕ) (extra : Extra) (most : ℤ) (result : Result ℤ NumFault) → IfOk result (Spells text d extra most) → IfErr result (Refuses text d extra most) → Reads text d extra most result
is_read text d extra most (Ok value) spells refuses = spells
is_read text d extra most (Err fault) spells refuses = refuses
