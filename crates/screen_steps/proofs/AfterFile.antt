-- What is answered after a file was read: in one way only, and by what was read of it.
use Rattle.std.proofs.Common.{◌≡◌, inl, inr, ℕ, ◌<◌, ◌≤◌, ◌+◌, List, length, Result, Ok, Err, MatchResult, ap, sym, subst, ◌∙◌, arith}
use Rattle.std.proofs.lemmas.List.{length-append}
use Rattle.screen_steps.specs.Answer.{Extent, Whole, Begun, Answer, AfterFile, AreFront, AreOne}

pub more_and_not : (n m : ℕ) → n < m → m ≤ n → ⊥
more_and_not n m p q = omega (arith, p, q)

module _ {A F : Type 0} (longest : ℕ) (Reads : List ℕ → Result A F → Type 0) (too_long : Answer) (refused : F → Answer) where
  -- every answer has a property that those of the refusals and of what follows have
  found_has : (P : Answer → Type 0) (Follows : A → Answer → Type 0) (found : Result A F) (answer : Answer)
      → ((fault : F) → P (refused fault)) → ((value : A) → Follows value answer → P answer)
      → MatchResult found (λ value. Follows value answer) (λ fault. answer ≡ refused fault) → P answer
  found_has P Follows (Ok value) answer at_refused at_value p = at_value value p
  found_has P Follows (Err fault) answer at_refused at_value p = subst P (sym p) (at_refused fault)

  pub after_has : (P : Answer → Type 0) (bytes : List ℕ) (Follows : A → Answer → Type 0) (answer : Answer)
      → P too_long → ((fault : F) → P (refused fault)) → ((value : A) → Follows value answer → P answer)
      → AfterFile longest Reads too_long refused bytes Follows answer → P answer
  after_has P bytes Follows answer at_long at_refused at_value (inl p) = subst P (sym p.1) at_long
  after_has P bytes Follows answer at_long at_refused at_value (inr p) = found_has P Follows p.1 answer at_refused at_value p.3

  -- two answers have a part that is the same
  found_one : {B : Type 0} (part : Answer → B) (Follows : A → Answer → Type 0)
      → ((value : A) (one other : Answer) → Follows value one → Follows value other → part one ≡ part other)
      → (found : Result A F) (one other : Answer)
      → MatchResult found (λ value. Follows value one) (λ fault. one ≡ refused fault)
      → MatchResult found (λ value. Follows value other) (λ fault. other ≡ refused fault) → part one ≡ part other
  found_one part Follows follow (Ok value) one other p q = follow value one other p q
  found_one part Follows follow (Err fault) one other p q = ap part (p ∙ sym q)

  pub after_one : {B : Type 0} (part : Answer → B) → AreOne Reads → (bytes : List ℕ) (Follows : A → Answer → Type 0)
      → ((value : A) (one other : Answer) → Follows value one → Follows value other → part one ≡ part other)
      → (one other : Answer) → AfterFile longest Reads too_long refused bytes Follows one → AfterFile longest Reads too_long refused bytes Follows other
      → part one ≡ part other
  after_one part law bytes Follows follow one other (inl p) (inl q) = ap part (p.1 ∙ sym q.1)
  after_one part law bytes Follows follow one other (inl p) (inr q) = absurd (more_and_not longest (length bytes) p.0 q.0)
  after_one part law bytes Follows follow one other (inr p) (inl q) = absurd (more_and_not longest (length bytes) q.0 p.0)
  after_one part law bytes Follows follow one other (inr p) (inr q) =
      let same : q.1 ≡ p.1 = law bytes q.1 p.1 q.2 p.2 in
      found_one part Follows follow p.1 one other p.3
      (subst (λ (found : Result A F). MatchResult found (λ value. Follows value other) (λ fault. other ≡ refused fault)) same q.3)

  -- where the file is accepted the answer is one of those that follow
  pub after_accepted : AreOne Reads → (bytes : List ℕ) (value : A) (Follows : A → Answer → Type 0) (answer : Answer)
      → length bytes ≤ longest → Reads bytes (Ok value) → AfterFile longest Reads too_long refused bytes Follows answer → Follows value answer
  after_accepted law bytes value Follows answer short reads (inl p) = absurd (more_and_not longest (length bytes) p.0 short)
  after_accepted law bytes value Follows answer short reads (inr p) =
      let same : p.1 ≡ Ok value = law bytes p.1 (Ok value) p.2 reads in
      subst (λ (found : Result A F). MatchResult found (λ given. Follows given answer) (λ fault. answer ≡ refused fault)) same p.3

  -- the answer rests on what was read of the file
  longer : (count : ℕ) (came bytes : List ℕ) → longest < length came → AreFront (Begun count) came bytes → longest < length bytes
  longer count came bytes p front =
      let size : length bytes ≡ length came + length front.0 = ap length front.1 ∙ length-append came front.0 in
      omega (arith, p, size)

  same_bytes : (extent : Extent) (came bytes : List ℕ) → extent ≡ Whole → AreFront extent came bytes → bytes ≡ came
  same_bytes extent came bytes p front = subst (λ e. AreFront e came bytes) p front

  begun_bytes : (extent : Extent) (count : ℕ) (came bytes : List ℕ) → extent ≡ Begun count → AreFront extent came bytes → AreFront (Begun count) came bytes
  begun_bytes extent count came bytes p front = subst (λ e. AreFront e came bytes) p front

  found_follows : (Follows Next : A → Answer → Type 0) (found : Result A F) (answer : Answer)
      → ((value : A) → Follows value answer → Next value answer)
      → MatchResult found (λ value. Follows value answer) (λ fault. answer ≡ refused fault)
      → MatchResult found (λ value. Next value answer) (λ fault. answer ≡ refused fault)
  found_follows Follows Next (Ok value) answer next p = next value p
  found_follows Follows Next (Err fault) answer next p = p

  pub after_follows : (bytes : List ℕ) (Follows Next : A → Answer → Type 0) (answer : Answer)
      → ((value : A) → Follows value answer → Next value answer)
      → AfterFile longest Reads too_long refused bytes Follows answer → AfterFile longest Reads too_long refused bytes Next answer
  after_follows bytes Follows Next answer next (inl p) = inl p
  after_follows bytes Follows Next answer next (inr p) = inr (p.0, p.1, p.2, found_follows Follows Next p.1 answer next p.3)

  found_whole : (extent : Answer → Extent) (Follows : A → Answer → Type 0) (found : Result A F) (answer : Answer)
      → ((fault : F) → extent (refused fault) ≡ Whole) → ((value : A) → Follows value answer → extent answer ≡ Whole)
      → MatchResult found (λ value. Follows value answer) (λ fault. answer ≡ refused fault) → extent answer ≡ Whole
  found_whole extent Follows (Ok value) answer at_refused at_value p = at_value value p
  found_whole extent Follows (Err fault) answer at_refused at_value p = ap extent p ∙ at_refused fault

  pub after_rests : (extent : Answer → Extent) (count : ℕ) (came bytes : List ℕ) (Follows Next : A → Answer → Type 0) (answer : Answer)
      → extent too_long ≡ Begun count → ((fault : F) → extent (refused fault) ≡ Whole) → ((value : A) → Follows value answer → extent answer ≡ Whole)
      → ((value : A) → Follows value answer → Next value answer) → AreFront (extent answer) came bytes
      → AfterFile longest Reads too_long refused came Follows answer → AfterFile longest Reads too_long refused bytes Next answer
  after_rests extent count came bytes Follows Next answer at_long at_refused at_value next front (inl p) =
      inl (longer count came bytes p.0 (begun_bytes (extent answer) count came bytes (ap extent p.1 ∙ at_long) front), p.1)
  after_rests extent count came bytes Follows Next answer at_long at_refused at_value next front (inr p) =
      let same : bytes ≡ came = same_bytes (extent answer) came bytes (found_whole extent Follows p.1 answer at_refused at_value p.3) front in
      inr (
        subst (λ (b : List ℕ). length b ≤ longest) (sym same) p.0,
        p.1,
        subst (λ (b : List ℕ). Reads b p.1) (sym same) p.2,
        found_follows Follows Next p.1 answer next p.3,
      )
