-- What a caller of read_all learns of a source that tells its bytes.
use Rattle.std.proofs.Common.{◌≡◌, ℕ, ◌+◌, ◌<◌, List, [], ◌++◌, length, ap, sym, ◌∙◌, subst, Option, Some, arith, length-append}
use Rattle.std.proofs.lemmas.List.{append-nil}
use Rattle.screen_io.specs.Source.{Takes, IsAtEnd}

-- what was taken is the front of the bytes that were there
pub taken_front :
    (before : Option (List ℕ)) (taken : List ℕ) (now : Option (List ℕ)) (bytes : List ℕ) →
    before ≡ Some bytes →
    Takes before taken now →
    (rest : List ℕ) × (bytes ≡ taken ++ rest) × (now ≡ Some rest)
taken_front before taken now bytes told takes =
    subst (λ (b : Option (List ℕ)). Takes b taken now) told takes

-- what was read to the end is all the bytes that were there
pub taken_whole :
    (before : Option (List ℕ)) (taken : List ℕ) (now : Option (List ℕ)) (bytes : List ℕ) →
    before ≡ Some bytes →
    Takes before taken now →
    IsAtEnd now →
    (taken ≡ bytes) × (now ≡ Some [])
taken_whole before taken now bytes told takes ends =
    let found = taken_front before taken now bytes told takes in
    let empty : found.0 ≡ [] = subst (λ (n : Option (List ℕ)). IsAtEnd n) found.2 ends in
    (sym (found.1 ∙ ap (λ (rest : List ℕ). taken ++ rest) empty ∙ append-nil taken), found.2 ∙ ap Some empty)

-- where more was taken than a limit, more was there
pub longer_than :
    (before : Option (List ℕ)) (taken : List ℕ) (now : Option (List ℕ)) (bytes : List ℕ) (limit : ℕ) →
    before ≡ Some bytes →
    Takes before taken now →
    length taken ≡ limit + 1 →
    limit < length bytes
longer_than before taken now bytes limit told takes count =
    let found = taken_front before taken now bytes told takes in
    rw found.1 (omega (arith, length-append taken found.0, count))
