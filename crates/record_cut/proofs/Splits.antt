-- Fields in one list of bytes with their ends.
use Rattle.std.proofs.Common.{◌≡◌, ◌≢◌, ℕ, zero, suc, ◌+◌, ◌-◌, ◌<◌, ◌≤◌, List, [], ◌∷◌, ◌++◌, length, get_or, take, drop, refl, sym, ap, ◌∙◌, arith, length-append}
use Rattle.std.proofs.lemmas.List.{take-append-le, drop-append-le, length-drop, length-take-le, drop_at, take_all}
use native.Mathlib.Numerals.{unary_clauses}
use Rattle.record_cut.specs.Sizes.{size_of_fields}
use Rattle.record_cut.specs.Split.{pieces, Rises, starts_at}

pub pieces-nil : (bytes : List ℕ) (from : ℕ) → pieces bytes from [] ≡ []
unfolding pieces
pieces-nil bytes from = refl

pub length-pieces : (bytes : List ℕ) (from : ℕ) (ends : List ℕ) → length (pieces bytes from ends) ≡ length ends
unfolding pieces
length-pieces bytes from [] = refl
length-pieces bytes from (end ∷ ends) = ap suc (length-pieces bytes end ends)

pub Rises-nil : Rises 0 [] 0
unfolding Rises
Rises-nil = refl

pub Rises-order : (from : ℕ) (ends : List ℕ) (to : ℕ) → Rises from ends to → from ≤ to
unfolding Rises
Rises-order from [] to e = omega arith
Rises-order from (end ∷ ends) to (here, later) = omega (arith, Rises-order end ends to later)

pub Rises-push : (from : ℕ) (ends : List ℕ) (to end : ℕ) → Rises from ends to → to ≤ end → Rises from (ends ++ end ∷ []) end
unfolding Rises
Rises-push from [] to end e h = (omega arith, refl)
Rises-push from (x ∷ ends) to end (here, later) h = (here, Rises-push x ends to end later h)

piece-more : (bytes more : List ℕ) (from end : ℕ) → from ≤ end → end ≤ length bytes → take (end - from) (drop from (bytes ++ more)) ≡ take (end - from) (drop from bytes)
piece-more bytes more from end low high =
    let before : from ≤ length bytes = omega arith in
    let short : end - from ≤ length (drop from bytes) = omega (arith, length-drop from bytes) in
    ap (take (end - from)) (drop-append-le from bytes more before) ∙ take-append-le (end - from) (drop from bytes) more short

pub pieces-more : (bytes more : List ℕ) (from : ℕ) (ends : List ℕ) (to : ℕ) → Rises from ends to → to ≤ length bytes → pieces (bytes ++ more) from ends ≡ pieces bytes from ends
unfolding pieces Rises
pieces-more bytes more from [] to e h = refl
pieces-more bytes more from (end ∷ ends) to (here, later) h =
    let first = piece-more bytes more from end here (omega (arith, Rises-order end ends to later)) in
    let others = pieces-more bytes more end ends to later h in
    cc

pub pieces-push : (bytes : List ℕ) (from : ℕ) (ends : List ℕ) (to end : ℕ) → Rises from ends to → pieces bytes from (ends ++ end ∷ []) ≡ pieces bytes from ends ++ take (end - to) (drop to bytes) ∷ []
unfolding pieces Rises
pieces-push bytes from [] to end e = ap (λ place. take (end - place) (drop place bytes) ∷ []) e
pieces-push bytes from (x ∷ ends) to end (here, later) = ap (λ fields. take (x - from) (drop from bytes) ∷ fields) (pieces-push bytes x ends to end later)

pub starts_at-zero : (from : ℕ) (ends : List ℕ) → starts_at from ends 0 ≡ from
unfolding starts_at
starts_at-zero from ends = refl

pub starts_at-suc : (from : ℕ) (ends : List ℕ) (i : ℕ) → suc i ≤ length ends → starts_at from ends (suc i) ≡ get_or ends i 0
unfolding starts_at
starts_at-suc from [] i h = absurd (omega arith)
starts_at-suc from (end ∷ ends) zero h = refl
starts_at-suc from (end ∷ ends) (suc i) h = starts_at-suc end ends i (omega arith)

pub piece-order : (from : ℕ) (ends : List ℕ) (to i : ℕ) → Rises from ends to → i < length ends → (starts_at from ends i ≤ get_or ends i 0) × (get_or ends i 0 ≤ to)
unfolding starts_at Rises
piece-order from [] to i e h = absurd (omega arith)
piece-order from (end ∷ ends) to zero (here, later) h = (here, Rises-order end ends to later)
piece-order from (end ∷ ends) to (suc i) (here, later) h = piece-order end ends to i later (omega arith)

pub get_or-pieces : (bytes : List ℕ) (from : ℕ) (ends : List ℕ) (i : ℕ) (d : List ℕ) → i < length ends → get_or (pieces bytes from ends) i d ≡ take (get_or ends i 0 - starts_at from ends i) (drop (starts_at from ends i) bytes)
unfolding pieces starts_at
get_or-pieces bytes from [] i d h = absurd (omega arith)
get_or-pieces bytes from (end ∷ ends) zero d h = refl
get_or-pieces bytes from (end ∷ ends) (suc i) d h = get_or-pieces bytes end ends i d (omega arith)

pub starts_at-before : (from : ℕ) (ends : List ℕ) (i : ℕ) → i ≢ 0 → i ≤ length ends → starts_at from ends i ≡ get_or ends (i - 1) 0
starts_at-before from ends zero some h = absurd (some refl)
starts_at-before from ends (suc i) some h = simp unary_clauses (starts_at-suc from ends i h)

pub new-pieces : (bytes ends : List ℕ) → ends ≡ [] → pieces bytes 0 ends ≡ []
new-pieces bytes ends e = rw e (pieces-nil bytes 0)

pub new-Rises : (bytes ends : List ℕ) → bytes ≡ [] → ends ≡ [] → Rises 0 ends (length bytes)
new-Rises bytes ends none no_end = rw (none, no_end) Rises-nil

last-piece : (bytes field : List ℕ) → take (length (bytes ++ field) - length bytes) (drop (length bytes) (bytes ++ field)) ≡ field
last-piece bytes field = ap (take (length (bytes ++ field) - length bytes)) (drop_at bytes field (length bytes) refl) ∙ take_all (length (bytes ++ field) - length bytes) field (omega (arith, length-append bytes field))

pub pieces-one_more : (bytes ends field : List ℕ) → Rises 0 ends (length bytes) → pieces (bytes ++ field) 0 (ends ++ length (bytes ++ field) ∷ []) ≡ pieces bytes 0 ends ++ field ∷ []
pieces-one_more bytes ends field rises =
    pieces-push (bytes ++ field) 0 ends (length bytes) (length (bytes ++ field)) rises ∙ rw (last-piece bytes field, pieces-more bytes field 0 ends (length bytes) rises (omega arith)) refl

pub Rises-one_more : (bytes ends field : List ℕ) → Rises 0 ends (length bytes) → Rises 0 (ends ++ length (bytes ++ field) ∷ []) (length (bytes ++ field))
Rises-one_more bytes ends field rises = Rises-push 0 ends (length bytes) (length (bytes ++ field)) rises (omega (arith, length-append bytes field))

pub pushed_piece : (bytes ends field bytes' ends' : List ℕ) (end : ℕ) → Rises 0 ends (length bytes) → bytes' ≡ bytes ++ field → ends' ≡ ends ++ end ∷ [] → end ≡ length bytes' → pieces bytes' 0 ends' ≡ pieces bytes 0 ends ++ field ∷ []
pushed_piece bytes ends field bytes' ends' end rises e f g = rw (f, g, e) (pieces-one_more bytes ends field rises)

pub pushed_end : (bytes ends field bytes' ends' : List ℕ) (end : ℕ) → Rises 0 ends (length bytes) → bytes' ≡ bytes ++ field → ends' ≡ ends ++ end ∷ [] → end ≡ length bytes' → Rises 0 ends' (length bytes')
pushed_end bytes ends field bytes' ends' end rises e f g = rw (f, g, e) (Rises-one_more bytes ends field rises)

pub piece_read : (bytes ends : List ℕ) (i start : ℕ) → i < length ends → start ≡ starts_at 0 ends i → (d : List ℕ) → take (get_or ends i 0 - start) (drop start bytes) ≡ get_or (pieces bytes 0 ends) i d
piece_read bytes ends i start h e d = rw e (sym (get_or-pieces bytes 0 ends i d h))

pub Rises-whole : (bytes ends : List ℕ) (start : ℕ) → Rises 0 ends start → start ≤ length bytes → drop start bytes ≡ [] → Rises 0 ends (length bytes)
Rises-whole bytes ends start rises h e =
    let at_end : start ≡ length bytes = omega (arith, length-drop start bytes, ap length e) in
    rw (← at_end) rises

pub end_pushed : (bytes ends ends' : List ℕ) (start end : ℕ) → Rises 0 ends start → start ≤ length bytes → end ≡ length bytes → ends' ≡ ends ++ end ∷ [] → Rises 0 ends' end
end_pushed bytes ends ends' start end rises h e f = rw f (Rises-push 0 ends start end rises (omega arith))

pub field_ended : (bytes ends ends' : List ℕ) (start end : ℕ) → Rises 0 ends start → start ≤ length bytes → end ≡ length bytes → ends' ≡ ends ++ end ∷ [] → pieces bytes 0 ends' ≡ pieces bytes 0 ends ++ drop start bytes ∷ []
field_ended bytes ends ends' start end rises h e f =
    let all : take (end - start) (drop start bytes) ≡ drop start bytes = take_all (end - start) (drop start bytes) (omega (arith, length-drop start bytes)) in
    rw f (pieces-push bytes 0 ends start end rises ∙ ap (λ field. pieces bytes 0 ends ++ field ∷ []) all)

pub new-start : (ends : List ℕ) → ends ≡ [] → Rises 0 ends 0
new-start ends e = rw e Rises-nil

-- the bytes of the fields and one for each, of fields in one list of bytes

size-pieces : (bytes : List ℕ) (from : ℕ) (ends : List ℕ) (to : ℕ) → Rises from ends to → to ≤ length bytes → size_of_fields (pieces bytes from ends) + from ≡ to + length ends
unfolding pieces Rises
size-pieces bytes from [] to e h = omega arith
size-pieces bytes from (end ∷ ends) to (here, later) h =
    let others = size-pieces bytes end ends to later h in
    let within : end ≤ length bytes = omega (arith, Rises-order end ends to later) in
    let first : length (take (end - from) (drop from bytes)) ≡ end - from = length-take-le (end - from) (drop from bytes) (omega (arith, length-drop from bytes)) in
    omega (arith, others, first)

pub size-drafted : (bytes ends : List ℕ) (start : ℕ) → Rises 0 ends start → start ≤ length bytes → size_of_fields (pieces bytes 0 ends) + length (drop start bytes) ≡ length bytes + length ends
size-drafted bytes ends start rises h = omega (arith, size-pieces bytes 0 ends start rises h, length-drop start bytes)

pub size-pushed : (bytes ends bytes' more : List ℕ) (start : ℕ) → Rises 0 ends start → start ≤ length bytes → bytes' ≡ bytes ++ more → size_of_fields (pieces bytes' 0 ends) + length (drop start bytes') ≡ size_of_fields (pieces bytes 0 ends) + length (drop start bytes) + length more
size-pushed bytes ends bytes' more start rises h e =
    let longer : length bytes' ≡ length bytes + length more = ap length e ∙ length-append bytes more in
    omega (arith, size-drafted bytes ends start rises h, size-drafted bytes' ends start rises (omega arith), longer)

pub size-ended : (bytes ends ends' : List ℕ) (start end : ℕ) → Rises 0 ends start → start ≤ length bytes → end ≡ length bytes → ends' ≡ ends ++ end ∷ [] → size_of_fields (pieces bytes 0 ends') + length (drop end bytes) ≡ size_of_fields (pieces bytes 0 ends) + length (drop start bytes) + 1
size-ended bytes ends ends' start end rises h e f =
    let longer : length ends' ≡ length ends + 1 = ap length f ∙ length-append ends (end ∷ []) in
    omega (arith, size-drafted bytes ends start rises h, size-drafted bytes ends' end (end_pushed bytes ends ends' start end rises h e f) (omega arith), longer)

pub Rises-copied : (bytes ends bytes' ends' : List ℕ) → bytes' ≡ bytes → ends' ≡ ends → Rises 0 ends (length bytes) → Rises 0 ends' (length bytes')
Rises-copied bytes ends bytes' ends' e f rises = rw (e, f) rises
