-- One more number written from a list in reverse.
use Rattle.std.proofs.Common.{◌≡◌, ℕ, ◌+◌, ◌-◌, ◌<◌, ◌≤◌, List, [], ◌∷◌, ◌++◌, map, reverse, length, get_or, set, take, sym, ap, ◌∙◌, arith}
use Rattle.std.proofs.lemmas.List.{take_more_set, map_more, get_or-reverse, length-reverse}

pub written_more : (f : ℕ → ℕ) (nodes written : List ℕ) (place value : ℕ) → place < length nodes → length nodes ≤ length written → take place written ≡ map f (take place (reverse nodes)) → value ≡ f (get_or nodes (length nodes - 1 - place) 0) → take (place + 1) (set written place value) ≡ map f (take (place + 1) (reverse nodes))
written_more f nodes written place value h room so_far is =
    let here : value ≡ f (get_or (reverse nodes) place 0) = is ∙ ap f (sym (get_or-reverse nodes place 0 h)) in
    let more = map_more f (reverse nodes) place 0 (omega (arith, length-reverse nodes)) in
    take_more_set written place value (omega arith) ∙ ap (λ (l : List ℕ). l ++ value ∷ []) so_far ∙ ap (λ (v : ℕ). map f (take place (reverse nodes)) ++ v ∷ []) here ∙ sym more
