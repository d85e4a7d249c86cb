-- The names of the bounds of a cycle.
use Rattle.std.proofs.Common.{◌≡◌, ℕ, zero, suc, ◌+◌, ◌/◌, ◌<◌, List, [], ◌∷◌, ◌++◌, length, map, get_or, take, Option, Some, refl, sym, ap, ◌∙◌, arith}
use Rattle.std.specs.Prelude.{slice_get}
use Rattle.std.proofs.lemmas.List.{append_assoc, append-nil}
use Rattle.screen_model.specs.declared.bound.Bound.{Bound}
use Rattle.screen_model.specs.declared.bound.BoundName.{BoundName}
use Rattle.screen_model.specs.Obeys.{Priced, with_prices}
use Rattle.screen_model.specs.Names.{names_of}
use Rattle.least_cost.specs.Cycle.{name_if_there, names_at, names_on}

pub names_more : (bounds : List Bound) (numbers : List ℕ) (k d : ℕ) → k < length numbers → names_on bounds (take (k + 1) numbers) ≡ names_on bounds (take k numbers) ++ names_at bounds (get_or numbers k d / 2)
names_more bounds [] k d below = absurd (omega arith)
names_more bounds (number ∷ numbers) zero d below = append-nil (names_at bounds (number / 2))
names_more bounds (number ∷ numbers) (suc k) d below =
    let more : suc k + 1 ≡ suc (k + 1) = omega arith in
    let here = names_at bounds (number / 2) in
    (λ i. names_on bounds (take (more i) (number ∷ numbers)))
    ∙ ap (λ (names : List BoundName). here ++ names) (names_more bounds numbers k d (omega arith))
    ∙ sym (append_assoc here (names_on bounds (take k numbers)) (names_at bounds (get_or numbers k d / 2)))

-- ---- the names are those of the priced bounds

named_here : (found : Option Bound) (priced : Priced) → found ≡ Some priced.bound → name_if_there found ≡ priced.bound.name ∷ []
named_here found priced there = ap name_if_there there

bound_there : (bounds : List Bound) (prices : List ℕ) (number : ℕ) (priced : Priced) → slice_get (with_prices bounds prices) number ≡ Some priced → slice_get bounds number ≡ Some priced.bound
bound_there [] prices number priced there = absurd cc
bound_there (bound ∷ bounds) [] zero priced there = let same : record { bound = bound; price = 0 } ≡ priced = cc in ap (λ (p : Priced). Some p.bound) same
bound_there (bound ∷ bounds) [] (suc number) priced there = bound_there bounds [] number priced there
bound_there (bound ∷ bounds) (price ∷ prices) zero priced there = let same : record { bound = bound; price = price } ≡ priced = cc in ap (λ (p : Priced). Some p.bound) same
bound_there (bound ∷ bounds) (price ∷ prices) (suc number) priced there = bound_there bounds prices number priced there

pub names_are : (bounds : List Bound) (prices numbers : List ℕ) (cycle : List Priced) → map (slice_get (with_prices bounds prices)) (map (λ number. number / 2) numbers) ≡ map Some cycle → names_on bounds numbers ≡ names_of cycle
names_are bounds prices [] [] same = refl
names_are bounds prices [] (priced ∷ cycle) same = absurd cc
names_are bounds prices (number ∷ numbers) [] same = absurd cc
names_are bounds prices (number ∷ numbers) (priced ∷ cycle) same =
    let first : slice_get (with_prices bounds prices) (number / 2) ≡ Some priced = cc in
    let rest : map (slice_get (with_prices bounds prices)) (map (λ number. number / 2) numbers) ≡ map Some cycle = cc in
    (λ i. named_here (slice_get bounds (number / 2)) priced (bound_there bounds prices (number / 2) priced first) i ++ names_are bounds prices numbers cycle rest i)
