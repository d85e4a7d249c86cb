-- The test whether two places are the same.
use Rattle.std.proofs.Common.{◌≡◌, ◌≢◌, true, false, refl, sym, ap, ◌∙◌}
use Rattle.std.proofs.lemmas.Bool.{eqb-true, eq-eqb, and_from, and_parts, false_from_ne_true}
use Rattle.screen_model.specs.declared.place.Place.{Place}
use Rattle.screen_model.specs.Series.{is_same_place}

pub same_place : (p : Place) → is_same_place p p ≡ true
same_place p = and_from _ _ (eq-eqb p.row p.row refl) (eq-eqb p.col p.col refl)

pub place_from_same : (p q : Place) → is_same_place p q ≡ true → p ≡ q
place_from_same p q h =
    let parts = and_parts _ _ h in
    let row = eqb-true p.row q.row parts.0 in
    let col = eqb-true p.col q.col parts.1 in
    λ i. record { row = row i; col = col i }

pub other_place : (p q : Place) → p ≢ q → is_same_place p q ≡ false
other_place p q h = false_from_ne_true (is_same_place p q) (λ same. h (place_from_same p q same))

pub turned : (p q : Place) → is_same_place p q ≡ true → is_same_place q p ≡ true
turned p q h =
    let same = place_from_same p q h in
    ap (λ r. is_same_place r p) (sym same) ∙ ap (λ r. is_same_place p r) same ∙ h
