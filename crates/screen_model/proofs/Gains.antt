-- What a flow gains on its bounds is at most what a series pays for them.
use Rattle.std.proofs.Common.{◌≡◌, ℕ, zero, suc, ◌*◌, ◌<◌, ◌≤◌, ℤ, pos, negsuc, ◌-ℤ◌, ◌*ℤ◌, ◌≤ℤ◌, List, [], ◌∷◌, map, sum, refl, arith}
use Rattle.std.specs.List.{AllZip}
use Rattle.std.proofs.lemmas.Int.{ints}
use Rattle.std.proofs.lemmas.Nat.{mul-le}
use Rattle.std.proofs.lemmas.List.Sums.{sum_by-cons}
use Rattle.screen_model.specs.declared.place.Place.{Place}
use Rattle.words.specs.Lists.{inner_product}
use Rattle.words.proofs.Products.{mul-le_zero}
use Rattle.screen_model.specs.Obeys.{Priced, rise, Obeys}
use Rattle.screen_model.specs.Cost.{above_zero, payment}
use Rattle.screen_model.specs.Flow.{CanCarry}

-- an amount times a gain is at most a greater amount times what of the gain lies above 0
mul-le_above_zero : (n m : ℕ) (gain : ℤ) → n ≤ m → (pos n *ℤ gain) ≤ℤ pos (m * above_zero gain)
mul-le_above_zero n m (pos g) h = omega (arith, ints, mul-le n g m g h (omega arith))
mul-le_above_zero n m (negsuc g) h = omega (arith, ints)

on_one_bound : (amount : ℤ) (price : ℕ) (gain : ℤ) → (price ≡ 0 → gain ≤ℤ pos 0) → pos 0 ≤ℤ amount → (0 < price → amount ≤ℤ pos price) → (amount *ℤ gain) ≤ℤ pos (price * above_zero gain)
on_one_bound amount zero gain kept some within = omega (arith, ints, mul-le_zero amount gain some (kept refl))
on_one_bound (pos n) (suc price) gain kept some within = mul-le_above_zero n (suc price) gain (omega (arith, ints, within (omega arith)))
on_one_bound (negsuc n) (suc price) gain kept some within = absurd (omega (arith, ints))

-- how far the series breaks a bound, below 0 where it does not
abbrev pub gain_at : List Place → List ℤ → Priced → ℤ
gain_at places series priced = rise places series priced.bound -ℤ priced.bound.limit

pub gains_are_paid : (places : List Place) (series : List ℤ) (bounds : List Priced) (flow : List ℤ) → Obeys places series bounds → AllZip CanCarry bounds flow
    → inner_product flow (map (gain_at places series) bounds) ≤ℤ pos (sum (map (payment places series) bounds))
gains_are_paid places series [] [] obeys carry = omega (arith, ints)
gains_are_paid places series (priced ∷ bounds) (amount ∷ flow) obeys carry =
    let gain = gain_at places series priced in
    let one = on_one_bound amount priced.price gain (λ free. omega (arith, ints, obeys.0 free)) carry.0.0 carry.0.1 in
    let rest = gains_are_paid places series bounds flow obeys.1 carry.1 in
    omega (arith, ints, one, rest, sum_by-cons (λ x. x) (payment places series priced) (map (payment places series) bounds))
gains_are_paid places series [] (amount ∷ flow) obeys carry = absurd carry
gains_are_paid places series (priced ∷ bounds) [] obeys carry = absurd carry
