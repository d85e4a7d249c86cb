use Rattle.std.proofs.Common.{ℤ, neg_ℤ, ◌-ℤ◌, ◌≤ℤ◌, arith}
use Rattle.std.proofs.lemmas.Int.{ints}
use Rattle.screen_model.specs.Series.{value_at}
use Rattle.screen_model.specs.declared.place.End.TheVariants.{At}
use Rattle.pair_bounds.proofs.laws.rises_are_limited.Goals as goal

down : (a b least : ℤ) → (a -ℤ b) ≤ℤ neg_ℤ least → least ≤ℤ (b -ℤ a)
down a b least h = omega (arith, ints, h)

back : (a b least : ℤ) → least ≤ℤ (b -ℤ a) → (a -ℤ b) ≤ℤ neg_ℤ least
back a b least h = omega (arith, ints, h)

pub returns : goal.returns
returns c = λ places series number from to least most.
    let a = value_at places series (At from) in
    let b = value_at places series (At to) in
    (λ kept. (down a b least kept.1, kept.0), λ limits. (limits.1, back a b least limits.0))
