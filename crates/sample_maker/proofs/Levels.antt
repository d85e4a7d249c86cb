-- The states and the levels of a sample are small, and the level moves slowly.
use Rattle.std.proofs.Common.{◌≡◌, ℕ, zero, suc, ◌+◌, ◌*◌, ◌^◌, ◌<◌, ◌≤◌, ℤ, pos, ◌-ℤ◌, FitsSigned, ap, ◌∙◌, subst, lit<, arith}
use Rattle.std.specs.Prelude.{unsigned_abs}
use Rattle.std.specs.Int.{w64}
use Rattle.std.proofs.lemmas.Int.{ints, fits_signed_from_abs}
use Rattle.std.proofs.lemmas.Nat.{mod_below}
use Rattle.words.proofs.Products.{within_size, size_within}
use Rattle.sample_maker.specs.Walk.{state_after, drawn_from, level_after, reading_at, state_of, draw_of, level_of, reading_of}

pub state_small : (seed k : ℕ) → seed < 2 ^ 31 → state_of seed k < 2 ^ 31
unfolding state_of
state_small seed zero h = h
state_small seed (suc k) h = mod_below (state_of seed k * 1103515245 + 12345) (2 ^ 31) (lit< tt)

-- a step changes the distance from another number by at most 3
moved : (level from : ℤ) (draw n : ℕ) → unsigned_abs (level -ℤ from) ≤ n → unsigned_abs (level_after level draw -ℤ from) ≤ n + 3
moved level from draw n h =
    let near = within_size (level -ℤ from) n h in
    let step = mod_below draw 7 (lit< tt) in
    size_within (level_after level draw -ℤ from) (n + 3) (omega (arith, ints, near.0, step)) (omega (arith, ints, near.1, step))

-- and the size by at most 3
pub moved_small : (level : ℤ) (draw n : ℕ) → unsigned_abs level ≤ n → unsigned_abs (level_after level draw) ≤ n + 3
moved_small level draw n h =
    let near = within_size level n h in
    let step = mod_below draw 7 (lit< tt) in
    size_within (level_after level draw) (n + 3) (omega (arith, ints, near.0, step)) (omega (arith, ints, near.1, step))

same_place : (x : ℤ) → unsigned_abs (x -ℤ x) ≡ 0
same_place x = let none : x -ℤ x ≡ pos 0 = omega (arith, ints) in ap unsigned_abs none

pub level_near : (seed k s : ℕ) → unsigned_abs (level_of seed (k + s) -ℤ level_of seed k) ≤ 3 * s
unfolding level_of
level_near seed k zero =
    let here : k ≡ k + 0 = omega arith in
    subst (λ j. unsigned_abs (level_of seed j -ℤ level_of seed k) ≤ 3 * 0) here (omega (arith, same_place (level_of seed k)))
level_near seed k (suc s) =
    let next : suc (k + s) ≡ k + suc s = omega arith in
    subst (λ j. unsigned_abs (level_of seed j -ℤ level_of seed k) ≤ 3 * suc s) next
    (omega (arith, moved (level_of seed (k + s)) (level_of seed k) (draw_of seed (suc (k + s))) (3 * s) (level_near seed k s)))

pub level_small : (seed k : ℕ) → unsigned_abs (level_of seed k) ≤ 20000 + 3 * k
unfolding level_of
level_small seed zero = omega arith
level_small seed (suc k) = omega (arith, moved_small (level_of seed k) (draw_of seed (suc k)) (20000 + 3 * k) (level_small seed k))

-- the state and the level at a row
pub record IsAt (seed k state : ℕ) (level : ℤ) : Type 0 where
  pub state_is : state ≡ state_of seed k
  pub level_is : level ≡ level_of seed k

-- within the rows of a sample
pub level_in_rows : (seed k state : ℕ) (level : ℤ) → k ≤ 20000 → IsAt seed k state level → unsigned_abs level ≤ 80000
level_in_rows seed k state level few at = omega (arith, ap unsigned_abs at.level_is, level_small seed k, few)

pub level_fits : (level : ℤ) → unsigned_abs level ≤ 80000 → FitsSigned w64 level
level_fits level small = fits_signed_from_abs w64 level (omega (arith, small))

-- a row further
pub at_next : (seed k state next number : ℕ) (level moved : ℤ) → IsAt seed k state level → next ≡ state_after state → number ≡ drawn_from next → moved ≡ level_after level number → IsAt seed (k + 1) next moved
unfolding state_of level_of
at_next seed k state next number level moved at e f g =
    let more : suc k ≡ k + 1 = omega arith in
    let next_is = e ∙ ap state_after at.state_is in
    subst (λ j. IsAt seed j next moved) more (record {
      state_is = next_is;
      level_is = g ∙ ap (λ l. level_after l number) at.level_is ∙ ap (λ n. level_after (level_of seed k) n) (f ∙ ap drawn_from next_is);
    })

pub reading_is : (seed k state number : ℕ) (level reading : ℤ) → IsAt seed k state level → number ≡ drawn_from state → reading ≡ reading_at level number → reading ≡ reading_of seed k
reading_is seed k state number level reading at f h =
    h ∙ ap (λ l. reading_at l number) at.level_is ∙ ap (λ n. reading_at (level_of seed k) n) (f ∙ ap drawn_from at.state_is)
