-- The bounds of a rule bear its number.
use Rattle.std.proofs.Common.{◌≡◌, ℕ, pos, Bool, true, false, cond, List, [], ◌∷◌, Option, Some, None, refl}
use Rattle.std.specs.Prelude.{option_to_list}
use Rattle.std.specs.List.{AllByRecursion, flat_map}
use Rattle.words.proofs.Lists.{all_append}
use Rattle.screen_model.specs.declared.bound.Bound.{Bound}
use Rattle.screen_model.specs.declared.bound.Side.{Side}
use Rattle.screen_model.specs.declared.bound.Side.TheVariants.{Up, Down}
use Rattle.rule_file.specs.declared.rules.SpeedRule.{SpeedRule}
use Rattle.pair_bounds.specs.Pairs.{elapsed, is_within, place_in, rate_limit, rise_bound}
use Rattle.bound_maker.specs.declared.reading.Reading.{Reading}
use Rattle.bound_maker.specs.Bounds.{both_sides, bounds_of_pairs, speed_bound}

-- what holds of each bound of a flat list of them
pub all_flat : {A B : Type 0} (P : B → Type 0) (f : A → List B) (xs : List A) → ((x : A) → AllByRecursion P (f x)) → AllByRecursion P (flat_map f xs)
all_flat P f [] each = tt
all_flat P f (x ∷ xs) each = all_append P (f x) (flat_map f xs) (each x) (all_flat P f xs each)

pub all_if : {B : Type 0} (P : B → Type 0) (t : Bool) (b : B) → P b → AllByRecursion P (option_to_list (cond t (Some b) None))
all_if P true b h = (h, tt)
all_if P false b h = tt

pub all_sides : (P : Bound → Type 0) (bound : Side → Option Bound) → AllByRecursion P (option_to_list (bound Up)) → AllByRecursion P (option_to_list (bound Down)) → AllByRecursion P (both_sides bound)
all_sides P bound up down = all_append P (option_to_list (bound Up)) (option_to_list (bound Down)) up down

-- a bound bears this number
abbrev pub HasNumber : ℕ → Bound → Type 0
HasNumber number bound = bound.name.rule ≡ number

pub speed_named : (number : ℕ) (rule : SpeedRule) (d col : ℕ) (pairs : List (Reading × Reading)) → AllByRecursion (HasNumber number) (bounds_of_pairs (speed_bound number rule d col) pairs)
speed_named number rule d col pairs =
    all_flat (HasNumber number) (λ pair. both_sides (speed_bound number rule d col pair.0.stamp pair.1.stamp)) pairs
    (λ pair.
    let from = pair.0.stamp in
    let to = pair.1.stamp in
    let within = is_within (pos 1) rule.window (elapsed from to) in
    all_sides (HasNumber number) (speed_bound number rule d col from to)
    (all_if (HasNumber number) within (rise_bound number (place_in col from) (place_in col to) (rate_limit rule.min rule.max d (elapsed from to) Up) Up) refl)
    (all_if (HasNumber number) within (rise_bound number (place_in col from) (place_in col to) (rate_limit rule.min rule.max d (elapsed from to) Down) Down) refl))
