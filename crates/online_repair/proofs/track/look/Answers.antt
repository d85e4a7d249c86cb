use Rattle.std.proofs.Common.{length, ℤ, ◌-ℤ◌, ◌≤ℤ◌, ◌<ℤ◌, FitsSigned, rules, refl, sym, ap, subst, arith}
use Rattle.std.specs.Int.{w64}
use Rattle.std.proofs.lemmas.Int.{to_z-of_z}
use Rattle.order_window.specs.declared.key.Key.{Key}
use Rattle.std.specs.Prelude.{List}
use Rattle.online_repair.specs.Rows.{reading_in}
use Rattle.online_repair.specs.Tracks.{Fits, IsLooking}
use Rattle.online_repair.proofs.Looking.{at_place, front_few, like_next, looked_next, is_past, next_fits, none_beyond, not_past, past_end, rest_beyond}
use Rattle.online_repair.proofs.track.look.Goals as goal

pub returns-then-is_past-clause-looked : goal.returns-then-is_past-clause-looked
returns-then-is_past-clause-looked c =
    let L : ℤ → Type 0 = λ t. IsLooking c.args.col t c.rows.track c.args.held.now.items in
    let looking = subst L (to_z-of_z w64 c.args.ticks c.ranges.ticks) c.rows.invariant.looking in
    let at = at_place c.args.held.now.items c.rows.track.next c.in-Some.row.now (sym c.in-Some.ensures) in
    let span : FitsSigned w64 c.rows.track.span = search rules in
    let now : FitsSigned w64 c.ticks.result = search rules in
    let E : ℤ → Type 0 = λ t. c.rows.track.span <ℤ (t -ℤ c.args.ticks) in
    let beyond = subst E c.ticks.ensures (is_past c.rows.track.span c.args.ticks c.ticks.result span c.ranges.ticks now (c.if-is_past.ensures.0 refl)) in
    record { looking = looking; beyond = rest_beyond c.rows.track.span c.args.ticks c.args.held.now.items c.rows.track.next c.in-Some.row.now c.requires.rows.rise at beyond }

pub look_at-requires-clause-room : goal.look_at-requires-clause-room
look_at-requires-clause-room c =
    let at = at_place c.args.held.now.items c.rows.track.next c.in-Some.row.now (sym c.in-Some.ensures) in
    omega (arith, ap length c.rows.invariant.looking.keys_are, front_few c.args.col c.rows.track.next c.args.held.now.items, at.below, c.requires.rows.few, c.rows.invariant.like.room)

pub look_at-requires-clause-fits : goal.look_at-requires-clause-fits
look_at-requires-clause-fits c =
    let L : ℤ → Type 0 = λ t. IsLooking c.args.col t c.rows.track c.args.held.now.items in
    let looking = subst L (to_z-of_z w64 c.args.ticks c.ranges.ticks) c.rows.invariant.looking in
    let at = at_place c.args.held.now.items c.rows.track.next c.in-Some.row.now (sym c.in-Some.ensures) in
    let span : FitsSigned w64 c.rows.track.span = search rules in
    let now : FitsSigned w64 c.ticks.result = search rules in
    let E : ℤ → Type 0 = λ t. (t -ℤ c.args.ticks) ≤ℤ c.rows.track.span in
    let near = subst E c.ticks.ensures (not_past c.rows.track.span c.args.ticks c.ticks.result span c.ranges.ticks now c.if-is_past.ensures.1) in
    let S : ℤ → Type 0 = λ s. Fits s c.rows.track.sensor.keys c.in-Some.row.now.ticks (reading_in c.args.col c.in-Some.row.now.readings) in
    let K : List Key → Type 0 = λ keys. Fits c.rows.track.span keys c.in-Some.row.now.ticks (reading_in c.args.col c.in-Some.row.now.readings) in
    subst S looking.span_is (subst K (sym looking.keys_are) (next_fits c.args.col c.rows.track.span c.args.ticks c.args.held.now.items c.rows.track.next c.in-Some.row.now c.requires.rows.rise c.requires.rows.units at near))

pub overflow_add-track : goal.overflow_add-track
overflow_add-track c =
    let at = at_place c.args.held.now.items c.rows.track.next c.in-Some.row.now (sym c.in-Some.ensures) in
    omega (arith, at.below, c.requires.rows.few, c.requires.rows.room_fits)

pub rows-smaller : goal.rows-smaller
rows-smaller c =
    let at = at_place c.args.held.now.items c.rows.track.next c.in-Some.row.now (sym c.in-Some.ensures) in
    omega (arith, at.below)

pub rows-preserved : goal.rows-preserved
rows-preserved c =
    let L : ℤ → Type 0 = λ t. IsLooking c.args.col t c.rows.track c.args.held.now.items in
    let looking = subst L (to_z-of_z w64 c.args.ticks c.ranges.ticks) c.rows.invariant.looking in
    let at = at_place c.args.held.now.items c.rows.track.next c.in-Some.row.now (sym c.in-Some.ensures) in
    let span : FitsSigned w64 c.rows.track.span = search rules in
    let now : FitsSigned w64 c.ticks.result = search rules in
    let E : ℤ → Type 0 = λ t. (t -ℤ c.args.ticks) ≤ℤ c.rows.track.span in
    let near = subst E c.ticks.ensures (not_past c.rows.track.span c.args.ticks c.ticks.result span c.ranges.ticks now c.if-is_past.ensures.1) in
    record {
      looking = looked_next c.args.col c.args.ticks _ c.rows.track _ c.args.held.now.items c.in-Some.row.now (to_z-of_z w64 c.args.ticks c.ranges.ticks) refl refl c.look_at.ensures looking at near;
      like = like_next c.args.track.now c.rows.track _ _ c.rows.invariant.like refl refl refl c.look_at.ensures;
    }

pub returns-clause-looked : goal.returns-clause-looked
returns-clause-looked c =
    let L : ℤ → Type 0 = λ t. IsLooking c.args.col t c.rows.track c.args.held.now.items in
    let looking = subst L (to_z-of_z w64 c.args.ticks c.ranges.ticks) c.rows.invariant.looking in
    let end = past_end c.args.held.now.items c.rows.track.next (sym c.in_default.ensures) in
    record { looking = looking; beyond = none_beyond c.rows.track.span c.args.ticks c.args.held.now.items c.rows.track.next end }
