use Rattle.std.proofs.Common.{◌+◌, ◌++◌, FitsSigned, to_z, of_z, refl, ap, ◌∙◌, rules, arith}
use Rattle.std.specs.Prelude.{codes, unsigned_abs}
use Rattle.std.specs.Int.{w64}
use Rattle.std.proofs.lemmas.Int.{to_z-of_z}
use Rattle.sample_maker.specs.Walk.{state_of, level_of, reading_at}
use Rattle.sample_maker.specs.Texts.{lines_text}
use Rattle.sample_maker.proofs.Levels.{IsAt, state_small, level_in_rows, level_fits, at_next, reading_is}
use Rattle.sample_maker.proofs.Lines.{line_more}
use Rattle.sample_maker.proofs.make.readings.Goals as goal

pub loop-time-init : goal.loop-time-init
unfolding state_of level_of lines_text
loop-time-init c = record {
  text = c.in_ok-extend_from_slice.ensures.items ∙ ap (λ s. s ++ codes "time,x\n") c.in_ok-text.ensures.items;
  state = refl;
  level = refl;
}

pub next_state-state-requires : goal.next_state-state-requires
next_state-state-requires c = omega (arith, c.loop-time.invariant.state, state_small c.args.seed c.loop-time.time (omega (arith, c.requires.seed)))

pub next_level-level-requires : goal.next_level-level-requires
next_level-level-requires c =
    let at : IsAt c.args.seed c.loop-time.time c.loop-time.state (to_z w64 c.loop-time.level-bits) = record { state_is = c.loop-time.invariant.state; level_is = c.loop-time.invariant.level } in
    omega (arith, level_in_rows c.args.seed c.loop-time.time c.loop-time.state (to_z w64 c.loop-time.level-bits) (omega (arith, c.requires.rows)) at)

pub reading-requires : goal.reading-requires
reading-requires c =
    let at : IsAt c.args.seed c.loop-time.time c.loop-time.state (to_z w64 c.loop-time.level-bits) = record { state_is = c.loop-time.invariant.state; level_is = c.loop-time.invariant.level } in
    let next = at_next c.args.seed c.loop-time.time c.loop-time.state c.next_state-state.result c.draw-number.result (to_z w64 c.loop-time.level-bits) c.next_level-level.result at c.next_state-state.ensures c.draw-number.ensures c.next_level-level.ensures in
    let small = level_in_rows c.args.seed (c.loop-time.time + 1) c.next_state-state.result c.next_level-level.result (omega (arith, c.requires.rows)) next in
    omega (arith, small, ap unsigned_abs (to_z-of_z w64 c.next_level-level.result (level_fits c.next_level-level.result small)))

pub loop-time-preserved : goal.loop-time-preserved
loop-time-preserved c =
    let at : IsAt c.args.seed c.loop-time.time c.loop-time.state (to_z w64 c.loop-time.level-bits) = record { state_is = c.loop-time.invariant.state; level_is = c.loop-time.invariant.level } in
    let next = at_next c.args.seed c.loop-time.time c.loop-time.state c.next_state-state.result c.draw-number.result (to_z w64 c.loop-time.level-bits) c.next_level-level.result at c.next_state-state.ensures c.draw-number.ensures c.next_level-level.ensures in
    let small = level_in_rows c.args.seed (c.loop-time.time + 1) c.next_state-state.result c.next_level-level.result (omega (arith, c.requires.rows)) next in
    let stored = to_z-of_z w64 c.next_level-level.result (level_fits c.next_level-level.result small) in
    let fits : FitsSigned w64 c.reading.result = search rules in
    let read = reading_is c.args.seed (c.loop-time.time + 1) c.next_state-state.result c.draw-number.result c.next_level-level.result c.reading.result next c.draw-number.ensures
    (c.reading.ensures ∙ ap (λ l. reading_at l c.draw-number.result) stored) in
    record {
      text = line_more (codes "time,x\n") c.loop-time.text.items c.push_line.new.text.items c.args.seed c.loop-time.time (to_z w64 (of_z w64 c.reading.result)) c.loop-time.invariant.text c.in_ok-push_line.ensures
          (to_z-of_z w64 c.reading.result fits ∙ read);
      state = next.state_is;
      level = stored ∙ next.level_is;
    }
