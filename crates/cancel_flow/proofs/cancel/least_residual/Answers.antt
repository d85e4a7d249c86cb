use Rattle.std.proofs.Common.{◌≡◌, ℤ, pos, ◌≤ℤ◌, get_or, w64, to_z, of_z, sym, ap, ◌∙◌, subst, arith}
use Rattle.std.proofs.lemmas.Int.{ints, to_z-of_z}
use Rattle.std.proofs.lemmas.Option.{get_or_from_slice_get, slice_get-get_or}
use Rattle.cancel_flow.specs.Cycles.{room_of}
use Rattle.cancel_flow.proofs.Numbers.{least_more, some_min}
use Rattle.cancel_flow.proofs.cancel.least_residual.Goals as goal
use Rattle.cancel_flow.proofs.cancel.least_residual.Goals.{in-Some, in_default}

pub loop-i-preserved : goal.loop-i-preserved
loop-i-preserved c =
    let net = c.args.net.now in
    let numbers = c.args.room.now.cycle in
    let i = c.loop-i.i in
    let before = to_z w64 c.loop-i.least-bits in
    elim c.match-cycle_arc.branch [
      | in-Some w ↦ let least : to_z w64 c.match-cycle_arc.least-bits ≡ w.min-least.result = w.least-is ∙ to_z-of_z w64 w.min-least.result (record { sfits = w.min-least.type_inv }) in
          let room : to_z w64 (of_z w64 w.residual.result) ≡ room_of net (get_or numbers i 0) =
          to_z-of_z w64 w.residual.result (record { sfits = w.residual.type_inv }) ∙ w.residual.ensures ∙ ap (room_of net) (sym (get_or_from_slice_get numbers i w.in-Some.number 0 (sym c.cycle_arc.ensures ∙ w.in-Some.is))) in
          let has = c.requires i (omega arith) in
          let here = has.room in
          let min = w.min-least.ensures in
          record {
            some = subst (λ (z : ℤ). pos 1 ≤ℤ z) (sym (least ∙ min.value)) (some_min before (to_z w64 (of_z w64 w.residual.result)) c.loop-i.invariant.some (subst (λ (z : ℤ). pos 1 ≤ℤ z) (sym room) here));
            room = least_more net numbers i before (to_z w64 c.match-cycle_arc.least-bits) c.requires (omega arith) (subst (λ (z : ℤ). z ≤ℤ before) (sym least) min.self_bound)
                (omega (arith, ints, least, room, min.other_bound)) c.loop-i.invariant.room;
          }
      | in_default w ↦ absurd (let there = slice_get-get_or numbers i 0 (omega arith) in let none = sym w.in_default.is ∙ c.cycle_arc.ensures ∙ there in cc)
    ]
