use Rattle.std.proofs.Common.{◌+◌, ℤ, pos, ◌≤ℤ◌, sym, ◌∙◌, subst, w64, to_z, of_z, arith}
use Rattle.std.proofs.lemmas.Int.{to_z-of_z}
use Rattle.std.proofs.lemmas.Option.{get_or_from_slice_get, slice_get-get_or}
use Rattle.flow_core.specs.State.{NetworkState}
use Rattle.cancel_flow.specs.Cycles.{room_of}
use Rattle.cancel_flow.proofs.Cycles.{residual_cycle}
use Rattle.cancel_flow.proofs.Pushing.{IsPartway, begun, cancelled, inside, step}
use Rattle.cancel_flow.proofs.cancel.push_around.Goals as goal
use Rattle.cancel_flow.proofs.cancel.push_around.Goals.{in-Some, in_default}

pub least_residual-amount-requires : goal.least_residual-amount-requires
least_residual-amount-requires c = let cycle = residual_cycle c.args.net.now c.args.room.now.cycle c.requires.cycle in cycle.room

pub loop-i-init : goal.loop-i-init
loop-i-init c =
    let fits = to_z-of_z w64 c.least_residual-amount.result (record { sfits = c.least_residual-amount.type_inv }) in
    subst (λ (z : ℤ). IsPartway c.args.net.now c.args.net.now z c.args.room.now.cycle 0) (sym fits)
    (begun c.args.net.now c.least_residual-amount.result c.args.room.now.cycle c.requires.network c.least_residual-amount.ensures.room)

pub push-requires-clause-arc : goal.push-requires-clause-arc
push-requires-clause-arc c =
    let cycle = residual_cycle c.args.net.now c.args.room.now.cycle c.requires.cycle in
    inside c.args.net.now c.loop-i.net _ c.args.room.now.cycle c.loop-i.i c.in-Some.number c.loop-i.invariant cycle.room (omega arith) (get_or_from_slice_get c.args.room.now.cycle c.loop-i.i c.in-Some.number 0 (sym c.cycle_arc.ensures ∙ c.in-Some.is))

pub push-requires-clause-room : goal.push-requires-clause-room
push-requires-clause-room c =
    let amount = to_z w64 (of_z w64 c.least_residual-amount.result) in
    subst (λ n. amount ≤ℤ room_of c.loop-i.net n) (get_or_from_slice_get c.args.room.now.cycle c.loop-i.i c.in-Some.number 0 (sym c.cycle_arc.ensures ∙ c.in-Some.is)) (c.loop-i.invariant.left c.loop-i.i (omega arith) (omega arith))

pub loop-i-preserved : goal.loop-i-preserved
loop-i-preserved c =
    let numbers = c.args.room.now.cycle in
    let cycle = residual_cycle c.args.net.now numbers c.requires.cycle in
    let amount = to_z w64 (of_z w64 c.least_residual-amount.result) in
    let fits = to_z-of_z w64 c.least_residual-amount.result (record { sfits = c.least_residual-amount.type_inv }) in
    let some : pos 1 ≤ℤ amount = subst (λ (z : ℤ). pos 1 ≤ℤ z) (sym fits) c.least_residual-amount.ensures.some in
    elim c.match-cycle_arc.branch [
      | in-Some w ↦ subst (λ (net : NetworkState). IsPartway c.args.net.now net amount numbers (c.loop-i.i + 1)) (sym w.net-is)
          (step c.args.net.now c.loop-i.net _ amount numbers c.loop-i.i w.in-Some.number cycle c.loop-i.invariant some (omega arith) (get_or_from_slice_get numbers c.loop-i.i w.in-Some.number 0 (sym c.cycle_arc.ensures ∙ w.in-Some.is)) w.push.ensures.pushed w.push.ensures.network)
      | in_default w ↦ absurd (let there = slice_get-get_or numbers c.loop-i.i 0 (omega arith) in let none = sym w.in_default.is ∙ c.cycle_arc.ensures ∙ there in cc)
    ]

pub returns-clause-excesses : goal.returns-clause-excesses
returns-clause-excesses c =
    let numbers = c.args.room.now.cycle in
    let fits = to_z-of_z w64 c.least_residual-amount.result (record { sfits = c.least_residual-amount.type_inv }) in
    let some = subst (λ (z : ℤ). pos 1 ≤ℤ z) (sym fits) c.least_residual-amount.ensures.some in
    let done = cancelled c.args.net.now c.loop-i.net _ numbers c.loop-i.i c.requires.network (residual_cycle c.args.net.now numbers c.requires.cycle) c.loop-i.invariant some (omega arith) in
    done.excesses

pub returns-clause-value : goal.returns-clause-value
returns-clause-value c =
    let numbers = c.args.room.now.cycle in
    let fits = to_z-of_z w64 c.least_residual-amount.result (record { sfits = c.least_residual-amount.type_inv }) in
    let some = subst (λ (z : ℤ). pos 1 ≤ℤ z) (sym fits) c.least_residual-amount.ensures.some in
    let done = cancelled c.args.net.now c.loop-i.net _ numbers c.loop-i.i c.requires.network (residual_cycle c.args.net.now numbers c.requires.cycle) c.loop-i.invariant some (omega arith) in
    done.value
