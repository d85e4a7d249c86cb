use Rattle.std.proofs.Common.{◌≡◌, pos, ◌-ℤ◌, sym, ap, ◌∙◌, rules, arith, w64, of_z, to_z}
use Rattle.std.specs.Prelude.{FitsSigned}
use Rattle.std.proofs.lemmas.Int.{to_z-of_z, fits_signed_from_abs}
use Rattle.std.proofs.lemmas.List.{length-set}
use Rattle.words.proofs.Products.{size_of_minus}
use Rattle.flow_core.specs.Layout.{arc_numbered}
use Rattle.flow_core.specs.State.{NetworkState, rise_by, added}
use Rattle.flow_core.proofs.Pushing.{ready_from, written_stored}
use Rattle.flow_core.proofs.network.Network.push.Goals as goal

pub add-requires-clause-place : goal.add-requires-clause-place
add-requires-clause-place c =
    let r = ready_from _ _ c.args.arc c.arc-ends.result c.args.back c.args.amount c.self.view_is c.self.invariant.network c.arc-ends.ensures c.requires.arc c.requires.some c.requires.room in
    r.place

pub add-requires-clause-number : goal.add-requires-clause-number
add-requires-clause-number c =
    let r = ready_from _ _ c.args.arc c.arc-ends.result c.args.back c.args.amount c.self.view_is c.self.invariant.network c.arc-ends.ensures c.requires.arc c.requires.some c.requires.room in
    omega (arith, r.flow)

pub add-requires-clause-amount : goal.add-requires-clause-amount
add-requires-clause-amount c =
    let r = ready_from _ _ c.args.arc c.arc-ends.result c.args.back c.args.amount c.self.view_is c.self.invariant.network c.arc-ends.ensures c.requires.arc c.requires.some c.requires.room in
    let fits : FitsSigned w64 c.rise-rise.result = search rules in
    let rise : to_z w64 (of_z w64 c.rise-rise.result) ≡ rise_by c.args.back c.args.amount = to_z-of_z w64 c.rise-rise.result fits ∙ c.rise-rise.ensures ∙ ap (rise_by c.args.back) (to_z-of_z w64 c.args.amount (search rules)) in
    rw rise (omega (arith, r.amount))

pub add-requires-2-clause-place : goal.add-requires-2-clause-place
add-requires-2-clause-place c =
    let r = ready_from _ _ c.args.arc c.arc-ends.result c.args.back c.args.amount c.self.view_is c.self.invariant.network c.arc-ends.ensures c.requires.arc c.requires.some c.requires.room in
    r.tail

pub add-requires-2-clause-number : goal.add-requires-2-clause-number
add-requires-2-clause-number c =
    let r = ready_from _ _ c.args.arc c.arc-ends.result c.args.back c.args.amount c.self.view_is c.self.invariant.network c.arc-ends.ensures c.requires.arc c.requires.some c.requires.room in
    omega (arith, r.excess_tail)

pub add-requires-2-clause-amount : goal.add-requires-2-clause-amount
add-requires-2-clause-amount c =
    let r = ready_from _ _ c.args.arc c.arc-ends.result c.args.back c.args.amount c.self.view_is c.self.invariant.network c.arc-ends.ensures c.requires.arc c.requires.some c.requires.room in
    let fits : FitsSigned w64 c.rise-rise.result = search rules in
    let by = rise_by c.args.back c.args.amount in
    let rise : to_z w64 (of_z w64 c.rise-rise.result) ≡ by = to_z-of_z w64 c.rise-rise.result fits ∙ c.rise-rise.ensures ∙ ap (rise_by c.args.back) (to_z-of_z w64 c.args.amount (search rules)) in
    let less : to_z w64 (of_z w64 (pos 0 -ℤ to_z w64 (of_z w64 c.rise-rise.result))) ≡ pos 0 -ℤ by =
    ap (λ z. to_z w64 (of_z w64 (pos 0 -ℤ z))) rise ∙ to_z-of_z w64 (pos 0 -ℤ by) (fits_signed_from_abs w64 (pos 0 -ℤ by) (omega (arith, r.amount, size_of_minus by))) in
    rw less (omega (arith, r.amount, size_of_minus by))

pub add-requires-3-clause-place : goal.add-requires-3-clause-place
add-requires-3-clause-place c =
    let r = ready_from _ _ c.args.arc c.arc-ends.result c.args.back c.args.amount c.self.view_is c.self.invariant.network c.arc-ends.ensures c.requires.arc c.requires.some c.requires.room in
    rw c.add-2.ensures (simp length-set r.head)

pub add-requires-3-clause-number : goal.add-requires-3-clause-number
add-requires-3-clause-number c =
    let r = ready_from _ _ c.args.arc c.arc-ends.result c.args.back c.args.amount c.self.view_is c.self.invariant.network c.arc-ends.ensures c.requires.arc c.requires.some c.requires.room in
    let fits : FitsSigned w64 c.rise-rise.result = search rules in
    let by = rise_by c.args.back c.args.amount in
    let rise : to_z w64 (of_z w64 c.rise-rise.result) ≡ by = to_z-of_z w64 c.rise-rise.result fits ∙ c.rise-rise.ensures ∙ ap (rise_by c.args.back) (to_z-of_z w64 c.args.amount (search rules)) in
    let less : to_z w64 (of_z w64 (pos 0 -ℤ to_z w64 (of_z w64 c.rise-rise.result))) ≡ pos 0 -ℤ by =
    ap (λ z. to_z w64 (of_z w64 (pos 0 -ℤ z))) rise ∙ to_z-of_z w64 (pos 0 -ℤ by) (fits_signed_from_abs w64 (pos 0 -ℤ by) (omega (arith, r.amount, size_of_minus by))) in
    rw (c.add-2.ensures, less) (omega (arith, r.excess_head))

pub add-requires-3-clause-amount : goal.add-requires-3-clause-amount
add-requires-3-clause-amount c =
    let r = ready_from _ _ c.args.arc c.arc-ends.result c.args.back c.args.amount c.self.view_is c.self.invariant.network c.arc-ends.ensures c.requires.arc c.requires.some c.requires.room in
    let fits : FitsSigned w64 c.rise-rise.result = search rules in
    let rise : to_z w64 (of_z w64 c.rise-rise.result) ≡ rise_by c.args.back c.args.amount = to_z-of_z w64 c.rise-rise.result fits ∙ c.rise-rise.ensures ∙ ap (rise_by c.args.back) (to_z-of_z w64 c.args.amount (search rules)) in
    rw rise (omega (arith, r.amount))

pub invariant_of-self : goal.invariant_of-self
invariant_of-self c =
    let r = ready_from _ _ c.args.arc c.arc-ends.result c.args.back c.args.amount c.self.view_is c.self.invariant.network c.arc-ends.ensures c.requires.arc c.requires.some c.requires.room in
    let fits : FitsSigned w64 c.rise-rise.result = search rules in
    let by = rise_by c.args.back c.args.amount in
    let rise : to_z w64 (of_z w64 c.rise-rise.result) ≡ by = to_z-of_z w64 c.rise-rise.result fits ∙ c.rise-rise.ensures ∙ ap (rise_by c.args.back) (to_z-of_z w64 c.args.amount (search rules)) in
    let less : to_z w64 (of_z w64 (pos 0 -ℤ to_z w64 (of_z w64 c.rise-rise.result))) ≡ pos 0 -ℤ by =
    ap (λ z. to_z w64 (of_z w64 (pos 0 -ℤ z))) rise ∙ to_z-of_z w64 (pos 0 -ℤ by) (fits_signed_from_abs w64 (pos 0 -ℤ by) (omega (arith, r.amount, size_of_minus by))) in
    written_stored _ _ _ c.args.arc c.arc-ends.result by c.add.new.numbers.items c.add-2.new.numbers.items c.add-3.new.numbers.items c.saturating_add-self-inside.result c.self.invariant r
    (record {
      ends_are = c.arc-ends.ensures ∙ ap (λ (net : NetworkState). arc_numbered net.network c.args.arc) (sym c.self.view_is);
      flows_are = c.add.ensures ∙ ap (λ z. added c.self.inside.flows.items c.args.arc z) rise;
      taken_are = c.add-2.ensures ∙ ap (λ z. added c.self.inside.excesses.items c.arc-ends.result.tail z) less;
      excesses_are = c.add-3.ensures ∙ ap (λ z. added c.add-2.new.numbers.items c.arc-ends.result.head z) rise;
      changes_are = c.saturating_add-self-inside.ensures;
    })

pub returns-clause-network : goal.returns-clause-network
returns-clause-network c =
    let r = ready_from _ _ c.args.arc c.arc-ends.result c.args.back c.args.amount c.self.view_is c.self.invariant.network c.arc-ends.ensures c.requires.arc c.requires.some c.requires.room in
    let fits : FitsSigned w64 c.rise-rise.result = search rules in
    let by = rise_by c.args.back c.args.amount in
    let rise : to_z w64 (of_z w64 c.rise-rise.result) ≡ by = to_z-of_z w64 c.rise-rise.result fits ∙ c.rise-rise.ensures ∙ ap (rise_by c.args.back) (to_z-of_z w64 c.args.amount (search rules)) in
    let less : to_z w64 (of_z w64 (pos 0 -ℤ to_z w64 (of_z w64 c.rise-rise.result))) ≡ pos 0 -ℤ by =
    ap (λ z. to_z w64 (of_z w64 (pos 0 -ℤ z))) rise ∙ to_z-of_z w64 (pos 0 -ℤ by) (fits_signed_from_abs w64 (pos 0 -ℤ by) (omega (arith, r.amount, size_of_minus by))) in
    (written_stored _ _ _ c.args.arc c.arc-ends.result by c.add.new.numbers.items c.add-2.new.numbers.items c.add-3.new.numbers.items c.saturating_add-self-inside.result c.self.invariant r
    (record {
      ends_are = c.arc-ends.ensures ∙ ap (λ (net : NetworkState). arc_numbered net.network c.args.arc) (sym c.self.view_is);
      flows_are = c.add.ensures ∙ ap (λ z. added c.self.inside.flows.items c.args.arc z) rise;
      taken_are = c.add-2.ensures ∙ ap (λ z. added c.self.inside.excesses.items c.arc-ends.result.tail z) less;
      excesses_are = c.add-3.ensures ∙ ap (λ z. added c.add-2.new.numbers.items c.arc-ends.result.head z) rise;
      changes_are = c.saturating_add-self-inside.ensures;
    })).network
