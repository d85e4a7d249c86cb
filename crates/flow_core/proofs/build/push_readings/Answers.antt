use Rattle.std.proofs.Common.{◌≡◌, ◌+◌, ◌≤◌, ◌-ℤ◌, pos, ap, ◌∙◌, get_or, arith, w64, of_z, to_z}
use Rattle.std.specs.Prelude.{unsigned_abs}
use Rattle.std.proofs.lemmas.Int.{to_z-of_z, fits_signed_from_abs}
use Rattle.std.proofs.lemmas.List.Elements.{All-from_recursion}
use Rattle.words.proofs.Products.{size_of_minus}
use Rattle.flow_core.specs.declared.limits.TheConstants.{MOST_VALUE}
use Rattle.flow_core.proofs.Building.{one_reading_more}
use Rattle.flow_core.proofs.build.push_readings.Goals as goal

pub loop-reading-preserved : goal.loop-reading-preserved
loop-reading-preserved c =
    let i = c.loop-reading.reading in
    let value = get_or c.args.values.now i (pos 0) in
    let small : unsigned_abs value ≤ MOST_VALUE = All-from_recursion (λ value. unsigned_abs value ≤ MOST_VALUE) c.args.values.now c.requires.values i (pos 0) c.loop-reading-test.true in
    let there : to_z w64 (of_z w64 value) ≡ value = to_z-of_z w64 value (fits_signed_from_abs w64 value (omega (arith, small))) in
    let back : to_z w64 (of_z w64 (pos 0 -ℤ value)) ≡ pos 0 -ℤ value = to_z-of_z w64 (pos 0 -ℤ value) (fits_signed_from_abs w64 (pos 0 -ℤ value) (omega (arith, small, size_of_minus value))) in
    one_reading_more c.args.table.now c.args.values.now i c.loop-reading.table c.push.new.self c.push-in-loop-reading.new.self _ _ c.loop-reading-test.true c.loop-reading.invariant
    c.in_ok-push.ensures.ok c.in_ok-push-2.ensures.ok
    (λ j. record { tail = 0; head = i + 1; cost = there j })
    (λ j. record { tail = i + 1; head = 0; cost = (ap (λ z. to_z w64 (of_z w64 (pos 0 -ℤ z))) there ∙ back) j })
