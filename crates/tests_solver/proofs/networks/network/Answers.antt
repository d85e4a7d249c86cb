use Rattle.std.proofs.Common.{◌≡◌, ◌++◌, ◌+◌, ℕ, List, [], ◌∷◌, length, refl, w64, ap, ◌∙◌, arith}
use Rattle.std.proofs.lemmas.Int.{to_z-of_z}
use Rattle.std.proofs.lemmas.List.{length_push}
use Rattle.screen_model.specs.declared.bound.Bound.{Bound}
use Rattle.path_flow.proofs.Examples.{between, one_bound_more, one_reading_more, same_readings, end_is}
use Rattle.tests_solver.proofs.networks.network.Goals as goal

one_more : (xs new : List Bound) (x : Bound) → new ≡ xs ++ x ∷ [] → length new ≡ length xs + 1
one_more xs new x is = ap (λ (l : List Bound). length l) is ∙ omega (arith, length_push xs x)

two_more : (xs new : List Bound) (x y : Bound) → new ≡ (xs ++ x ∷ []) ++ y ∷ [] → length new ≡ length xs + 2
two_more xs new x y is = ap (λ (l : List Bound). length l) is ∙ omega (arith, length_push (xs ++ x ∷ []) y, length_push xs x)

pub loop-i-preserved : goal.loop-i-preserved
loop-i-preserved c =
    let is = c.loop-i.invariant in
    let value = to_z-of_z w64 c.within_range.result (record { sfits = c.within_range.type_inv }) in
    let more = one_reading_more c.loop-i.i c.loop-i.places c.loop-i.series c.loop-i.kept c.loop-i.bounds c.loop-i.prices c.within_range.result c.at_most.result is.are c.within_range.ensures c.at_most.ensures in
    let bounds = c.in_ok-push-5.ensures.ok ∙ (λ j. (c.in_ok-push-4.ensures.ok ∙ (λ k. c.loop-i.bounds ++ c.bound.ensures k ∷ [])) j ++ c.bound-in-loop-i.ensures j ∷ []) in
    record {
      are = same_readings _ _ _ _ _ _ _ _ _ _ _ more c.in_ok-push.ensures.ok (c.in_ok-push-2.ensures.ok ∙ ap (λ z. c.loop-i.series ++ z ∷ []) value) c.in_ok-push-3.ensures.ok bounds
          (c.in_ok-push-7.ensures.ok ∙ ap (λ (l : List ℕ). l ++ 0 ∷ []) c.in_ok-push-6.ensures.ok);
      few = omega (arith, is.few, two_more c.loop-i.bounds c.push-in-loop-i-4.new.self _ _ bounds);
    }

pub loop-line-preserved : goal.loop-line-preserved
loop-line-preserved c =
    let is = c.loop-line.invariant in
    let limit = to_z-of_z w64 c.within_range-in-loop-line.result (record { sfits = c.within_range-in-loop-line.type_inv }) in
    let places = c.places-2.inside.elements.items in
    let series = c.series-2.inside.elements.items in
    let kept = c.kept-2.inside.elements.items in
    let first = end_is c.min-count.result places series kept c.loop-line.bounds c.loop-line.prices c.at_most-in-loop-line.result c.end-first.result is.are c.at_most-in-loop-line.ensures c.end-first.ensures in
    let second = end_is c.min-count.result places series kept c.loop-line.bounds c.loop-line.prices c.at_most-in-loop-line-2.result c.end-second.result is.are c.at_most-in-loop-line-2.ensures c.end-second.ensures in
    let small = c.within_range-in-loop-line.ensures in
    let more = one_bound_more c.min-count.result places series kept c.loop-line.bounds c.loop-line.prices (between c.end-first.result c.end-second.result c.within_range-in-loop-line.result) c.at_most-in-loop-line-3.result is.are first second (omega (arith, small)) c.at_most-in-loop-line-3.ensures in
    let bounds = c.in_ok-push-8.ensures.ok ∙ (λ j. c.loop-line.bounds ++ (c.bound-in-loop-line.ensures ∙ (λ k. between c.end-first.result c.end-second.result (limit k))) j ∷ []) in
    record {
      are = same_readings _ _ _ _ _ _ _ _ _ _ _ more refl refl refl bounds c.in_ok-push-9.ensures.ok;
      few = omega (arith, is.few, one_more c.loop-line.bounds c.push-in-loop-line.new.self _ bounds);
    }
