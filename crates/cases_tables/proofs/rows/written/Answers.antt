use Rattle.std.proofs.Common.{◌≡◌, ◌++◌, ◌∷◌, [], ◌≤◌, length, ap, sym, subst, ◌∙◌, arith, to_z, of_z, length-append}
use Rattle.std.specs.Prelude.{unsigned_abs}
use Rattle.std.specs.List.{AllByRecursion}
use Rattle.std.proofs.lemmas.Int.{to_z-of_z}
use mir.Syntax.{w64}
use Rattle.words.proofs.Lists.{all_push}
use Rattle.fix_point.specs.declared.scale.TheConstants.{MOST_UNITS}
use Rattle.cases_tables.proofs.rows.written.Goals as goal

pub loop-place-preserved : goal.loop-place-preserved
loop-place-preserved c =
    let same : to_z w64 (of_z w64 c.args.value) ≡ c.args.value = to_z-of_z w64 c.args.value c.ranges.value in
    let pushed : c.push.new.self ≡ c.loop-place.series ++ c.args.value ∷ [] = c.in_ok-push.ensures.ok ∙ ap (λ v. c.loop-place.series ++ v ∷ []) same in (
      omega (arith, ap length pushed, length-append c.loop-place.series (c.args.value ∷ []), c.loop-place.invariant.0),
      subst (AllByRecursion (λ value. unsigned_abs value ≤ unsigned_abs MOST_UNITS)) (sym pushed)
          (all_push (λ value. unsigned_abs value ≤ unsigned_abs MOST_UNITS) c.loop-place.series c.args.value c.loop-place.invariant.1 c.requires),
    )

pub row_with-requires : goal.row_with-requires
row_with-requires c = record {
  count = omega (arith, ap length c.readings-count.ensures.readings, c.loop-place.invariant.0);
  small = c.loop-place.invariant.1;
}
