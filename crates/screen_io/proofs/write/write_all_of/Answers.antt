use Rattle.std.proofs.Common.{◌∙◌, arith, length-drop}
use Rattle.std.proofs.lemmas.List.{length-take}
use Rattle.screen_io.proofs.Steps.{Gains-step}
use Rattle.screen_io.proofs.write.write_all_of.Goals as goal

pub loop-done-preserved : goal.loop-done-preserved
loop-done-preserved g c = record {
  within =
      let bound = simp (length-take, length-drop) at c.in_ok-done.ensures.bound in
      omega arith;
  gained = Gains-step _ _ _ _ _ _ c.loop-done.invariant.gained c.in_ok-done.ensures.gains;
  unfailed = c.in_ok-done.ensures.unfailed ∙ c.loop-done.invariant.unfailed;
}
