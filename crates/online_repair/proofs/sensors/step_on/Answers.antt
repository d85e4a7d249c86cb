use Rattle.std.proofs.Common.{◌<◌, length, refl, ap, ◌∙◌, arith}
use Rattle.online_repair.specs.Sensors.{passed}
use Rattle.online_repair.proofs.Rounds.{length-mapped, mapped_all, passed_preserved}
use Rattle.online_repair.proofs.sensors.step_on.Goals as goal

pub loop-i-preserved : goal.loop-i-preserved
loop-i-preserved c =
    let old = c.args.tracks.now.items in
    let inside : c.loop-i.i < length c.loop-i.tracks.items = omega (arith, ap length c.loop-i.invariant, length-mapped c.loop-i.i old) in
    passed_preserved c.loop-i.i old c.loop-i.tracks.items _ c.index_mut.result.now c.pass.new.track c.loop-i.invariant inside (c.pass.ensures ∙ ap passed c.index_mut.ensures.value) refl

pub returns : goal.returns
returns c = c.loop-i.invariant ∙ mapped_all c.loop-i.i c.args.tracks.now.items (omega arith)
