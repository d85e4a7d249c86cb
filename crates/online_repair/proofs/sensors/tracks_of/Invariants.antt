use Rattle.std.proofs.Common.{take}
use Rattle.std.specs.List.{AllByRecursion, AllZip}
use Rattle.online_repair.specs.Sensors.{IsNew, IsTrackOf}
use Rattle.online_repair.proofs.sensors.tracks_of.Given as goal

abbrev pub invariant-loop-rule : goal.invariant-loop-rule
invariant-loop-rule l = record {
  tracks : AllZip (IsTrackOf l.rules l.header) (take l.rule-index l.rules.speeds) l.tracks.items;
  new : AllByRecursion IsNew l.tracks.items;
}
