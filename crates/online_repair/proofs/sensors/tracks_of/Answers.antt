use Rattle.std.proofs.Common.{List, sym, subst}
use Rattle.std.specs.List.{AllByRecursion}
use Rattle.words.proofs.Lists.{all_push}
use Rattle.rule_file.specs.declared.rules.SpeedRule.{SpeedRule}
use Rattle.online_repair.specs.Sensors.{IsNew, IsTrackOf}
use Rattle.online_repair.specs.declared.track.Track.{Track}
use Rattle.online_repair.proofs.Rounds.{tracks_preserved}
use Rattle.online_repair.proofs.sensors.tracks_of.Goals as goal

pub loop-rule-preserved : goal.loop-rule-preserved
loop-rule-preserved c =
    let T : SpeedRule → Type 0 = λ rule. IsTrackOf c.args.rules.now c.args.header.now rule c.in_ok-new_track.field-0 in
    let A : List Track → Type 0 = λ ts. AllByRecursion IsNew ts in
    record {
      tracks = tracks_preserved (IsTrackOf c.args.rules.now c.args.header.now) c.loop-rule.rule-index c.args.rules.now.speeds c.as_slice-rule-items.result.now c.loop-rule.tracks.items c.push.new.self.items c.rule-item.result c.in_ok-new_track.field-0
          c.as_slice-rule-items.ensures c.loop-rule-test.true c.loop-rule.invariant.tracks (subst T c.rule-item.is c.in_ok-new_track.ensures.track) c.in_ok-push.ensures.items;
      new = subst A (sym c.in_ok-push.ensures.items) (all_push IsNew c.loop-rule.tracks.items c.in_ok-new_track.field-0 c.loop-rule.invariant.new c.in_ok-new_track.ensures.new);
    }
