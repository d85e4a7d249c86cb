use Rattle.std.proofs.Common.{◌≡◌, true, [], ◌∷◌, arith}
use Rattle.record_cut.specs.Feeds.{EndsRecord}
use Rattle.record_cut.specs.Moves.{in_unquoted}
use Rattle.record_cut.proofs.Standing.{same-sep}
use Rattle.record_cut.proofs.Passed.{fed-line}
use Rattle.record_cut.proofs.cutter.Cutter.feed_after.Goals as goal

pub returns-in-Ok-clause-feeds : goal.returns-in-Ok-clause-feeds
returns-in-Ok-clause-feeds c = λ sep before.
    let stands_in : in_unquoted c.args.self.now.phase ≡ true = cc in
    same-sep c.args.self.now sep before (λ s. EndsRecord s before (c.args.byte ∷ []) c.in-Ok.fields c.end_record.new.self) (fed-line c.args.self.now c.end_record.new.self c.args.byte before c.in-Ok.fields stands_in c.if-byte-ne-LINE_FEED.false c.in-Ok.ensures.fields (omega arith) c.in-Ok.ensures.sep c.in-Ok.ensures.begun)
