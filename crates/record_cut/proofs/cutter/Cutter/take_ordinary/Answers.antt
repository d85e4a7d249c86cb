use Rattle.std.proofs.Common.{refl, []}
use Rattle.record_cut.specs.Feeds.{GoesOn}
use Rattle.record_cut.proofs.Standing.{same-sep}
use Rattle.record_cut.proofs.Passed.{fed-ordinary}
use Rattle.record_cut.proofs.cutter.Cutter.take_ordinary.Goals as goal

pub returns-clause-goes_on : goal.returns-clause-goes_on
returns-clause-goes_on c = λ sep before. same-sep c.args.self.now sep before (λ s. GoesOn s before c.args.bytes.now [] _) (fed-ordinary c.args.self.now _ c.args.bytes.now before c.requires.unquoted c.requires.some c.requires.ordinary c.extend.ensures.fields c.in_ok-extend.ensures.field refl refl refl)
