use Rattle.std.proofs.Common.{refl, [], ◌∷◌}
use Rattle.record_cut.specs.Feeds.{GoesOn}
use Rattle.record_cut.proofs.Standing.{same-sep}
use Rattle.record_cut.proofs.Passed.{fed-separator}
use Rattle.record_cut.proofs.cutter.Cutter.take_separator.Goals as goal

pub returns-clause-goes_on : goal.returns-clause-goes_on
returns-clause-goes_on c = λ sep before. same-sep c.args.self.now sep before (λ s. GoesOn s before (c.args.byte ∷ []) [] _) (fed-separator c.args.self.now _ c.args.byte before c.requires.unquoted c.requires.separator c.in_ok-end_field.ensures.fields c.in_ok-end_field.ensures.field refl refl refl)
