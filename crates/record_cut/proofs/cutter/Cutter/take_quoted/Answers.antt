use Rattle.std.proofs.Common.{◌≡◌, ◌+◌, refl, [], take, length, arith}
use Rattle.std.proofs.lemmas.List.{length-take-le}
use Rattle.record_cut.specs.Feeds.{GoesOn}
use Rattle.record_cut.specs.declared.phase.Place.TheVariants.{Quoted}
use Rattle.record_cut.proofs.Standing.{same-sep, fed-run}
use Rattle.record_cut.proofs.Passed.{quoted-run}
use Rattle.record_cut.proofs.cutter.Cutter.take_quoted.Goals as goal

pub returns-clause-goes_on : goal.returns-clause-goes_on
returns-clause-goes_on c = λ sep before.
    let run = take c.before_quote-run.result c.args.bytes.now in
    let counted : c.args.self.now.count + c.before_quote-run.result ≡ c.args.self.now.count + length run = omega (arith, length-take-le c.before_quote-run.result c.args.bytes.now c.before_quote-run.ensures.within) in
    same-sep c.args.self.now sep before (λ s. GoesOn s before run [] _) (fed-run c.args.self.now _ run before Quoted Quoted c.requires.quoted (quoted-run c.args.self.now.sep run c.before_quote-run.ensures.none_before) c.extend.ensures.fields c.in_ok-extend.ensures.field refl c.requires.quoted counted)
