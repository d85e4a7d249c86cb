use Rattle.std.proofs.Common.{refl, arith}
use Rattle.record_cut.proofs.Standing.{nothing-fed}
use Rattle.record_cut.proofs.Passed.{part-goes_on}
use Rattle.record_cut.proofs.cutter.Cutter.take_run.Goals as goal

pub returns-in-Record-clause-goes_on : goal.returns-in-Record-clause-goes_on
returns-in-Record-clause-goes_on c = λ sep before stands. part-goes_on sep before c.args.bytes.now c.min.result c.take_unquoted.new.self c.take_unquoted.result c.take_unquoted.ensures.within (c.take_unquoted.ensures.goes_on sep before stands)

pub returns-in-Inside-Quoted-clause-goes_on : goal.returns-in-Inside-Quoted-clause-goes_on
returns-in-Inside-Quoted-clause-goes_on c = λ sep before stands. part-goes_on sep before c.args.bytes.now c.min.result c.take_quoted.new.self c.take_quoted.result c.take_quoted.ensures.within (c.take_quoted.ensures.goes_on sep before stands)

pub returns-in_default-clause-goes_on : goal.returns-in_default-clause-goes_on
returns-in_default-clause-goes_on c = nothing-fed c.args.self.now

pub returns-in_default-2 : goal.returns-in_default-2
returns-in_default-2 c = record { within = omega arith; goes_on = nothing-fed c.args.self.now; err = tt; refused = λ fault h. (h, refl) }
