use Rattle.std.proofs.Common.{◌≢◌, rules}
use Rattle.rule_file.specs.Fault.{of_the_file}
use Rattle.rule_file.specs.declared.fault.RuleCause.TheVariants.{Memory}
use Rattle.screen_steps.proofs.files.rules_of.Goals as goal

pub returns-in-Err-2 : goal.returns-in-Err-2
returns-in-Err-2 c =
    let other : c.in-Err.fault.cause ≢ Memory = search (rules, c.eq.ensures, c.if-eq.false) in
    let fault : c.in-Err.fault ≢ of_the_file Memory = λ same. other cc in
    c.in-Err.ensures.refused fault
