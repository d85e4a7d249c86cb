use Rattle.std.proofs.Common.{◌≢◌, rules}
use Rattle.cert_check.specs.declared.fault.CertFault.TheVariants.{Memory}
use Rattle.screen_steps.proofs.files.accepted_of.Goals as goal

pub returns-in-Err-2 : goal.returns-in-Err-2
returns-in-Err-2 c =
    let other : c.in-Err.fault ≢ Memory = search (rules, c.eq.ensures, c.if-eq.false) in
    c.in-Err.ensures.refused other
