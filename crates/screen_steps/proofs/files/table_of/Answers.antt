use Rattle.std.proofs.Common.{◌≢◌, rules}
use Rattle.series_rows.specs.Faults.{of_memory}
use Rattle.series_rows.specs.declared.fault.TableCause.TheVariants.{Memory}
use Rattle.screen_steps.proofs.files.table_of.Goals as goal

pub returns-in-Err-2 : goal.returns-in-Err-2
returns-in-Err-2 c =
    let other : c.in-Err.fault.cause ≢ Memory = search (rules, c.eq.ensures, c.if-eq.false) in
    let fault : c.in-Err.fault ≢ of_memory = λ same. other cc in
    c.in-Err.ensures.refused fault
