use Rattle.std.proofs.Common.{◌≡◌, ◌≢◌, ◌∙◌, None, Some}
use Rattle.std.specs.Prelude.{List, ℤ}
use Rattle.cert_check.specs.declared.fault.CertFault.{CertFault}
use Rattle.cert_check.specs.declared.fault.CertFault.TheVariants.{Memory}
use Rattle.cert_check.specs.Claims.{first_fault, line_faults, number_faults}
use Rattle.cert_check.specs.Repair.{repair_faults}
use Rattle.cert_check.proofs.Faults.{err_more, fault_of_first, fault_of_second, ok_more}
use Rattle.cert_check.proofs.repair.check_repair.Goals as goal

pub check_lines-requires : goal.check_lines-requires
check_lines-requires c = c.requires.fit

pub check_numbers-requires-clause-made : goal.check_numbers-requires-clause-made
check_numbers-requires-clause-made c = c.requires.made

pub check_numbers-requires-clause-few : goal.check_numbers-requires-clause-few
check_numbers-requires-clause-few c = c.requires.few

pub check_numbers-requires-clause-tally : goal.check_numbers-requires-clause-tally
check_numbers-requires-clause-tally c = c.in-Ok.ensures.tally

pub returns-in-Ok-clause-passed : goal.returns-in-Ok-clause-passed
returns-in-Ok-clause-passed c =
    let lines = line_faults c.args.rules.now c.args.table.now c.args.claim.now in
    let numbers = number_faults c.args.rules.now c.args.table.now c.args.claim.now in
    ok_more {E = CertFault} (λ (part : List ℤ × ℤ). first_fault numbers ≡ None) (λ (part : List ℤ × ℤ). first_fault (repair_faults c.args.rules.now c.args.table.now c.args.claim.now) ≡ None) c.check_numbers.result
    (λ part h. fault_of_second lines numbers c.in-Ok.ensures.passed ∙ h) c.check_numbers.ensures.passed

pub returns-in-Ok-clause-numbers : goal.returns-in-Ok-clause-numbers
returns-in-Ok-clause-numbers c = c.check_numbers.ensures.numbers

pub returns-in-Ok-clause-refused : goal.returns-in-Ok-clause-refused
returns-in-Ok-clause-refused c =
    let lines = line_faults c.args.rules.now c.args.table.now c.args.claim.now in
    let numbers = number_faults c.args.rules.now c.args.table.now c.args.claim.now in
    err_more {A = List ℤ × ℤ} (λ (fault : CertFault). fault ≢ Memory → first_fault numbers ≡ Some fault) (λ (fault : CertFault). fault ≢ Memory → first_fault (repair_faults c.args.rules.now c.args.table.now c.args.claim.now) ≡ Some fault)
    c.check_numbers.result (λ fault h other. fault_of_second lines numbers c.in-Ok.ensures.passed ∙ h other) c.check_numbers.ensures.refused

pub returns-in-Err-clause-refused : goal.returns-in-Err-clause-refused
returns-in-Err-clause-refused c =
    λ other. fault_of_first (line_faults c.args.rules.now c.args.table.now c.args.claim.now) (number_faults c.args.rules.now c.args.table.now c.args.claim.now) c.in-Err.fault (c.in-Err.ensures.refused other)
