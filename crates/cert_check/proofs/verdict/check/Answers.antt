use Rattle.std.proofs.Common.{◌≤◌, ℕ, List, length, subst, Err}
use Rattle.cert_format.specs.declared.limits.TheConstants.{LONGEST}
use Rattle.cert_check.specs.declared.fault.CertFault.TheVariants.{FileTooLong}
use Rattle.cert_check.proofs.Judging.{if_accepted, if_refused, of_cert, of_fault, too_long}
use Rattle.cert_check.proofs.verdict.check.Goals as goal

pub returns-then-bytes-gt-LONGEST-clause-refused : goal.returns-then-bytes-gt-LONGEST-clause-refused
returns-then-bytes-gt-LONGEST-clause-refused c =
    if_refused c.args.rules.now c.args.table.now c.args.bytes.now (Err FileTooLong) (too_long c.args.rules.now c.args.table.now c.args.bytes.now c.if-bytes-gt-LONGEST.true)

pub returns-then-bytes-gt-LONGEST-clause-only : goal.returns-then-bytes-gt-LONGEST-clause-only
returns-then-bytes-gt-LONGEST-clause-only c =
    λ answer judged other. c.one_answer.ensures c.args.rules.now c.args.table.now c.args.bytes.now (Err FileTooLong) answer (too_long c.args.rules.now c.args.table.now c.args.bytes.now c.if-bytes-gt-LONGEST.true other) judged

pub read_cert-requires : goal.read_cert-requires
read_cert-requires c = c.if-bytes-gt-LONGEST.false

pub judge-requires-clause-made : goal.judge-requires-clause-made
judge-requires-clause-made c = c.requires.made

pub judge-requires-clause-few : goal.judge-requires-clause-few
judge-requires-clause-few c = c.requires.few

pub judge-requires-clause-text : goal.judge-requires-clause-text
judge-requires-clause-text c = c.in-Ok.ensures.accepted.has

pub judge-requires-clause-short : goal.judge-requires-clause-short
judge-requires-clause-short c = subst (λ (bytes : List ℕ). length bytes ≤ LONGEST) c.in-Ok.ensures.accepted.text c.if-bytes-gt-LONGEST.false

pub returns-in-Ok-clause-accepted : goal.returns-in-Ok-clause-accepted
returns-in-Ok-clause-accepted c =
    if_accepted c.args.rules.now c.args.table.now c.args.bytes.now c.judge.result (of_cert c.args.rules.now c.args.table.now c.args.bytes.now c.in-Ok.cert c.judge.result c.if-bytes-gt-LONGEST.false c.in-Ok.ensures.accepted c.judge.ensures)

pub returns-in-Ok-clause-refused : goal.returns-in-Ok-clause-refused
returns-in-Ok-clause-refused c =
    if_refused c.args.rules.now c.args.table.now c.args.bytes.now c.judge.result (of_cert c.args.rules.now c.args.table.now c.args.bytes.now c.in-Ok.cert c.judge.result c.if-bytes-gt-LONGEST.false c.in-Ok.ensures.accepted c.judge.ensures)

pub returns-in-Ok-clause-only : goal.returns-in-Ok-clause-only
returns-in-Ok-clause-only c =
    λ answer judged other. c.one_answer.ensures c.args.rules.now c.args.table.now c.args.bytes.now c.judge.result answer
    (of_cert c.args.rules.now c.args.table.now c.args.bytes.now c.in-Ok.cert c.judge.result c.if-bytes-gt-LONGEST.false c.in-Ok.ensures.accepted c.judge.ensures other) judged

pub returns-in-Err-clause-refused : goal.returns-in-Err-clause-refused
returns-in-Err-clause-refused c =
    if_refused c.args.rules.now c.args.table.now c.args.bytes.now (Err c.fault_of_read.result) (of_fault c.args.rules.now c.args.table.now c.args.bytes.now c.in-Err.fault c.fault_of_read.result c.if-bytes-gt-LONGEST.false c.fault_of_read.ensures c.in-Err.ensures.refused)

pub returns-in-Err-clause-only : goal.returns-in-Err-clause-only
returns-in-Err-clause-only c =
    λ answer judged other. c.one_answer.ensures c.args.rules.now c.args.table.now c.args.bytes.now (Err c.fault_of_read.result) answer
    (of_fault c.args.rules.now c.args.table.now c.args.bytes.now c.in-Err.fault c.fault_of_read.result c.if-bytes-gt-LONGEST.false c.fault_of_read.ensures c.in-Err.ensures.refused other) judged
