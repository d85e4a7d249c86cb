use Rattle.std.proofs.Common.{Option, Some, None, IfNone}
use Rattle.cert_format.specs.Fields.{no_line}
use Rattle.cert_format.proofs.read.line_at.Goals as goal

if_none : {A : Type 0} (P : Type 0) (found : Option A) → P → IfNone found P
if_none P None p = p
if_none P (Some x) p = tt

pub returns-in_err-line_of-clause-none : goal.returns-in_err-line_of-clause-none
returns-in_err-line_of-clause-none c =
    if_none _ _ (
    no_line c.in_ok-line.line.now c.in_ok-line.rest.now c.in_ok-line.ensures.found.0 c.in_ok-line.ensures.found.1 (λ line is e. absurd (c.in_err-line_of.ensures.only line is e))
    )
