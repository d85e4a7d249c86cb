use Rattle.std.proofs.Common.{◌≤◌, length, inr, arith}
use Rattle.words.proofs.Answers.{only_if}
use Rattle.series_rows.specs.Faults.{of_memory}
use Rattle.series_rows.specs.declared.limits.Limits.TheVariants.{Whole}
use Rattle.series_csv.specs.File.{ReadsTable}
use Rattle.series_csv.specs.declared.table.TheConstants.{LONGEST}
use Rattle.series_csv.proofs.whole.read_table.Goals as goal

pub returns-clause-only : goal.returns-clause-only
returns-clause-only c = λ answer reads.
    let rules = c.args.rules.now in
    let bytes = c.args.bytes.now in
    let fits : length bytes ≤ LONGEST = omega arith in
    only_if of_memory (ReadsTable rules bytes) (c.one_answer.ensures rules Whole bytes).table c.read_short.result answer (λ other. inr (fits, c.read_short.ensures other)) reads
