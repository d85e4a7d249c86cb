use Rattle.series_csv.specs.File.{cut_fault, end_fault}
use Rattle.series_rows.specs.declared.limits.Limits.TheVariants.{Whole}
use Rattle.series_csv.proofs.OneRead.{one_read, one_table}
use Rattle.series_csv.proofs.Feeding.{cut_of}
use Rattle.series_csv.proofs.Finishing.{end_of}
use Rattle.series_csv.proofs.laws.one_answer.Goals as goal

pub returns : goal.returns
returns c = λ rules limits bytes.
    let headers = c.one_header.ensures in
    let rows = c.one_row.ensures in
    let cut = cut_of rules bytes in
    let over = end_of rules bytes in
    record {
      so_far = one_read headers rows rules limits cut.records (cut_fault cut.records cut.fault);
      ended = one_read headers rows rules limits over.records (end_fault over.records over.fault);
      table = one_table rules bytes (one_read headers rows rules Whole over.records (end_fault over.records over.fault));
    }
