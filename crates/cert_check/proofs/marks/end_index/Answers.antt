use Rattle.std.proofs.Common.{Some, ap, sym, ◌∙◌}
use Rattle.series_csv.specs.Readings.{places}
use Rattle.cert_check.proofs.Marked.{end_index}
use Rattle.cert_check.proofs.marks.end_index.Goals as goal

pub returns-in-Some : goal.returns-in-Some
returns-in-Some c = end_index (places c.args.table.now) c.in-Some.i c.in-At.place c.in-Some.ensures ∙ ap Some (sym c.in-At.is)
