use Rattle.series_csv.proofs.Beginning.{nothing_reads}
use Rattle.series_rows.specs.declared.limits.Limits.TheVariants.{Whole}
use Rattle.series_csv.proofs.whole.TableReader.new.Goals as goal

pub returns : goal.returns
returns c = record {
  stands = c.new.ensures.stands;
  reads = nothing_reads c.args.rules.now Whole c.new-2.result.rows c.new-2.ensures.rows;
  indexed = c.new-2.ensures.indexed;
}
