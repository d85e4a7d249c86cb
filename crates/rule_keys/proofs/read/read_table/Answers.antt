use Rattle.toml.specs.View.{table_view}
use Rattle.rule_keys.proofs.read.read_table.Goals as goal

pub returns-clause-only : goal.returns-clause-only
returns-clause-only c =
    λ answer reads. c.one_answer.ensures c.args.scale c.args.kind (table_view c.args.table.now) _ answer c.table_entries.ensures.answer reads
