use Rattle.toml.specs.View.{table_view}
use Rattle.rule_file.proofs.AnAnswer.{accepted_format, refused_format}
use Rattle.rule_file.proofs.answered.format_answer.Goals as goal

pub returns-in-Ok : goal.returns-in-Ok
returns-in-Ok c =
    accepted_format (table_view c.args.file.now) (table_view c.args.format.now) c.in-Ok.entries c.in-Ok.ensures.accepted c.in-Ok.ensures.fit
    (rw c.scale_in.ensures.same at c.tables_answer.ensures)

pub returns-in-Err : goal.returns-in-Err
returns-in-Err c = refused_format (table_view c.args.file.now) (table_view c.args.format.now) c.in-Err.field-0 c.in-Err.ensures.refused
