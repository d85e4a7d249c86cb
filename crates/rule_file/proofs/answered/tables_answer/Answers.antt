use Rattle.std.proofs.Common.{ap, ◌∙◌, arith}
use Rattle.toml.specs.Data.{get_member}
use Rattle.toml.specs.View.{table_view}
use Rattle.toml.proofs.Views.{table_get}
use Rattle.rule_file.specs.Document.{rule_kinds}
use Rattle.rule_file.proofs.AnAnswer.{have_kind}
use Rattle.rule_file.proofs.answered.tables_answer.Goals as goal

pub loop-kind-preserved : goal.loop-kind-preserved
loop-kind-preserved c =
    λ rest.
    c.loop-kind.invariant
    (have_kind c.args.scale rule_kinds c.loop-kind.kind-index (table_view c.args.file.now) _ (omega arith)
    (table_get c.get.result c.key_of.result.now c.args.file.now.entries c.get.ensures.value ∙ ap (λ k. get_member k (table_view c.args.file.now)) c.key_of.ensures)
    c.kind_answer.ensures rest)
