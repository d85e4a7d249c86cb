use Rattle.std.proofs.Common.{map, Some, ap, ◌∙◌, arith}
use Rattle.std.proofs.lemmas.Result.{err_from_is_err_and}
use Rattle.toml.specs.Data.{get_member}
use Rattle.toml.specs.View.{table_view}
use Rattle.toml.proofs.Views.{table_get}
use Rattle.rule_file.specs.Document.{rule_kinds, rule_tables, joined}
use Rattle.rule_file.specs.Tables.{seen}
use Rattle.rule_file.proofs.Steps.{joined_empty, kind_step, kind_stop}
use Rattle.rule_file.proofs.tables.rule_tables.Goals as goal

pub loop-kind-init : goal.loop-kind-init
loop-kind-init c =
    ap (λ items. joined (Some (map seen items)) (rule_tables rule_kinds (table_view c.args.file.now))) c.new-tables.ensures.items
    ∙ joined_empty (rule_tables rule_kinds (table_view c.args.file.now))

pub returns-in_err-push_tables-clause-none : goal.returns-in_err-push_tables-clause-none
returns-in_err-push_tables-clause-none c =
    let p = err_from_is_err_and c.from_residual.result c.from_residual.ensures.1 in
    rw (p.1, p.2)
    (λ other. kind_stop rule_kinds c.loop-kind.kind-index (table_view c.args.file.now) _ _ _ (omega arith)
    (table_get c.get.result c.key_of.result.now c.args.file.now.entries c.get.ensures.value ∙ ap (λ k. get_member k (table_view c.args.file.now)) c.key_of.ensures)
    c.loop-kind.invariant (c.in_err-push_tables.ensures.none other))

pub loop-kind-preserved : goal.loop-kind-preserved
loop-kind-preserved c =
    kind_step rule_kinds c.loop-kind.kind-index (table_view c.args.file.now) _ _ _ _ (omega arith)
    (table_get c.get.result c.key_of.result.now c.args.file.now.entries c.get.ensures.value ∙ ap (λ k. get_member k (table_view c.args.file.now)) c.key_of.ensures)
    c.loop-kind.invariant c.in_ok-push_tables.ensures.found
