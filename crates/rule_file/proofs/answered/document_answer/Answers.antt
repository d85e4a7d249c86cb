use Rattle.std.proofs.Common.{◌≡◌, None, Some, ap, sym, ◌∙◌, rules}
use Rattle.toml.specs.Data.{get_member}
use Rattle.toml.specs.View.{view, table_view}
use Rattle.toml.proofs.Views.{table_get}
use Rattle.rule_keys.specs.declared.key.TableKind.TheVariants.{Format}
use Rattle.rule_keys.specs.Table.{HasOnly}
use Rattle.rule_file.specs.Document.{kind_text, table_texts}
use Rattle.rule_file.proofs.AnAnswer.{unknown_key, no_format, no_table, a_table}
use Rattle.rule_file.proofs.answered.document_answer.Goals as goal

pub returns-then-not-has_known_keys : goal.returns-then-not-has_known_keys
returns-then-not-has_known_keys c =
    let unknown : ¬ HasOnly table_texts (table_view c.args.file.now) = search rules in
    unknown_key (table_view c.args.file.now) unknown

pub returns-in_default : goal.returns-in_default
returns-in_default c =
    let known : HasOnly table_texts (table_view c.args.file.now) = search rules in
    let found =
    table_get c.get.result c.key_of.result.now c.args.file.now.entries c.get.ensures.value
    ∙ ap (λ key. get_member key (table_view c.args.file.now)) c.key_of.ensures in
    let none : get_member (kind_text Format) (table_view c.args.file.now) ≡ None = sym (rw c.in_default.is at found) in
    no_format (table_view c.args.file.now) known none

pub returns-in-Some-as_table : goal.returns-in-Some-as_table
returns-in-Some-as_table c =
    let known : HasOnly table_texts (table_view c.args.file.now) = search rules in
    let found =
    table_get c.get.result c.key_of.result.now c.args.file.now.entries c.get.ensures.value
    ∙ ap (λ key. get_member key (table_view c.args.file.now)) c.key_of.ensures in
    let there : get_member (kind_text Format) (table_view c.args.file.now) ≡ Some (view c.in-Some.value.now) = sym (rw c.in-Some.is at found) in
    a_table (table_view c.args.file.now) (view c.in-Some.value.now) (table_view c.in-Some-as_table.format.now) known there (sym c.in-Some-as_table.ensures) c.format_answer.ensures

pub returns-in-None : goal.returns-in-None
returns-in-None c =
    let known : HasOnly table_texts (table_view c.args.file.now) = search rules in
    let found =
    table_get c.get.result c.key_of.result.now c.args.file.now.entries c.get.ensures.value
    ∙ ap (λ key. get_member key (table_view c.args.file.now)) c.key_of.ensures in
    let there : get_member (kind_text Format) (table_view c.args.file.now) ≡ Some (view c.in-Some.value.now) = sym (rw c.in-Some.is at found) in
    no_table (table_view c.args.file.now) (view c.in-Some.value.now) known there (sym c.in-None.ensures)
