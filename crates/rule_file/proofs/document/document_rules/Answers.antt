use Rattle.std.proofs.Common.{◌≡◌, None, Some, Err, ap, sym, ◌∙◌, rules}
use Rattle.toml.specs.Data.{get_member}
use Rattle.toml.specs.View.{view, table_view}
use Rattle.toml.proofs.Views.{table_get}
use Rattle.rule_keys.specs.declared.key.TableKind.TheVariants.{Format}
use Rattle.rule_keys.specs.Table.{HasOnly}
use Rattle.rule_file.specs.Document.{kind_text, table_texts}
use Rattle.rule_file.proofs.Whole.{no_format, no_table, a_table}
use Rattle.rule_file.proofs.document.document_rules.Goals as goal

pub returns-in_default : goal.returns-in_default
returns-in_default c =
    let known : HasOnly table_texts (table_view c.args.file.now) = search rules in
    let found =
    table_get c.get.result c.key_of.result.now c.args.file.now.entries c.get.ensures.value
    ∙ ap (λ key. get_member key (table_view c.args.file.now)) c.key_of.ensures in
    let none : get_member (kind_text Format) (table_view c.args.file.now) ≡ None = sym (rw c.in_default.is at found) in
    λ other. no_format (table_view c.args.file.now) _ known none (ap Err c.of_the_file-in_default.ensures)

pub returns-in-Some-as_table : goal.returns-in-Some-as_table
returns-in-Some-as_table c =
    let known : HasOnly table_texts (table_view c.args.file.now) = search rules in
    let found =
    table_get c.get.result c.key_of.result.now c.args.file.now.entries c.get.ensures.value
    ∙ ap (λ key. get_member key (table_view c.args.file.now)) c.key_of.ensures in
    let there : get_member (kind_text Format) (table_view c.args.file.now) ≡ Some (view c.in-Some.value.now) = sym (rw c.in-Some.is at found) in
    a_table (table_view c.args.file.now) (view c.in-Some.value.now) (table_view c.in-Some-as_table.format.now) _ known there (sym c.in-Some-as_table.ensures) c.formatted_rules.ensures

pub returns-in-None : goal.returns-in-None
returns-in-None c =
    let known : HasOnly table_texts (table_view c.args.file.now) = search rules in
    let found =
    table_get c.get.result c.key_of.result.now c.args.file.now.entries c.get.ensures.value
    ∙ ap (λ key. get_member key (table_view c.args.file.now)) c.key_of.ensures in
    let there : get_member (kind_text Format) (table_view c.args.file.now) ≡ Some (view c.in-Some.value.now) = sym (rw c.in-Some.is at found) in
    λ other. no_table (table_view c.args.file.now) (view c.in-Some.value.now) _ known there (sym c.in-None.ensures) (ap Err c.of_the_file-in-None.ensures)
