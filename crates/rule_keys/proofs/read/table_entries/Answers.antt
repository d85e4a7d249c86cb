use Rattle.std.proofs.Common.{map}
use Rattle.std.proofs.lemmas.Result.{err_from_is_err_and}
use Rattle.toml.specs.View.{table_view}
use Rattle.rule_keys.specs.Keys.{keys_of}
use Rattle.rule_keys.specs.Seen.{seen}
use Rattle.rule_keys.proofs.Fits.{fit_of_reads, defaults_fit, checks_within}
use Rattle.rule_keys.proofs.Known.{only_from, not_only_from}
use Rattle.rule_keys.proofs.KeyByKey.{unknown_key, refused_key, refused_check, accepted}
use Rattle.rule_keys.proofs.read.table_entries.Goals as goal

pub returns-then-not-has_only-clause-answer : goal.returns-then-not-has_only-clause-answer
returns-then-not-has_only-clause-answer c =
    let unknown = not_only_from c.keys_of-keys.result.now c.args.table.now.entries c.has_only.result c.has_only.ensures c.if-not-has_only.true in
    unknown_key c.args.scale c.args.kind (table_view c.args.table.now) (rw c.keys_of-keys.ensures at unknown)

pub returns-in_err-found-clause-answer : goal.returns-in_err-found-clause-answer
returns-in_err-found-clause-answer c =
    let p = err_from_is_err_and c.from_residual.result c.from_residual.ensures.1 in
    let only = only_from c.keys_of-keys.result.now c.args.table.now.entries c.has_only.result c.has_only.ensures c.if-not-has_only.false in
    rw (p.1, p.2)
    (refused_key c.args.scale c.args.kind (table_view c.args.table.now) c.in_err-found.field-0.0 (rw c.keys_of-keys.ensures at only) (rw c.keys_of-keys.ensures at c.in_err-found.ensures))

pub check_all-requires-clause-within : goal.check_all-requires-clause-within
check_all-requires-clause-within c =
    let reads = rw c.keys_of-keys.ensures at c.in_ok-found.ensures in
    let entries = map seen c.in_ok-found.found.items in
    rw c.checks_of.ensures
    (checks_within c.args.kind entries (fit_of_reads c.args.scale (table_view c.args.table.now) (keys_of c.args.kind) entries (defaults_fit c.args.kind) reads))

pub returns-in-Some-clause-answer : goal.returns-in-Some-clause-answer
returns-in-Some-clause-answer c =
    let only = only_from c.keys_of-keys.result.now c.args.table.now.entries c.has_only.result c.has_only.ensures c.if-not-has_only.false in
    let reads = rw c.keys_of-keys.ensures at c.in_ok-found.ensures in
    refused_check c.args.scale c.args.kind (table_view c.args.table.now) (map seen c.in_ok-found.found.items) c.in-Some.cause (rw c.keys_of-keys.ensures at only) reads (rw c.checks_of.ensures at c.in-Some.ensures)

pub returns-in-None-clause-answer : goal.returns-in-None-clause-answer
returns-in-None-clause-answer c =
    let only = only_from c.keys_of-keys.result.now c.args.table.now.entries c.has_only.result c.has_only.ensures c.if-not-has_only.false in
    let reads = rw c.keys_of-keys.ensures at c.in_ok-found.ensures in
    accepted c.args.scale c.args.kind (table_view c.args.table.now) (map seen c.in_ok-found.found.items) (rw c.keys_of-keys.ensures at only) reads (rw c.checks_of.ensures at c.in-None.ensures)

pub returns-in-None-clause-fit : goal.returns-in-None-clause-fit
returns-in-None-clause-fit c =
    let reads = rw c.keys_of-keys.ensures at c.in_ok-found.ensures in
    let entries = map seen c.in_ok-found.found.items in
    fit_of_reads c.args.scale (table_view c.args.table.now) (keys_of c.args.kind) entries (defaults_fit c.args.kind) reads
