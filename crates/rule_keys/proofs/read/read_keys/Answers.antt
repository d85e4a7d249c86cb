use Rattle.std.proofs.Common.{◌+◌, ap, map, ◌∙◌}
use Rattle.std.proofs.lemmas.Result.{err_from_is_err_and}
use Rattle.toml.specs.View.{table_view}
use Rattle.rule_keys.specs.Seen.{seen}
use Rattle.rule_keys.proofs.KeyByKey.{pushed, refused_at, all_read}
use Rattle.rule_keys.proofs.read.read_keys.Goals as goal

pub returns-in_err-entry : goal.returns-in_err-entry
returns-in_err-entry c =
    let p = err_from_is_err_and c.from_residual.result c.from_residual.ensures.1 in
    rw (p.1, p.2)
    (refused_at c.args.scale (table_view c.args.table.now) c.args.keys.now c.loop-key.key-index (map seen c.loop-key.found.items) c.in_err-entry.field-0.0 c.loop-key-test.true c.loop-key.invariant.1 c.in_err-entry.ensures)

pub loop-key-preserved : goal.loop-key-preserved
loop-key-preserved c = (
  c.push.ensures.len ∙ ap (λ n. n + 1) c.loop-key.invariant.0,
  pushed c.args.scale (table_view c.args.table.now) c.args.keys.now c.loop-key.key-index c.loop-key.found.items c.push.new.self.items c.in_ok-entry.entry c.loop-key-test.true c.loop-key.invariant.1 c.in_ok-entry.ensures c.push.ensures.items,
)

pub returns : goal.returns
returns c =
    all_read c.args.scale (table_view c.args.table.now) c.args.keys.now c.loop-key.key-index (map seen c.loop-key.found.items) c.loop-key-test.false c.loop-key.invariant.1
