use Rattle.std.proofs.Common.{[], ◌∷◌, ◌++◌, arith}
use Rattle.std.proofs.lemmas.Result.{err_from_is_err_and}
use Rattle.rule_file.proofs.Steps.{each_step, each_stop, each_end}
use Rattle.rule_file.proofs.each.read_each.Goals as goal

pub returns-in_err-read_rule-clause-refused : goal.returns-in_err-read_rule-clause-refused
returns-in_err-read_rule-clause-refused c =
    let p = err_from_is_err_and c.from_residual.result c.from_residual.ensures.1 in
    rw (p.1, p.2)
    (λ other. each_stop c.args.scale c.loop-place.place c.args.tables.now c.index-tables-place.result _ _ (omega arith) c.index-tables-place.is c.loop-place.invariant.3
    (c.in_err-read_rule.ensures.refused other).0 (c.in_err-read_rule.ensures.refused other).1 (c.in_err-read_rule.ensures.refused other).2)

pub loop-place-preserved : goal.loop-place-preserved
loop-place-preserved c =
    let before = c.loop-place.invariant in
    let added = c.in_ok-read_rule.ensures.added in (
      omega (arith, c.in_ok-read_rule.ensures.count),
      before.1 ++ (c.index-tables-place.result.kind, added.0) ∷ [],
      added.2 before.1 before.2,
      each_step c.args.scale c.loop-place.place c.args.tables.now c.index-tables-place.result before.1 added.0 (omega arith) c.index-tables-place.is before.3 added.1,
    )

pub returns-clause-accepted : goal.returns-clause-accepted
returns-clause-accepted c =
    let before = c.loop-place.invariant in
    (before.1, each_end c.args.scale c.loop-place.place c.args.tables.now before.1 (omega arith) before.3, before.2)
