use Rattle.std.proofs.Common.{◌≡◌, ◌+◌, true, false, sym, ◌∙◌, arith}
use Rattle.series_rows.specs.Search.{is_candidate}
use Rattle.series_rows.proofs.ByName.{next_misses, next_hits, none_after_last}
use Rattle.series_rows.proofs.column.next_named.Goals as goal

pub loop-i-preserved : goal.loop-i-preserved
loop-i-preserved c =
    let missed : is_candidate c.args.except c.args.name.now c.args.fields.now (c.loop-i.i + 1) ≡ false = cc in
    sym (next_misses c.args.except c.args.name.now c.args.fields.now c.loop-i.i (c.loop-i.i + 1) (omega (arith, c.width-i-end.ensures)) (omega arith) missed) ∙ c.loop-i.invariant

pub returns-then-is_candidate-clause-next : goal.returns-then-is_candidate-clause-next
returns-then-is_candidate-clause-next c =
    let found : is_candidate c.args.except c.args.name.now c.args.fields.now (c.loop-i.i + 1) ≡ true = cc in
    sym c.loop-i.invariant ∙ next_hits c.args.except c.args.name.now c.args.fields.now c.loop-i.i (c.loop-i.i + 1) (omega (arith, c.width-i-end.ensures)) (omega arith) found

pub returns-clause-next : goal.returns-clause-next
returns-clause-next c = sym c.loop-i.invariant ∙ none_after_last c.args.except c.args.name.now c.args.fields.now c.loop-i.i (omega (arith, c.width-i-end.ensures))
