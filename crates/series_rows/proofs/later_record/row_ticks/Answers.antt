use Rattle.std.proofs.Common.{◌≡◌, subst, arith, to_z, of_z, w64}
use Rattle.std.specs.Bool.{MatchBool}
use Rattle.std.proofs.lemmas.Bool.Decides.{when_false}
use Rattle.std.proofs.lemmas.Int.{ints}
use Rattle.series_rows.specs.ReadsRow.{IsLater, IsNotLater}
use Rattle.series_rows.specs.declared.fault.TableCause.TheVariants.{Time, TimeNotRising}
use Rattle.series_rows.proofs.RowAnswers.{time_fault}
use Rattle.series_rows.proofs.later_record.row_ticks.Goals as goal

pub returns-in-Err-clause-refused : goal.returns-in-Err-clause-refused
returns-in-Err-clause-refused c = λ _.
    time_fault c.args.rules.now c.args.before _ c.args.col c.args.field.now (Time c.in-Err.fault) c.at.result c.at.ensures (omega (arith, c.rows-number.ensures.rows)) c.in-Err.ensures.refused

pub returns-else-is_later-clause-refused : goal.returns-else-is_later-clause-refused
returns-else-is_later-clause-refused c = λ _.
    let same : to_z w64 (of_z w64 c.in-Ok.ticks) ≡ c.in-Ok.ticks = omega (arith, ints, c.in-Ok.ensures.small) in
    let either = subst (λ t. MatchBool c.is_later.result (IsLater c.ticks-2.result t) (IsNotLater c.ticks-2.result t)) same c.is_later.ensures in
    let not_later = when_false (IsLater c.ticks-2.result c.in-Ok.ticks) (IsNotLater c.ticks-2.result c.in-Ok.ticks) c.if-is_later.false either in
    time_fault c.args.rules.now c.args.before _ c.args.col c.args.field.now TimeNotRising c.at-else-is_later.result c.at-else-is_later.ensures (omega (arith, c.rows-number.ensures.rows))
    (c.in-Ok.ticks, c.in-Ok.ensures.accepted, subst (λ last. IsNotLater last c.in-Ok.ticks) c.ticks-2.ensures not_later)
