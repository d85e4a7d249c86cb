use Rattle.std.proofs.Common.{Ok, Err, ap, ◌∙◌}
use Rattle.std.proofs.lemmas.Result.{err_from_is_err_and}
use Rattle.series_rows.specs.declared.limits.Limits.TheVariants.{Whole}
use Rattle.series_csv.proofs.WholeTables.{last_within, ended_none, ended_event, ended_refused, ended_has_header, ended_table}
use Rattle.series_csv.proofs.whole.TableReader.finish.Goals as goal

pub returns-in_err-finish : goal.returns-in_err-finish
returns-in_err-finish c = λ rules bytes reading.
    let given = err_from_is_err_and c.from_residual.result c.from_residual.ensures.1 in
    rw (given.1, given.2)
    (λ some. ended_refused c.args.self rules bytes c.finish.result c.in_err-finish.field-0.0 c.in_err-finish.was reading (c.finish.ensures.ends rules Whole bytes reading.stands) (λ same. some (ap Err same)))

pub into_table-requires-clause-header : goal.into_table-requires-clause-header
into_table-requires-clause-header c =
    let rules = c.requires.0 in
    let bytes = c.requires.1 in
    let reading = c.requires.2 in
    ended_has_header rules bytes c.args.self.draft
    (ended_none c.args.self rules bytes c.finish.result (c.in_ok-finish.was ∙ ap Ok c.in-None.is) reading (c.finish.ensures.ends rules Whole bytes reading.stands))

pub returns-in-None : goal.returns-in-None
returns-in-None c = λ rules bytes reading some.
    ended_table rules bytes c.args.self.draft c.into_table.result
    (ended_none c.args.self rules bytes c.finish.result (c.in_ok-finish.was ∙ ap Ok c.in-None.is) reading (c.finish.ensures.ends rules Whole bytes reading.stands))
    c.into_table.ensures.rows c.into_table.ensures.header

pub add-requires-clause-within : goal.add-requires-clause-within
add-requires-clause-within c =
    let rules = c.requires.0 in
    let bytes = c.requires.1 in
    let reading = c.requires.2 in
    last_within c.args.self rules bytes c.finish.result c.in-Some.event (c.in_ok-finish.was ∙ ap Ok c.in-Some.is) reading (c.finish.ensures.ends rules Whole bytes reading.stands)

pub into_table-requires-in-Some-clause-header : goal.into_table-requires-in-Some-clause-header
into_table-requires-in-Some-clause-header c =
    let rules = c.requires.0 in
    let bytes = c.requires.1 in
    let reading = c.requires.2 in
    ended_has_header rules bytes c.add.new.self
    (ended_event c.args.self c.add.new.self rules bytes c.finish.result c.in-Some.event (c.in_ok-finish.was ∙ ap Ok c.in-Some.is) reading (c.finish.ensures.ends rules Whole bytes reading.stands) c.in_ok-add-in-Some.ensures.added)

pub returns : goal.returns
returns c = λ rules bytes reading some.
    ended_table rules bytes c.add.new.self c.into_table-in-Some.result
    (ended_event c.args.self c.add.new.self rules bytes c.finish.result c.in-Some.event (c.in_ok-finish.was ∙ ap Ok c.in-Some.is) reading (c.finish.ensures.ends rules Whole bytes reading.stands) c.in_ok-add-in-Some.ensures.added)
    c.into_table-in-Some.ensures.rows c.into_table-in-Some.ensures.header
