use Rattle.std.proofs.Common.{Ok, refl, ap, ◌∙◌}
use Rattle.std.proofs.lemmas.Result.{err_from_is_err_and}
use Rattle.series_rows.specs.declared.limits.Limits.TheVariants.{Whole}
use Rattle.series_csv.proofs.WholeTables.{fed_none, fed_event, fed_refused, event_within}
use Rattle.series_csv.proofs.whole.TableReader.feed.Goals as goal

pub returns-in_err-taken-clause-fed : goal.returns-in_err-taken-clause-fed
returns-in_err-taken-clause-fed c = λ rules bytes reading.
    let given = err_from_is_err_and c.from_residual.result c.from_residual.ensures.1 in
    rw (given.1, given.2)
    (λ other. fed_refused c.read_stays.ensures c.args.self.now c.feed_slice-taken.new.self rules bytes c.args.rest.now c.feed_slice-taken.result.count c.feed_slice-taken.result.answer c.in_err-taken.field-0.0 c.in_err-taken.was reading (c.feed_slice-taken.ensures.feeds rules Whole bytes reading.stands) other)

pub add-requires-clause-within : goal.add-requires-clause-within
add-requires-clause-within c =
    let reading = c.requires.2 in
    event_within c.args.self.now c.feed_slice-taken.new.self c.requires.0 c.requires.1 c.args.rest.now c.feed_slice-taken.result.count c.feed_slice-taken.result.answer c.in-Some.event (c.in_ok-taken.was ∙ ap Ok c.in-Some.is) reading (c.feed_slice-taken.ensures.feeds c.requires.0 Whole c.requires.1 reading.stands)

pub returns-in-None-clause-fed : goal.returns-in-None-clause-fed
returns-in-None-clause-fed c = λ rules bytes reading.
    fed_none c.args.self.now _ rules bytes c.args.rest.now c.feed_slice-taken.result.count c.feed_slice-taken.result.answer (c.in_ok-taken.was ∙ ap Ok c.in-None.is) reading (c.feed_slice-taken.ensures.feeds rules Whole bytes reading.stands) refl

pub returns-in_ok-add-in-Some-clause-fed : goal.returns-in_ok-add-in-Some-clause-fed
returns-in_ok-add-in-Some-clause-fed c = λ rules bytes reading.
    fed_event c.args.self.now _ rules bytes c.args.rest.now c.feed_slice-taken.result.count c.feed_slice-taken.result.answer c.in-Some.event (c.in_ok-taken.was ∙ ap Ok c.in-Some.is) reading (c.feed_slice-taken.ensures.feeds rules Whole bytes reading.stands) c.in_ok-add-in-Some.ensures.added c.in_ok-add-in-Some.ensures.indexed
