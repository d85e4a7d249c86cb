use Rattle.std.proofs.Common.{Ok, refl, ap, ◌∙◌}
use Rattle.std.proofs.lemmas.Result.{err_from_is_err_and}
use Rattle.online_repair.proofs.Own.{can_read, ok_is, own_event, own_may, own_none, own_refused, own_stops}
use Rattle.online_repair.proofs.stream.Stream.feed_some.Goals as goal

pub feed_slice-taken-requires : goal.feed_slice-taken-requires
feed_slice-taken-requires c = can_read c.args.self.now c.requires

pub returns-in_err-taken-clause-fed : goal.returns-in_err-taken-clause-fed
returns-in_err-taken-clause-fed c =
    let given = err_from_is_err_and c.from_residual.result c.from_residual.ensures.1 in
    rw given.1
    (own_refused c.one_answer.ensures c.read_stays.ensures c.args.self.now c.feed_slice-taken.new.self c.args.self.now c.args.rest.now c.feed_slice-taken.result.count c.feed_slice-taken.result.answer c.in_err-taken.field-0.0 given.0 c.args.out.now.items
    c.in_err-taken.was given.2 c.feed_slice-taken.ensures.feeds)

pub returns-in_err-taken-clause-within : goal.returns-in_err-taken-clause-within
returns-in_err-taken-clause-within c =
    let given = err_from_is_err_and c.from_residual.result c.from_residual.ensures.1 in
    rw given.1 tt

pub returns-in_err-taken-clause-some : goal.returns-in_err-taken-clause-some
returns-in_err-taken-clause-some c =
    let given = err_from_is_err_and c.from_residual.result c.from_residual.ensures.1 in
    rw given.1 (λ some. tt)

pub take-requires : goal.take-requires
take-requires c =
    own_may c.args.self.now c.feed_slice-taken.new.self _ c.feed_slice-taken.result.answer c.in-Some.event (c.in_ok-taken.was ∙ ap Ok c.in-Some.is) c.feed_slice-taken.ensures.feeds c.requires

pub returns-in-None-clause-fed : goal.returns-in-None-clause-fed
returns-in-None-clause-fed c =
    own_none c.one_answer.ensures c.args.self.now _ c.args.rest.now c.feed_slice-taken.result.count c.feed_slice-taken.result.answer c.args.out.now.items (c.in_ok-taken.was ∙ ap Ok c.in-None.is) c.feed_slice-taken.ensures.feeds refl refl

pub returns-in-None-clause-within : goal.returns-in-None-clause-within
returns-in-None-clause-within c = c.feed_slice-taken.ensures.within

pub returns-in-None-clause-some : goal.returns-in-None-clause-some
returns-in-None-clause-some c = λ some. c.feed_slice-taken.ensures.some some (ok_is c.feed_slice-taken.result.answer _ c.in_ok-taken.was)

pub returns-in_err-take-in-Some-clause-fed : goal.returns-in_err-take-in-Some-clause-fed
returns-in_err-take-in-Some-clause-fed c =
    let given = err_from_is_err_and c.from_residual-in_err-take-in-Some.result c.from_residual-in_err-take-in-Some.ensures.1 in
    rw (given.1, given.2)
    (own_stops c.one_answer.ensures c.read_stays.ensures c.args.self.now c.feed_slice-taken.new.self c.args.self.now c.args.rest.now c.feed_slice-taken.result.count c.feed_slice-taken.result.answer c.in-Some.event c.in_err-take-in-Some.field-0.0 c.take.new.engine c.args.out.now.items c.take.new.out.items
    (c.in_ok-taken.was ∙ ap Ok c.in-Some.is) c.feed_slice-taken.ensures.feeds c.in_err-take-in-Some.ensures)

pub returns-in_err-take-in-Some-clause-within : goal.returns-in_err-take-in-Some-clause-within
returns-in_err-take-in-Some-clause-within c =
    let given = err_from_is_err_and c.from_residual-in_err-take-in-Some.result c.from_residual-in_err-take-in-Some.ensures.1 in
    rw given.1 tt

pub returns-in_err-take-in-Some-clause-some : goal.returns-in_err-take-in-Some-clause-some
returns-in_err-take-in-Some-clause-some c =
    let given = err_from_is_err_and c.from_residual-in_err-take-in-Some.result c.from_residual-in_err-take-in-Some.ensures.1 in
    rw given.1 (λ some. tt)

pub returns-in_ok-take-in-Some-clause-fed : goal.returns-in_ok-take-in-Some-clause-fed
returns-in_ok-take-in-Some-clause-fed c =
    own_event c.one_answer.ensures c.args.self.now _ c.args.rest.now c.feed_slice-taken.result.count c.feed_slice-taken.result.answer c.in-Some.event c.args.out.now.items c.take.new.out.items
    (c.in_ok-taken.was ∙ ap Ok c.in-Some.is) c.feed_slice-taken.ensures.feeds refl c.in_ok-take-in-Some.ensures

pub returns-in_ok-take-in-Some-clause-within : goal.returns-in_ok-take-in-Some-clause-within
returns-in_ok-take-in-Some-clause-within c = c.feed_slice-taken.ensures.within

pub returns-in_ok-take-in-Some-clause-some : goal.returns-in_ok-take-in-Some-clause-some
returns-in_ok-take-in-Some-clause-some c = λ some. c.feed_slice-taken.ensures.some some (ok_is c.feed_slice-taken.result.answer _ c.in_ok-taken.was)
