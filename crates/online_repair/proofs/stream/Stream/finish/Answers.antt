use Rattle.std.proofs.Common.{refl}
use Rattle.std.proofs.lemmas.Result.{err_from_is_err_and}
use Rattle.online_repair.proofs.Finishing.{closed, has_kept, never_closed}
use Rattle.online_repair.proofs.stream.Stream.finish.Goals as goal

pub read_last-requires : goal.read_last-requires
read_last-requires c = c.requires

pub returns-in_err-read_last : goal.returns-in_err-read_last
returns-in_err-read_last c =
    let given = err_from_is_err_and c.from_residual.result c.from_residual.ensures.1 in
    rw (given.1, given.2) (λ rules bytes goes. (tt, c.in_err-read_last.ensures rules bytes goes))

pub close-requires : goal.close-requires
close-requires c =
    let can = c.requires in
    has_kept can.0 can.1 c.read_last.new.self c.in-Some.engine c.args.out.now.items c.read_last.new.out.items (c.in_ok-read_last.ensures can.0 can.1 can.2) c.in-Some.is

pub returns-in-Some : goal.returns-in-Some
returns-in-Some c = λ rules bytes goes.
    closed c.one_answer.ensures rules bytes c.read_last.new.self _ c.in-Some.engine c.close.new.engine c.close.result c.args.out.now.items c.read_last.new.out.items c.close.new.out.items (c.in_ok-read_last.ensures rules bytes goes) c.in-Some.is refl c.close.ensures

pub returns-in-None : goal.returns-in-None
returns-in-None c = λ rules bytes goes.
    absurd (never_closed rules bytes c.read_last.new.self c.args.out.now.items c.read_last.new.out.items (c.in_ok-read_last.ensures rules bytes goes) c.in-None.is)
