use Rattle.std.proofs.Common.{sym, subst, arith}
use Rattle.std.specs.List.{AllByRecursion}
use Rattle.order_window.specs.declared.line.Line.{Line}
use Rattle.order_window.specs.Lines.{AreComparable}
use Rattle.order_window.specs.Orders.{rates_of}
use Rattle.order_window.proofs.Keeping.{sorted_taken, taken_max, taken_min, taken_of_added, taken_there}
use Rattle.order_window.proofs.Places.{taken_length}
use Rattle.order_window.proofs.orders.remove.Goals as goal

pub take-requires-clause-there : goal.take-requires-clause-there
take-requires-clause-there c =
    let o = c.args.orders.now in
    taken_there c.in_ok-key.key o.by_time.items o.by_max.items c.take_at.new.by_time.items c.requires.sorted.max.same c.in_ok-key.ensures.taken

pub take-requires-clause-comparable : goal.take-requires-clause-comparable
take-requires-clause-comparable c =
    let o = c.args.orders.now in
    let P : Line → Type 0 = λ line. AllByRecursion (λ other. AreComparable line other c.in_ok-key.key) o.by_max.items in
    subst P (sym c.rate_line-max_line.ensures) (taken_max o.by_time.items o.by_max.items o.by_min.items c.take_at.new.by_time.items (rates_of o) o.span c.in_ok-key.key c.requires.sorted c.in_ok-key.ensures.taken)

pub take-requires-2-clause-there : goal.take-requires-2-clause-there
take-requires-2-clause-there c =
    let o = c.args.orders.now in
    taken_there c.in_ok-key.key o.by_time.items o.by_min.items c.take_at.new.by_time.items c.requires.sorted.min.same c.in_ok-key.ensures.taken

pub take-requires-2-clause-comparable : goal.take-requires-2-clause-comparable
take-requires-2-clause-comparable c =
    let o = c.args.orders.now in
    let P : Line → Type 0 = λ line. AllByRecursion (λ other. AreComparable line other c.in_ok-key.key) o.by_min.items in
    subst P (sym c.rate_line-min_line.ensures) (taken_min o.by_time.items o.by_max.items o.by_min.items c.take_at.new.by_time.items (rates_of o) o.span c.in_ok-key.key c.requires.sorted c.in_ok-key.ensures.taken)

pub returns-clause-sorted : goal.returns-clause-sorted
returns-clause-sorted c =
    let o = c.args.orders.now in
    let new = c.take_at.new.by_time.items in
    let taken = taken_of_added c.in_ok-key.key o.by_time.items new c.in_ok-key.ensures.taken in
    record {
      sorted = sorted_taken o.by_time.items o.by_max.items o.by_min.items new c.take.new.order.items c.take-2.new.order.items (rates_of o) o.span c.in_ok-key.key c.requires.sorted taken c.take.ensures.taken c.take-2.ensures.taken;
      room = record {
        few = omega (arith, taken_length c.in_ok-key.key o.by_time.items new taken, c.requires.room.few);
        time = omega (arith, c.requires.room.time, c.in_ok-key.ensures.room);
        max = omega (arith, c.requires.room.max, c.take.ensures.room);
        min = omega (arith, c.requires.room.min, c.take-2.ensures.room);
      };
    }
