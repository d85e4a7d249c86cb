use Rattle.std.proofs.Common.{FitsSigned, rules, sym, subst, arith}
use Rattle.std.specs.Int.{w64}
use Rattle.std.specs.List.{AllByRecursion}
use Rattle.std.proofs.lemmas.List.Elements.{recursion_from_All}
use Rattle.order_window.specs.declared.line.Line.{Line}
use Rattle.order_window.specs.Lines.{AreComparable, IsOrdered, IsPut, time_line}
use Rattle.order_window.specs.Orders.{rates_of}
use Rattle.order_window.specs.Window.{AreApart}
use Rattle.order_window.proofs.Counts.{same_length}
use Rattle.order_window.proofs.Keeping.{all_comparable_times, all_differ, all_near, few_put, max_comparable, min_comparable, sorted_put}
use Rattle.order_window.proofs.Places.{added, put_length}
use Rattle.order_window.proofs.orders.add.Goals as goal

pub put-requires-clause-ordered : goal.put-requires-clause-ordered
put-requires-clause-ordered c =
    let P : Line → Type 0 = λ line. IsOrdered line c.args.orders.now.by_time.items in
    subst P (sym c.ticks_line.ensures) c.requires.sorted.sorted.time

pub put-requires-clause-comparable : goal.put-requires-clause-comparable
put-requires-clause-comparable c =
    let fits : FitsSigned w64 c.args.key.ticks = search rules in
    let P : Line → Type 0 = λ line. AllByRecursion (λ other. AreComparable line other c.args.key) c.args.orders.now.by_time.items in
    subst P (sym c.ticks_line.ensures) (all_comparable_times c.args.key c.args.orders.now.by_time.items fits c.requires.sorted.sorted.keys.ticks)

pub put-requires-2-clause-room : goal.put-requires-2-clause-room
put-requires-2-clause-room c =
    let o = c.args.orders.now in
    omega (arith, same_length o.by_time.items o.by_max.items c.requires.sorted.sorted.max.same, c.requires.room, c.requires.sorted.room.max)

pub put-requires-3-clause-room : goal.put-requires-3-clause-room
put-requires-3-clause-room c =
    let o = c.args.orders.now in
    omega (arith, same_length o.by_time.items o.by_min.items c.requires.sorted.sorted.min.same, c.requires.room, c.requires.sorted.room.min)

pub put-requires-2-clause-ordered : goal.put-requires-2-clause-ordered
put-requires-2-clause-ordered c =
    let P : Line → Type 0 = λ line. IsOrdered line c.args.orders.now.by_max.items in
    subst P (sym c.rate_line-max_line.ensures) c.requires.sorted.sorted.max.ordered

pub put-requires-2-clause-comparable : goal.put-requires-2-clause-comparable
put-requires-2-clause-comparable c =
    let o = c.args.orders.now in
    let near = all_near o.span c.args.key o.by_time.items (recursion_from_All (AreApart o.span c.args.key) o.by_time.items c.requires.apart) in
    let P : Line → Type 0 = λ line. AllByRecursion (λ other. AreComparable line other c.args.key) o.by_max.items in
    subst P (sym c.rate_line-max_line.ensures) (max_comparable o.by_time.items o.by_max.items o.by_min.items (rates_of o) o.span c.args.key c.requires.sorted.sorted c.requires.size near)

pub put-requires-3-clause-ordered : goal.put-requires-3-clause-ordered
put-requires-3-clause-ordered c =
    let P : Line → Type 0 = λ line. IsOrdered line c.args.orders.now.by_min.items in
    subst P (sym c.rate_line-min_line.ensures) c.requires.sorted.sorted.min.ordered

pub put-requires-3-clause-comparable : goal.put-requires-3-clause-comparable
put-requires-3-clause-comparable c =
    let o = c.args.orders.now in
    let near = all_near o.span c.args.key o.by_time.items (recursion_from_All (AreApart o.span c.args.key) o.by_time.items c.requires.apart) in
    let P : Line → Type 0 = λ line. AllByRecursion (λ other. AreComparable line other c.args.key) o.by_min.items in
    subst P (sym c.rate_line-min_line.ensures) (min_comparable o.by_time.items o.by_max.items o.by_min.items (rates_of o) o.span c.args.key c.requires.sorted.sorted c.requires.size near)

pub returns-clause-sorted : goal.returns-clause-sorted
returns-clause-sorted c =
    let o = c.args.orders.now in
    let fits : FitsSigned w64 c.args.key.ticks = search rules in
    let T : Line → Type 0 = λ line. IsPut line c.args.key o.by_time.items c.put.new.order.items in
    let A : Line → Type 0 = λ line. IsPut line c.args.key o.by_max.items c.put-2.new.order.items in
    let I : Line → Type 0 = λ line. IsPut line c.args.key o.by_min.items c.put-3.new.order.items in
    let time = subst T c.ticks_line.ensures c.put.ensures.put in
    record {
      sorted = sorted_put o.by_time.items o.by_max.items o.by_min.items c.put.new.order.items c.put-2.new.order.items c.put-3.new.order.items (rates_of o) o.span c.args.key c.requires.sorted.sorted c.requires.size fits
          (recursion_from_All (AreApart o.span c.args.key) o.by_time.items c.requires.apart)
          time
          (subst A c.rate_line-max_line.ensures c.put-2.ensures.put)
          (subst I c.rate_line-min_line.ensures c.put-3.ensures.put);
      room = record {
        few = few_put _ _ _ (put_length time_line c.args.key o.by_time.items c.put.new.order.items time) c.requires.room;
        time = omega (arith, c.requires.sorted.room.time, c.put.ensures.room);
        max = omega (arith, c.requires.sorted.room.max, c.put-2.ensures.room);
        min = omega (arith, c.requires.sorted.room.min, c.put-3.ensures.room);
      };
    }

pub returns-clause-added : goal.returns-clause-added
returns-clause-added c =
    let o = c.args.orders.now in
    let T : Line → Type 0 = λ line. IsPut line c.args.key o.by_time.items c.put.new.order.items in
    added c.args.key o.by_time.items c.put.new.order.items c.requires.sorted.sorted.time
    (all_differ o.span c.args.key o.by_time.items (recursion_from_All (AreApart o.span c.args.key) o.by_time.items c.requires.apart))
    (subst T c.ticks_line.ensures c.put.ensures.put)
