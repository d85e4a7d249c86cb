use Rattle.std.proofs.Common.{ℤ, length, sym, ap, subst, arith}
use Rattle.std.specs.Int.{w64}
use Rattle.std.proofs.lemmas.Int.{to_z-of_z}
use Rattle.fix_point.specs.RateLimits.{RateLimits}
use Rattle.order_window.specs.Orders.{AreSorted}
use Rattle.order_window.proofs.Keeping.{sorted_empty}
use Rattle.order_window.proofs.orders.no_keys.Goals as goal

pub returns-clause-sorted : goal.returns-clause-sorted
returns-clause-sorted c =
    let rates : RateLimits = record { min = c.args.min; max = c.args.max; decimals = c.args.decimals } in
    let S : ℤ → Type 0 = λ span. AreSorted c.in_ok-by_time.by_time.items c.in_ok-by_max.by_max.items c.in_ok-by_min.by_min.items rates span in
    record {
      sorted = subst S (sym (to_z-of_z w64 c.args.span c.ranges.span))
          (sorted_empty c.in_ok-by_time.by_time.items c.in_ok-by_max.by_max.items c.in_ok-by_min.by_min.items rates c.args.span c.requires
          c.in_ok-by_time.ensures.items c.in_ok-by_max.ensures.items c.in_ok-by_min.ensures.items);
      room = record {
        few = omega (arith, ap length c.in_ok-by_time.ensures.items);
        time = omega (arith, c.in_ok-by_time.ensures.capacity);
        max = omega (arith, c.in_ok-by_max.ensures.capacity);
        min = omega (arith, c.in_ok-by_min.ensures.capacity);
      };
    }
