use Rattle.std.proofs.Common.{sym, subst}
use Rattle.std.specs.Prelude.{All}
use Rattle.std.proofs.lemmas.List.Elements.{recursion_from_All}
use Rattle.order_window.specs.Window.{IsAfter, Window}
use Rattle.order_window.proofs.window.OrderWindow.median.Goals as goal

pub median_of-requires : goal.median_of-requires
median_of-requires c =
    let o = c.self.inside.orders in
    let P : Window → Type 0 = λ window. All (IsAfter window.span c.args.own) window.keys in
    record {
      kept = c.self.invariant;
      after = recursion_from_All (IsAfter o.span c.args.own) o.by_time.items (subst P (sym c.self.view_is) c.requires);
    }
