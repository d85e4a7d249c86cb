use Rattle.std.proofs.Common.{ℤ, FitsSigned, rules, ◌-ℤ◌, ◌<ℤ◌, subst, arith}
use Rattle.std.specs.Prelude.{unsigned_abs}
use Rattle.std.specs.Int.{w64}
use Rattle.std.proofs.lemmas.Int.{ints, to_z-of_z}
use Rattle.words.proofs.Products.{within_size}
use Rattle.order_window.specs.declared.key.Key.{Key}
use Rattle.order_window.specs.Window.{AreApart, IsAfter}
use Rattle.order_window.proofs.Heights.{read_less}
use Rattle.cases_streams.proofs.windows.is_after.Goals as goal

after_of : (span : ℤ) (own key : Key) → own.ticks <ℤ key.ticks → AreApart span key own → IsAfter span own key
after_of span own key less apart =
    let size = within_size (key.ticks -ℤ own.ticks) (unsigned_abs (key.ticks -ℤ own.ticks)) (omega arith) in
    record {
      least = omega (arith, ints, less);
      most = omega (arith, ints, size, apart.most);
    }

pub returns-then-own-key : goal.returns-then-own-key
returns-then-own-key c =
    let own : FitsSigned w64 c.args.own.ticks = search rules in
    let key : FitsSigned w64 c.args.key.ticks = search rules in
    let P : ℤ → Type 0 = λ span. AreApart span c.args.key c.args.own in
    λ test. after_of c.args.span c.args.own c.args.key (read_less c.args.own.ticks c.args.key.ticks own key c.if-own-key.true)
    (subst P (to_z-of_z w64 c.args.span c.ranges.span) (c.are_apart.ensures test))
