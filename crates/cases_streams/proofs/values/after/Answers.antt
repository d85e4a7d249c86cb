use Rattle.std.proofs.Common.{ℤ, pos, ◌<ℤ◌, FitsSigned, rules, sym, ap, subst}
use Rattle.std.specs.Prelude.{IfSome, Option}
use Rattle.std.specs.Int.{w64}
use Rattle.std.proofs.lemmas.Int.{to_z-of_z}
use Rattle.order_window.specs.declared.key.Key.{Key}
use Rattle.online_values.proofs.Steps.{true_less}
use Rattle.online_values.specs.Sensor.{SensorView}
use Rattle.cases_streams.proofs.values.after.Goals as goal

pub result-requires-clause-later : goal.result-requires-clause-later
result-requires-clause-later c =
    let ticks : FitsSigned w64 c.args.own.ticks = search rules in
    let L : Option Key → Type 0 = λ last. IfSome last (λ key. key.ticks <ℤ c.args.own.ticks) in
    let T : ℤ → Type 0 = λ t. pos 0 <ℤ t in
    subst L (sym (ap (λ (v : SensorView). v.last) c.keep.ensures)) (subst T (to_z-of_z w64 c.args.own.ticks ticks) (true_less (pos 0) _ c.if-own-gt0.true))
