use Rattle.std.proofs.Common.{FitsSigned, rules, sym, ap, ◌∙◌}
use Rattle.std.specs.Prelude.{All}
use Rattle.std.specs.Int.{w64}
use Rattle.std.proofs.lemmas.Int.{to_z-of_z}
use Rattle.online_values.specs.Sensor.{SensorView}
use Rattle.online_values.proofs.Repair.{left_first, left_none}
use Rattle.order_window.specs.declared.key.Key.{Key}
use Rattle.std.proofs.Common.{List, subst, ◌≡◌}
use Rattle.online_values.proofs.sensor.SensorRepair.leave.Goals as goal

pub returns-clause-first : goal.returns-clause-first
returns-clause-first c =
    let fits : FitsSigned w64 c.args.own.ticks = search rules in
    let keys_are = ap (λ (v : SensorView). v.keys) c.self.view_is in
    λ others e. left_first c.remove.result c.self.inside.window.keys c.remove.new.self.keys c.args.own _ (to_z-of_z w64 c.args.own.ticks fits) c.remove.ensures.time c.remove.ensures.taken c.remove.ensures.none others (keys_are ∙ e)

pub returns-clause-none : goal.returns-clause-none
returns-clause-none c =
    let fits : FitsSigned w64 c.args.own.ticks = search rules in
    let keys_are = ap (λ (v : SensorView). v.keys) c.self.view_is in
    let A : List Key → Type 0 = λ keys. All (λ (key : Key). key.ticks ≡ c.args.own.ticks → ⊥) keys in
    λ all. left_none c.remove.result c.self.inside.window.keys c.remove.new.self.keys c.args.own _ (to_z-of_z w64 c.args.own.ticks fits) c.remove.ensures.time c.remove.ensures.taken c.remove.ensures.left (subst A (sym keys_are) all) ∙ keys_are
