use Rattle.std.proofs.Common.{ℤ, FitsSigned, rules, ap, ◌∙◌, subst}
use Rattle.std.specs.Prelude.{All}
use Rattle.std.specs.Int.{w64}
use Rattle.std.proofs.lemmas.Int.{to_z-of_z}
use Rattle.order_window.specs.Window.{IsAfter}
use Rattle.online_values.specs.Results.{Speed}
use Rattle.online_values.specs.Sensor.{SensorView}
use Rattle.online_repair.specs.Tracks.{IsLooked}
use Rattle.online_repair.proofs.Repairing.{keys_after_own, successors_are, value_is}
use Rattle.online_repair.proofs.track.repair.Goals as goal

pub result-value-requires-clause-after : goal.result-value-requires-clause-after
result-value-requires-clause-after c =
    let own_ticks : FitsSigned w64 c.args.own.ticks = search rules in
    let L : ℤ → Type 0 = λ t. IsLooked c.args.col t c.look.new.track c.args.held.now.items in
    let looked = subst L (to_z-of_z w64 c.args.own.ticks own_ticks) c.look.ensures.looked in
    let A : ℤ → Type 0 = λ span. All (IsAfter span c.args.own) c.look.new.track.sensor.keys in
    subst A looked.looking.span_is (keys_after_own c.args.col c.look.new.track.span c.args.own c.args.held.now.items c.look.new.track.next c.look.new.track.sensor.keys c.requires.rows.rise looked.looking.near looked.looking.keys_are)

pub returns-then-is_small-clause-value : goal.returns-then-is_small-clause-value
returns-then-is_small-clause-value c =
    let fits : FitsSigned w64 c.result-value.result = search rules in
    let looked = c.look.ensures.looked in
    let speed_is = c.look.ensures.kept.speed ∙ ap (λ (s : SensorView). s.speed) c.leave.ensures.kept in
    let last_is = c.look.ensures.kept.last ∙ ap (λ (s : SensorView). s.last) c.leave.ensures.kept in
    let own_ticks : FitsSigned w64 c.args.own.ticks = search rules in
    let L : ℤ → Type 0 = λ t. IsLooked c.args.col t c.look.new.track c.args.held.now.items in
    let looked_own = subst L (to_z-of_z w64 c.args.own.ticks own_ticks) looked in
    to_z-of_z w64 c.result-value.result fits
    ∙ value_is c.args.track.now.sensor.speed c.look.new.track.sensor.speed c.args.track.now.sensor.last c.look.new.track.sensor.last c.args.own c.look.new.track.sensor.keys _ c.result-value.result speed_is last_is
    (looked_own.looking.keys_are ∙ successors_are c.args.track.now.sensor.speed c.look.new.track.span c.args.own c.args.col c.args.held.now.items c.look.new.track.next (looked_own.looking.span_is ∙ ap (λ (s : Speed). s.span) speed_is) looked_own.looking.near looked_own.beyond)
    c.result-value.ensures.result

pub returns-else-is_small-clause-value : goal.returns-else-is_small-clause-value
returns-else-is_small-clause-value c =
    let fits : FitsSigned w64 c.result-value.result = search rules in
    let looked = c.look.ensures.looked in
    let speed_is = c.look.ensures.kept.speed ∙ ap (λ (s : SensorView). s.speed) c.leave.ensures.kept in
    let last_is = c.look.ensures.kept.last ∙ ap (λ (s : SensorView). s.last) c.leave.ensures.kept in
    let own_ticks : FitsSigned w64 c.args.own.ticks = search rules in
    let L : ℤ → Type 0 = λ t. IsLooked c.args.col t c.look.new.track c.args.held.now.items in
    let looked_own = subst L (to_z-of_z w64 c.args.own.ticks own_ticks) looked in
    to_z-of_z w64 c.result-value.result fits
    ∙ value_is c.args.track.now.sensor.speed c.look.new.track.sensor.speed c.args.track.now.sensor.last c.look.new.track.sensor.last c.args.own c.look.new.track.sensor.keys _ c.result-value.result speed_is last_is
    (looked_own.looking.keys_are ∙ successors_are c.args.track.now.sensor.speed c.look.new.track.span c.args.own c.args.col c.args.held.now.items c.look.new.track.next (looked_own.looking.span_is ∙ ap (λ (s : Speed). s.span) speed_is) looked_own.looking.near looked_own.beyond)
    c.result-value.ensures.result
