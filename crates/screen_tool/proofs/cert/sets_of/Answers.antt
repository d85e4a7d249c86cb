use Rattle.std.proofs.Common.{◌++◌, List, drop, pos, slice_index_or, sym, ap, ◌∙◌, rules, w64}
use Rattle.std.proofs.lemmas.Int.{to_z-of_z}
use Rattle.std.proofs.lemmas.List.{append-nil, drop_all}
use mir.Val.{SFits}
use Rattle.screen_model.specs.declared.place.Place.{Place}
use Rattle.cert_format.specs.declared.cert.SetLine.{SetLine}
use Rattle.cert_format.specs.Sets.{sets_of}
use Rattle.screen_tool.proofs.Changed.{one_on}
use Rattle.screen_tool.proofs.cert.sets_of.Goals as goal

pub loop-i-init : goal.loop-i-init
loop-i-init c = ap (λ (sets : List SetLine). sets ++ sets_of c.args.places.now c.args.values.now c.args.series.now) (sym c.new-sets.ensures)

pub loop-i-preserved : goal.loop-i-preserved
loop-i-preserved c =
    let value = slice_index_or c.args.values.now c.loop-i.i (pos 0) in
    let x = slice_index_or c.args.series.now c.loop-i.i (pos 0) in
    let value_fits : SFits w64 value = search rules in
    let x_fits : SFits w64 x = search rules in
    one_on c.args.places.now c.args.values.now c.args.series.now c.loop-i.i (record { row = 0; col = 0 }) (pos 0) (pos 0) _ _ c.loop-i.sets c.push_set.new.sets c.requires.values c.requires.series c.loop-i-test.true
    (to_z-of_z w64 value value_fits) (to_z-of_z w64 x x_fits) c.loop-i.invariant c.in_ok-push_set.ensures

pub returns : goal.returns
returns c =
    let none = drop_all c.loop-i.i c.args.places.now c.loop-i-test.false in
    sym (c.loop-i.invariant ∙ (ap (λ (places : List Place). c.loop-i.sets ++ sets_of places (drop c.loop-i.i c.args.values.now) (drop c.loop-i.i c.args.series.now)) none ∙ append-nil c.loop-i.sets))
