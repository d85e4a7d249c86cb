use Rattle.std.proofs.Common.{FitsSigned, rules, refl, ap, ◌∙◌}
use Rattle.std.specs.Int.{w64}
use Rattle.std.proofs.lemmas.Int.{to_z-of_z}
use Rattle.online_repair.specs.Accepted.{greatest_window}
use Rattle.online_repair.proofs.Begun.{keeps_none}
use Rattle.online_repair.proofs.engine.Engine.new.Goals as goal

pub returns : goal.returns
returns c =
    let fits : FitsSigned w64 c.greatest_window.result = search rules in
    keeps_none c.args.rules.now c.args.header.now _ (to_z-of_z w64 c.greatest_window.result fits ∙ c.greatest_window.ensures ∙ ap greatest_window c.as_slice.ensures)
    c.in_ok-tracks_of.ensures.tracks c.in_ok-tracks_of.ensures.seen c.in_ok-tracks_of.ensures.new c.in_ok-with_capacity.ensures refl
