use Rattle.std.proofs.Common.{◌≡◌, ℕ, None, subst, arith}
use Rattle.std.specs.Option.{MatchOption}
use Rattle.rule_file.specs.Numbers.{rule_of, seen_rule}
use Rattle.bound_maker.specs.declared.rule.Ruled.{Ruled}
use Rattle.bound_maker.specs.Ruled.{IsRuled}
use Rattle.bound_maker.proofs.SensorPlaces.{index_is, named_few}
use Rattle.bound_maker.proofs.rule.ruled_at.Goals as goal

pub ruled_from-requires : goal.ruled_from-requires
ruled_from-requires c =
    let place = index_is c.args.rules.now c.args.number c.in-Some.place c.in-Some.ensures in
    let few = named_few c.args.rules.now c.args.number in
    omega (arith, place, few)

pub returns-in-Some : goal.returns-in-Some
returns-in-Some c =
    let rules = c.args.rules.now in
    subst (λ (place : ℕ). MatchOption c.ruled_from.result (rule_of rules c.args.number ≡ None)
    (λ (ruled : Ruled). IsRuled rules c.args.header.now.sensor_cols c.args.number place (seen_rule ruled.rule) ruled.number ruled.col ruled.second))
    (index_is rules c.args.number c.in-Some.place c.in-Some.ensures) c.ruled_from.ensures
