use Rattle.std.proofs.Common.{List, sym, ap, ◌∙◌, ◌++◌}
use Rattle.std.proofs.lemmas.List.{append-nil}
use Rattle.screen_model.specs.declared.bound.Bound.{Bound}
use Rattle.rule_file.specs.Numbers.{seen_rule}
use Rattle.bound_maker.specs.Pairs.{pairs_of}
use Rattle.bound_maker.proofs.Counts.{no_pairs}
use Rattle.bound_maker.proofs.rule.push_of_pairs.Goals as goal

pub returns-in-None : goal.returns-in-None
returns-in-None c =
    let scope = c.args.scope in
    sym (ap (λ (bs : List Bound). c.args.bounds.now ++ bs) (no_pairs scope.number scope.decimals scope.col (seen_rule c.args.rule) (pairs_of (seen_rule c.args.rule) c.args.readings.now) c.in-None.ensures) ∙ append-nil c.args.bounds.now)
