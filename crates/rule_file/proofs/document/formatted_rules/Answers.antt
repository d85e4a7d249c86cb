use Rattle.std.proofs.Common.{Err, ap, ◌∙◌, inl}
use Rattle.rule_file.specs.Fault.{of_the_file}
use Rattle.rule_file.proofs.document.formatted_rules.Goals as goal

pub returns-in-Err : goal.returns-in-Err
returns-in-Err c =
    λ other. inl (c.in-Err.cause, c.in-Err.ensures.refused, ap Err (c.of_the_file.ensures ∙ ap of_the_file c.of_key.ensures))
