use Rattle.std.proofs.Common.{drop}
use Rattle.toml.specs.View.{items_view}
use Rattle.rule_file.specs.Answered.{AllHave}
use Rattle.rule_file.specs.Document.{tables_in}
use Rattle.rule_file.proofs.answered.members_answer.Given as goal

-- the members that are left answer for all
abbrev pub invariant-loop-member : goal.invariant-loop-member
invariant-loop-member l =
    AllHave l.scale (tables_in l.kind (items_view (drop l.member-index l.members))) → AllHave l.scale (tables_in l.kind (items_view l.members))
