use Rattle.std.proofs.Common.{◌≡◌, map, drop, Some}
use Rattle.toml.specs.View.{items_view}
use Rattle.rule_file.specs.Document.{tables_in, joined}
use Rattle.rule_file.specs.Tables.{seen}
use Rattle.rule_file.proofs.tables.push_members.Given as goal

-- the tables so far, and those of the members that are left, are those of all
abbrev pub invariant-loop-member : goal.invariant-loop-member
invariant-loop-member l =
    joined (Some (map seen l.tables.items)) (tables_in l.kind (items_view (drop l.member-index l.members)))
    ≡ joined (Some (map seen l.fn.tables.items)) (tables_in l.kind (items_view l.members))
