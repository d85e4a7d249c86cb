use Rattle.std.proofs.Common.{◌+◌, ◌≤◌, List, map, drop}
use Rattle.rule_keys.specs.declared.key.TableKind.{TableKind}
use Rattle.rule_file.proofs.Continues.{Continues}
use Rattle.rule_file.specs.Draft.{AreDraftOf, count_in}
use Rattle.rule_file.specs.Meaning.{Entries}
use Rattle.rule_file.specs.Tables.{seen}
use Rattle.rule_file.proofs.each.read_each.Given as goal

abbrev pub invariant-loop-place : goal.invariant-loop-place
invariant-loop-place l =
    (count_in l.draft ≤ l.place)
    × (front : List (TableKind × Entries)) × AreDraftOf front l.draft
    × Continues l.scale (l.place + 1) (map seen (drop l.place l.tables)) front (map seen l.tables)
