use Rattle.std.proofs.Common.{◌≡◌, map, drop}
use Rattle.rule_keys.specs.Entries.{meaning_at}
use Rattle.rule_keys.specs.Seen.{seen}
use Rattle.rule_keys.proofs.entries.entry_at.Given as goal

abbrev pub invariant-loop-one : goal.invariant-loop-one
invariant-loop-one l =
    meaning_at l.key (map seen l.found) ≡ meaning_at l.key (map seen (drop l.one-index l.found))
