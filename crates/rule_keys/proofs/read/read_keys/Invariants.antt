use Rattle.std.proofs.Common.{◌≡◌, drop, length, map}
use Rattle.toml.specs.View.{table_view}
use Rattle.rule_keys.specs.Seen.{seen}
use Rattle.rule_keys.proofs.KeyByKey.{IsSoFar}
use Rattle.rule_keys.proofs.read.read_keys.Given as goal

abbrev pub invariant-loop-key : goal.invariant-loop-key
invariant-loop-key l =
    (length l.found.items ≡ l.key-index) × IsSoFar l.scale (table_view l.table) l.keys (drop l.key-index l.keys) (map seen l.found.items)
