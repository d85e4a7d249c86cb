use Rattle.toml.proofs.Views.{table_get}
use Rattle.rule_keys.proofs.read.read_key.Goals as goal

pub returns-in-Some : goal.returns-in-Some
returns-in-Some c =
    let found = table_get c.get.result c.key_text.result.now c.args.table.now.entries c.get.ensures.value in
    rw (← c.key_text.ensures, ← rw c.in-Some.is at found) c.read_value.ensures

pub returns-in-None : goal.returns-in-None
returns-in-None c =
    let found = table_get c.get.result c.key_text.result.now c.args.table.now.entries c.get.ensures.value in
    rw (← c.key_text.ensures, ← rw c.in-None.is at found) c.absent_entry.ensures
