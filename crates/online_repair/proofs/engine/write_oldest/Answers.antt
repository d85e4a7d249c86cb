use Rattle.std.proofs.Common.{refl}
use Rattle.online_repair.proofs.Oldest.{oldest_written}
use Rattle.online_repair.proofs.engine.write_oldest.Goals as goal

pub returns-in-Some : goal.returns-in-Some
returns-in-Some c = λ header before stands.
    oldest_written c.args.rules.now header before c.args.engine.now.held.items c.in-Some.row c.write_row.result c.args.engine.now _ c.write_row.new.engine c.args.out.now.items c.write_row.new.out.items refl c.in-Some.ensures.value
    (record { most = refl; tracks = refl; held = c.in-Some.ensures.items; written = refl })
    (c.write_row.ensures header before) stands
