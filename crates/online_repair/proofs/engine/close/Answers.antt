use Rattle.online_repair.proofs.Ended.{ends}
use Rattle.online_repair.proofs.engine.close.Goals as goal

pub write_all-requires : goal.write_all-requires
write_all-requires c = record { header = c.requires.header; before = c.requires.keeps.before; stands = c.requires.keeps.stands }

pub returns : goal.returns
returns c = λ header accepted keeps.
    ends c.args.rules.now header accepted c.args.engine.now c.write_all.new.engine c.write_all.result c.args.out.now.items c.write_all.new.out.items keeps (c.write_all.ensures header keeps.before keeps.stands)
