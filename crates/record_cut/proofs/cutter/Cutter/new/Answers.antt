use Rattle.std.proofs.Common.{refl}
use Rattle.record_cut.proofs.Finishing.{fresh}
use Rattle.record_cut.proofs.cutter.Cutter.new.Goals as goal

pub returns : goal.returns
returns c = fresh _ c.args.sep refl (record { phase = refl; only = record { fields = c.new.ensures.fields; field = c.new.ensures.field; size = refl } })
