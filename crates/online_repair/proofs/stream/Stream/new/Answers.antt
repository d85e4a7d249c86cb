use Rattle.std.proofs.Common.{refl}
use Rattle.std.specs.Prelude.{None, []}
use Rattle.record_cut.specs.Records.{records, records_from, records_within, text_from, without_mark}
use Rattle.online_repair.proofs.stream.Stream.new.Goals as goal

pub returns : goal.returns
unfolding records text_from records_from records_within without_mark
returns c = record { rules_are = refl; read = record { header = None; rows = []; fault = None }; reads = refl; not_refused = refl; reader = c.new.ensures.stands; engine = refl }
