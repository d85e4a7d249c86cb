use Rattle.record_cut.proofs.RoundTrip.{round_trip}
use Rattle.record_cut.proofs.laws.row_texts_are_cut_back.Goals as goal

pub returns : goal.returns
returns c = round_trip
