use Rattle.order_window.proofs.OneMedian.{only_median_of}
use Rattle.order_window.proofs.laws.one_median.Goals as goal

pub returns : goal.returns
returns c = only_median_of
