use Rattle.std.proofs.Common.{◌≡◌, ◌+◌, count_by, length}
use Rattle.std.specs.Prelude.{◌==◌}
use Rattle.record_cut.specs.Bytes.{line_feed}
use Rattle.series_csv.proofs.file_size.line_feeds.Given as goal

abbrev pub invariant-loop-rest : goal.invariant-loop-rest
invariant-loop-rest l = l.count + count_by (λ byte. byte == line_feed) l.rest ≡ count_by (λ byte. byte == line_feed) l.bytes

abbrev pub decreases-loop-rest : goal.decreases-loop-rest
decreases-loop-rest l = length l.rest
