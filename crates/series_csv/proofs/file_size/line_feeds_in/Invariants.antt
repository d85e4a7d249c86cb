use Rattle.std.proofs.Common.{◌≡◌, count_by, take}
use Rattle.std.specs.Prelude.{◌==◌}
use Rattle.record_cut.specs.Bytes.{line_feed}
use Rattle.series_csv.proofs.file_size.line_feeds_in.Given as goal

abbrev pub invariant-loop-byte : goal.invariant-loop-byte
invariant-loop-byte l = l.count ≡ count_by (λ byte. byte == line_feed) (take l.byte-index l.piece)
