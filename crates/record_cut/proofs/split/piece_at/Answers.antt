use Rattle.std.proofs.Common.{arith}
use Rattle.record_cut.proofs.Splits.{piece-order, piece_read}
use Rattle.record_cut.proofs.split.piece_at.Goals as goal

pub slice_bounds-result-count : goal.slice_bounds-result-count
slice_bounds-result-count c = omega (arith, c.start_at.ensures, (piece-order 0 c.args.ends.now _ c.args.i c.requires.rises c.requires.within).0)

pub slice_bounds-result-start : goal.slice_bounds-result-start
slice_bounds-result-start c = omega (arith, c.start_at.ensures, (piece-order 0 c.args.ends.now _ c.args.i c.requires.rises c.requires.within).0)

pub slice_bounds-result-end : goal.slice_bounds-result-end
slice_bounds-result-end c = omega (arith, (piece-order 0 c.args.ends.now _ c.args.i c.requires.rises c.requires.within).1)

pub returns : goal.returns
returns c = piece_read c.args.bytes.now c.args.ends.now c.args.i c.start_at.result c.requires.within c.start_at.ensures _
