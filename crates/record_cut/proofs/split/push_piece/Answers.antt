use Rattle.std.proofs.Common.{rules}
use Rattle.record_cut.proofs.Splits.{pushed_piece, pushed_end}
use Rattle.record_cut.proofs.split.push_piece.Goals as goal

pub returns-clause-ok : goal.returns-clause-ok
returns-clause-ok c = pushed_piece c.args.bytes.now.items c.args.ends.now.items c.args.field.now _ _ c.len.result c.requires c.in_ok-extend_from_slice.ensures.items c.in_default.ensures.ok (search rules)

pub returns-clause-rises : goal.returns-clause-rises
returns-clause-rises c = pushed_end c.args.bytes.now.items c.args.ends.now.items c.args.field.now _ _ c.len.result c.requires c.in_ok-extend_from_slice.ensures.items c.in_default.ensures.ok (search rules)
