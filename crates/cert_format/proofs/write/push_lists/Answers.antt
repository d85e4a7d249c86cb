use Rattle.cert_format.proofs.Pushed.{on_ok, pushed_lists}
use Rattle.cert_format.proofs.write.push_lists.Goals as goal

pub returns : goal.returns
returns c =
    on_ok c.push_items.result
    (pushed_lists c.args.sets.now c.as_slice.result.now c.args.flow.now c.as_slice-2.result.now c.args.text.now.items c.push_sets.new.text.items c.push_items.new.text.items c.as_slice.ensures c.as_slice-2.ensures c.in_ok-push_sets.ensures)
    c.push_items.ensures
