use Rattle.std.proofs.Common.{◌+◌, subst, arith}
use Rattle.rule_file.specs.Numbers.{seen_rule}
use Rattle.series_rows.specs.Header.{HeaderView}
use Rattle.bound_maker.specs.Ruled.{IsRuled}
use Rattle.bound_maker.proofs.Making.{bounded_at, one_left, pushed_all, pushed_more, rules_few}
use Rattle.bound_maker.proofs.maker.push_rules.Goals as goal

pub push_of-requires-clause-bounded : goal.push_of-requires-clause-bounded
push_of-requires-clause-bounded c = bounded_at c.args.rules.now c.loop-ruled.done (seen_rule c.in-Some.ruled.rule) c.in-Some.ensures.rule_is

pub overflow_add-place : goal.overflow_add-place
overflow_add-place c = omega (arith, rules_few c.args.rules.now, c.loop-ruled.invariant.done, c.loop-ruled.invariant.place, c.sensor_count-place.ensures.most)

pub loop-ruled-smaller : goal.loop-ruled-smaller
loop-ruled-smaller c =
    let rules = c.args.rules.now in
    let table = c.args.table.now in
    let ruled = c.in-Some.ruled in
    let rule = seen_rule ruled.rule in
    let is = subst (λ (header : HeaderView). IsRuled rules header.sensor_cols (c.loop-ruled.done + 1) c.loop-ruled.place rule ruled.number ruled.col ruled.second) c.header.ensures c.in-Some.ensures in
    let left = one_left rules c.loop-ruled.done rule is.rule_is in
    omega (arith, left)

pub loop-ruled-preserved : goal.loop-ruled-preserved
loop-ruled-preserved c =
    let rules = c.args.rules.now in
    let table = c.args.table.now in
    let ruled = c.in-Some.ruled in
    let rule = seen_rule ruled.rule in
    let is = subst (λ (header : HeaderView). IsRuled rules header.sensor_cols (c.loop-ruled.done + 1) c.loop-ruled.place rule ruled.number ruled.col ruled.second) c.header.ensures c.in-Some.ensures in
    let left = one_left rules c.loop-ruled.done rule is.rule_is in
    record {
      done = omega (arith, left);
      place = omega (arith, c.loop-ruled.invariant.place, c.sensor_count-place.ensures.most);
      bounds = pushed_more rules table c.loop-ruled.done c.loop-ruled.place rule ruled.number ruled.col ruled.second c.sensor_count-place.result _ c.loop-ruled.bounds c.push_of.new.bounds is c.sensor_count-place.ensures.count c.loop-ruled.invariant.bounds c.in_ok-push_of.ensures;
    }

pub returns : goal.returns
returns c = pushed_all c.args.rules.now c.args.table.now c.loop-ruled.done c.loop-ruled.place _ c.loop-ruled.bounds c.in_default.ensures c.loop-ruled.invariant.bounds
