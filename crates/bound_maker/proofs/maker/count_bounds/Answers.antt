use Rattle.std.proofs.Common.{◌+◌, subst, arith}
use Rattle.rule_file.specs.Numbers.{seen_rule}
use Rattle.series_rows.specs.Header.{HeaderView}
use Rattle.bound_maker.specs.Ruled.{IsRuled}
use Rattle.bound_maker.proofs.Making.{counted_all, counted_more, one_left, rules_few}
use Rattle.bound_maker.proofs.maker.count_bounds.Goals as goal

pub overflow_add-place : goal.overflow_add-place
overflow_add-place c = omega (arith, rules_few c.args.rules.now, c.loop-ruled.invariant.done, c.loop-ruled.invariant.place, c.sensor_count-place.ensures.most)

pub loop-ruled-smaller : goal.loop-ruled-smaller
loop-ruled-smaller c =
    let rules = c.args.rules.now in
    let table = c.args.table.now in
    let ruled = c.in-Some.ruled in
    let rule = seen_rule ruled.rule in
    let is = subst (λ (header : HeaderView). IsRuled rules header.sensor_cols (c.loop-ruled.done + 1) c.loop-ruled.place rule ruled.number ruled.col ruled.second) c.header.ensures c.in-Some.ensures in
    let left = one_left rules c.loop-ruled.done rule is.rule_is in
    omega (arith, left)

pub loop-ruled-preserved : goal.loop-ruled-preserved
loop-ruled-preserved c =
    let rules = c.args.rules.now in
    let table = c.args.table.now in
    let ruled = c.in-Some.ruled in
    let rule = seen_rule ruled.rule in
    let is = subst (λ (header : HeaderView). IsRuled rules header.sensor_cols (c.loop-ruled.done + 1) c.loop-ruled.place rule ruled.number ruled.col ruled.second) c.header.ensures c.in-Some.ensures in
    let left = one_left rules c.loop-ruled.done rule is.rule_is in
    record {
      done = omega (arith, left);
      place = omega (arith, c.loop-ruled.invariant.place, c.sensor_count-place.ensures.most);
      few = omega (arith, c.capped-count.ensures);
      count = counted_more rules table c.loop-ruled.done c.loop-ruled.place rule ruled.number ruled.col ruled.second c.sensor_count-place.result c.loop-ruled.count c.in_ok-more.more c.capped-count.result 4000001 _ is c.sensor_count-place.ensures.count
          (c.in_ok-more.ensures rules.format.decimals) c.capped-count.ensures c.loop-ruled.invariant.count;
    }

pub returns : goal.returns
returns c = counted_all c.args.rules.now c.args.table.now c.loop-ruled.done c.loop-ruled.place c.loop-ruled.count 4000001 _ c.in_default.ensures c.loop-ruled.invariant.few c.loop-ruled.invariant.count
