use Rattle.std.proofs.Common.{FitsSigned, rules}
use Rattle.std.specs.Int.{w64, w128}
use Rattle.order_window.specs.Lines.{IsBefore}
use Rattle.order_window.proofs.Heights.{always, differences, never, product_small, read_earlier, tested_earlier, tested_higher, tested_lower}
use Rattle.order_window.proofs.line.is_before.Goals as goal

pub product-values-requires : goal.product-values-requires
product-values-requires c =
    let a : FitsSigned w64 c.args.key.value = search rules in
    let b : FitsSigned w64 c.args.other.value = search rules in
    let run : FitsSigned w128 c.args.line.run = search rules in
    product_small c.args.key.value c.args.other.value c.args.line.run c.difference.result a b run c.difference.ensures c.requires.values

pub product-times-requires : goal.product-times-requires
product-times-requires c =
    let a : FitsSigned w64 c.args.key.ticks = search rules in
    let b : FitsSigned w64 c.args.other.ticks = search rules in
    let rise : FitsSigned w128 c.args.line.rise = search rules in
    product_small c.args.key.ticks c.args.other.ticks c.args.line.rise c.difference-2.result a b rise c.difference-2.ensures c.requires.times

pub returns-then-values-times : goal.returns-then-values-times
returns-then-values-times c =
    let are = differences c.args.line c.args.key c.args.other c.difference.result c.difference-2.result c.product-values.result c.product-times.result (search rules) (search rules) (search rules) (search rules) (search rules) (search rules) (search rules) (search rules) c.difference.ensures c.difference-2.ensures c.product-values.ensures c.product-times.ensures in
    always (IsBefore c.args.line c.args.key c.args.other) (tested_lower c.args.line c.args.key c.args.other _ _ are c.if-values-times.true)

pub returns-then-times-values : goal.returns-then-times-values
returns-then-times-values c =
    let are = differences c.args.line c.args.key c.args.other c.difference.result c.difference-2.result c.product-values.result c.product-times.result (search rules) (search rules) (search rules) (search rules) (search rules) (search rules) (search rules) (search rules) c.difference.ensures c.difference-2.ensures c.product-values.ensures c.product-times.ensures in
    never (IsBefore c.args.line c.args.key c.args.other) (tested_higher c.args.line c.args.key c.args.other _ _ are c.if-times-values.true)

pub returns : goal.returns
returns c =
    let are = differences c.args.line c.args.key c.args.other c.difference.result c.difference-2.result c.product-values.result c.product-times.result (search rules) (search rules) (search rules) (search rules) (search rules) (search rules) (search rules) (search rules) c.difference.ensures c.difference-2.ensures c.product-values.ensures c.product-times.ensures in
    read_earlier (IsBefore c.args.line c.args.key c.args.other) c.args.key.ticks c.args.other.ticks (search rules) (search rules)
    (tested_earlier c.args.line c.args.key c.args.other _ _ are c.if-values-times.false c.if-times-values.false)
