use Rattle.std.proofs.Common.{get_or, arith}
use Rattle.std.proofs.lemmas.Str.Parse.{digit_at}
use Rattle.cert_format.proofs.Digits.{AreRead, below_power, not_digit, read_more}
use Rattle.screen_words.proofs.command.value_of.Goals as goal

pub returns-then-not-is_ascii_digit-clause-none : goal.returns-then-not-is_ascii_digit-clause-none
returns-then-not-is_ascii_digit-clause-none c = λ digits.
    not_digit (get_or c.args.word.now c.loop-byte.byte-index 0) (cc) (digit_at c.args.word.now c.loop-byte.byte-index digits (omega arith))

pub overflow_mul-value : goal.overflow_mul-value
overflow_mul-value c =
    let read : AreRead c.args.word.now c.loop-byte.byte-index c.loop-byte.value = record { digits = c.loop-byte.invariant.0; value_is = c.loop-byte.invariant.1 } in
    omega (arith, below_power c.args.word.now c.loop-byte.byte-index c.loop-byte.value 8 read (omega arith) (omega arith))

pub overflow_add-value : goal.overflow_add-value
overflow_add-value c =
    let read : AreRead c.args.word.now c.loop-byte.byte-index c.loop-byte.value = record { digits = c.loop-byte.invariant.0; value_is = c.loop-byte.invariant.1 } in
    omega (arith, c.from.ensures, below_power c.args.word.now c.loop-byte.byte-index c.loop-byte.value 8 read (omega arith) (omega arith))

pub loop-byte-preserved : goal.loop-byte-preserved
loop-byte-preserved c =
    let read : AreRead c.args.word.now c.loop-byte.byte-index c.loop-byte.value = record { digits = c.loop-byte.invariant.0; value_is = c.loop-byte.invariant.1 } in
    let more = read_more c.args.word.now c.loop-byte.byte-index c.loop-byte.value c.from.result read (omega arith) (cc) c.from.ensures in
    (more.digits, more.value_is)
