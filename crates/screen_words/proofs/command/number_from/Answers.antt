use Rattle.std.proofs.Common.{◌≡◌, ℕ, List, length, subst}
use Rattle.screen_words.specs.Command.{number_of}
use Rattle.screen_words.proofs.NumberWords.{from_value, some_of}
use Rattle.screen_words.proofs.command.number_from.Goals as goal

pub returns : goal.returns
returns c =
    subst (λ (word : List ℕ). c.value_of.result ≡ number_of word) c.as_bytes-bytes.ensures.value
    (from_value c.as_bytes-bytes.result.now c.value_of.result (some_of (length c.as_bytes-bytes.result.now) c.if-is_empty.ensures) c.if-bytes-gt-MOST_DIGITS.false c.value_of.ensures.found c.value_of.ensures.none)
