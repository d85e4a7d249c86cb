use Rattle.std.proofs.Common.{ap, ◌∙◌}
use Rattle.std.specs.Prelude.{string_bytes}
use Rattle.screen_words.specs.Command.{file_command, stream_command}
use Rattle.screen_words.proofs.FileWords.{four, two}
use Rattle.screen_words.proofs.command.command_from.Goals as goal

pub returns-in-len4 : goal.returns-in-len4
returns-in-len4 c =
    c.file_command.ensures ∙ (ap file_command (c.as_str-in-len4.ensures.value ∙ ap string_bytes c.name-item-then-words-lt5.is) ∙ four c.args.words.now _ c.in-len4.len_at_least c.in-len4.len_below)

pub returns-in-len2 : goal.returns-in-len2
returns-in-len2 c = c.stream_command.ensures ∙ (ap stream_command (c.as_str.ensures.value ∙ ap string_bytes c.name-item.is) ∙ two c.args.words.now _ c.in-len2.len_at_least c.in-len2.len_below)
