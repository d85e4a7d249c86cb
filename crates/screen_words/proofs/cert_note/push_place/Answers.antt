use Rattle.std.specs.Prelude.{codes, decimal}
use Rattle.screen_words.proofs.NoteWords.{three_words}
use Rattle.screen_words.proofs.cert_note.push_place.Goals as goal

pub returns-clause-bytes : goal.returns-clause-bytes
returns-clause-bytes c =
    rw (c.push_word-2.ensures.bytes, c.push_word.ensures.bytes, c.push_str.ensures.bytes) (three_words c.args.note.now.bytes (codes "PullTooGreat") (decimal c.args.row) (decimal c.args.col))
