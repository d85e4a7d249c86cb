use Rattle.std.proofs.Common.{rules}
use Rattle.screen_words.proofs.cert_note.push_fault.Goals as goal

pub returns-in-TotalWrong-clause-bytes : goal.returns-in-TotalWrong-clause-bytes
returns-in-TotalWrong-clause-bytes c = search (rules, c.in-TotalWrong.is, c.push_sums.ensures.bytes)

pub returns-in-ValueDiffers-clause-bytes : goal.returns-in-ValueDiffers-clause-bytes
returns-in-ValueDiffers-clause-bytes c = search (rules, c.in-ValueDiffers.is, c.push_sums-in-ValueDiffers.ensures.bytes)

pub returns-in-FileTooLong-clause-bytes : goal.returns-in-FileTooLong-clause-bytes
returns-in-FileTooLong-clause-bytes c = rw c.in-FileTooLong.is c.push_str.ensures.bytes

pub returns-in-PricedStep-clause-bytes : goal.returns-in-PricedStep-clause-bytes
returns-in-PricedStep-clause-bytes c = rw c.in-PricedStep.is c.push_line-in-PricedStep.ensures.bytes
