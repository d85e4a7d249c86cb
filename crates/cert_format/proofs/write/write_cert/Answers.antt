use Rattle.std.proofs.Common.{[], ◌∷◌, ◌++◌, ap, ◌∙◌}
use Rattle.cert_format.specs.declared.line.Line.TheVariants.{End}
use Rattle.cert_format.specs.Cert.{lines_before_end}
use Rattle.cert_format.proofs.Refusals.{text_of}
use Rattle.cert_format.proofs.Pushed.{pushed_both}
use Rattle.cert_format.proofs.write.write_cert.Goals as goal

pub returns : goal.returns
returns c =
    let front = c.in_ok-push_before_end.ensures ∙ ap (λ s. s ++ text_of (lines_before_end c.args.cert.now)) c.new-text.ensures.items in
    pushed_both (lines_before_end c.args.cert.now) (End ∷ []) [] c.push_before_end.new.text.items c.push_whole.new.text.items front c.in_ok-push_whole.ensures
