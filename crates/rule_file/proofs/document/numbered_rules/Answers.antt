use Rattle.std.proofs.Common.{Err, ap}
use Rattle.std.proofs.lemmas.Result.{err_from_is_err_and}
use Rattle.rule_file.specs.Meaning.{scale_of}
use Rattle.rule_file.proofs.Reach.{same_scale, reads_scaled, speeds_reach, drifts_reach}
use Rattle.rule_file.proofs.document.numbered_rules.Goals as goal

pub returns-in_err-draft : goal.returns-in_err-draft
returns-in_err-draft c =
    let p = err_from_is_err_and c.from_residual.result c.from_residual.ensures.1 in
    rw (p.1, p.2)
    (λ other. reads_scaled c.scale_of.result (scale_of c.args.format.now) _ _
    (same_scale c.args.format.now c.in-Ok.format c.scale_of.result c.in-Ok.ensures c.scale_of.ensures.decimals c.scale_of.ensures.form)
    (c.in_err-draft.ensures.refused (λ same. other (ap Err same))))

pub invariant_of-result : goal.invariant_of-result
invariant_of-result c =
    let found = c.in_ok-draft.ensures.accepted in
    record {
      few = c.in_ok-draft.ensures.few;
      speed_reach = speeds_reach c.scale_of.result c.in-Ok.format.decimals _ found.0 c.in_ok-draft.draft c.scale_of.ensures.decimals found.1 found.2;
      drift_reach = drifts_reach c.scale_of.result c.in-Ok.format.decimals _ found.0 c.in_ok-draft.draft c.scale_of.ensures.decimals found.1 found.2;
    }

pub returns : goal.returns
returns c =
    let found = c.in_ok-draft.ensures.accepted in
    λ _. (
      c.in-Ok.ensures,
      found.0,
      reads_scaled c.scale_of.result (scale_of c.args.format.now) _ _
          (same_scale c.args.format.now c.in-Ok.format c.scale_of.result c.in-Ok.ensures c.scale_of.ensures.decimals c.scale_of.ensures.form) found.1,
      record {
        speeds = found.2.speeds;
        swings = found.2.swings;
        drifts = found.2.drifts;
        ranges = found.2.ranges;
        trusts = found.2.trusts;
        weights = found.2.weights;
        betweens = found.2.betweens;
      },
    )
