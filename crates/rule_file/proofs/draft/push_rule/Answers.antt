use Rattle.std.proofs.lemmas.Result.{on_ok_weaker}
use Rattle.rule_file.proofs.Pushed.{push_speed, push_swing, push_drift, push_range, push_trust, push_weight, push_between}
use Rattle.rule_file.proofs.draft.push_rule.Goals as goal

pub returns-in_ok-speed_from-in-Speed-clause-rules : goal.returns-in_ok-speed_from-in-Speed-clause-rules
returns-in_ok-speed_from-in-Speed-clause-rules c =
    on_ok_weaker c.push.result
    (λ pushed. λ read kept. push_speed c.args.kind read c.args.entries.now c.args.draft.now _ _ c.in-Speed.is c.in_ok-speed_from-in-Speed.ensures pushed kept)
    c.push.ensures.ok

pub returns-in_ok-swing_from-in-Swing-clause-rules : goal.returns-in_ok-swing_from-in-Swing-clause-rules
returns-in_ok-swing_from-in-Swing-clause-rules c =
    on_ok_weaker c.push-in-Swing.result
    (λ pushed. λ read kept. push_swing c.args.kind read c.args.entries.now c.args.draft.now _ _ c.in-Swing.is c.in_ok-swing_from-in-Swing.ensures pushed kept)
    c.push-in-Swing.ensures.ok

pub returns-in_ok-drift_from-in-Drift-clause-rules : goal.returns-in_ok-drift_from-in-Drift-clause-rules
returns-in_ok-drift_from-in-Drift-clause-rules c =
    on_ok_weaker c.push-in-Drift.result
    (λ pushed. λ read kept. push_drift c.args.kind read c.args.entries.now c.args.draft.now _ _ c.in-Drift.is c.in_ok-drift_from-in-Drift.ensures pushed kept)
    c.push-in-Drift.ensures.ok

pub returns-in_ok-range_from-in-Range-clause-rules : goal.returns-in_ok-range_from-in-Range-clause-rules
returns-in_ok-range_from-in-Range-clause-rules c =
    on_ok_weaker c.push-in-Range.result
    (λ pushed. λ read kept. push_range c.args.kind read c.args.entries.now c.args.draft.now _ _ c.in-Range.is c.in_ok-range_from-in-Range.ensures pushed kept)
    c.push-in-Range.ensures.ok

pub returns-in_ok-trust_from-in-Trust-clause-rules : goal.returns-in_ok-trust_from-in-Trust-clause-rules
returns-in_ok-trust_from-in-Trust-clause-rules c =
    on_ok_weaker c.push-in-Trust.result
    (λ pushed. λ read kept. push_trust c.args.kind read c.args.entries.now c.args.draft.now _ _ c.in-Trust.is c.in_ok-trust_from-in-Trust.ensures pushed kept)
    c.push-in-Trust.ensures.ok

pub returns-in_ok-weight_from-in-Weight-clause-rules : goal.returns-in_ok-weight_from-in-Weight-clause-rules
returns-in_ok-weight_from-in-Weight-clause-rules c =
    on_ok_weaker c.push-in-Weight.result
    (λ pushed. λ read kept. push_weight c.args.kind read c.args.entries.now c.args.draft.now _ _ c.in-Weight.is c.in_ok-weight_from-in-Weight.ensures pushed kept)
    c.push-in-Weight.ensures.ok

pub returns-in_ok-between_from-in-Between-clause-rules : goal.returns-in_ok-between_from-in-Between-clause-rules
returns-in_ok-between_from-in-Between-clause-rules c =
    on_ok_weaker c.push-in-Between.result
    (λ pushed. λ read kept. push_between c.args.kind read c.args.entries.now c.args.draft.now _ _ c.in-Between.is c.in_ok-between_from-in-Between.ensures pushed kept)
    c.push-in-Between.ensures.ok
