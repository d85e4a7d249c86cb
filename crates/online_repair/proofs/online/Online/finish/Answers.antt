use Rattle.std.proofs.Common.{false, ap, refl}
use Rattle.std.specs.Prelude.{Err}
use Rattle.online_repair.specs.declared.fault.OnlineFault.{OnlineFault}
use Rattle.online_repair.specs.declared.online.Stage.TheVariants.{Refused, Ended}
use Rattle.online_repair.proofs.Public.{can_go_on, ended_after, ends_after, kept_after_finish, own_stage, refusal_is, refused_stands, refuses_after, stage_at, stands_at}
use Rattle.online_repair.proofs.online.Online.finish.Goals as goal

pub same-self : goal.same-self
same-self c = refl

pub returns-in-Refused-clause-ends : goal.returns-in-Refused-clause-ends
returns-in-Refused-clause-ends c = λ rules before stands.
    absurd (refused_stands c.args.self.now rules before c.in-Refused.fault (stage_at c.args.self.now c.self.inside.stream c.self.inside.stage (Refused c.in-Refused.fault) c.self.view_is c.in-Refused.is) stands)

pub returns-in-Refused-clause-refuses : goal.returns-in-Refused-clause-refuses
returns-in-Refused-clause-refuses c = stage_at c.args.self.now c.self.inside.stream c.self.inside.stage (Refused c.in-Refused.fault) c.self.view_is c.in-Refused.is

pub returns-in-Refused-clause-refused : goal.returns-in-Refused-clause-refused
returns-in-Refused-clause-refused c = λ fault refused. (
  ap (λ (f : OnlineFault). Err f) (refusal_is c.args.self.now.stage c.in-Refused.fault fault (stage_at c.args.self.now c.self.inside.stream c.self.inside.stage (Refused c.in-Refused.fault) c.self.view_is c.in-Refused.is) refused),
  refl,
)

pub finish-ended-requires : goal.finish-ended-requires
finish-ended-requires c =
    can_go_on c.self.inside.stage c.self.inside.stream c.self.invariant c.in_default.not-Refused (λ ended. c.requires (stage_at c.args.self.now c.self.inside.stream c.self.inside.stage Ended c.self.view_is ended))

pub invariant_of-self : goal.invariant_of-self
invariant_of-self c = kept_after_finish c.finish-ended.result c.finish-ended.new.self c.stage_after-self-inside.result c.stage_after-self-inside.ensures

pub returns : goal.returns
returns c = record {
  ends = λ rules before stands.
      ends_after rules before c.finish-ended.result c.finish-ended.new.self c.stage_after-self-inside.result c.args.out.now.items c.finish-ended.new.out.items c.stage_after-self-inside.ensures
      (c.finish-ended.ensures rules before (stands_at c.args.self.now c.self.inside.stream c.self.inside.stage rules false before c.self.view_is stands));
  ended = ended_after c.finish-ended.result c.stage_after-self-inside.result c.finish-ended.new.self c.stage_after-self-inside.ensures;
  refuses = refuses_after c.finish-ended.result c.stage_after-self-inside.result Ended c.finish-ended.new.self c.stage_after-self-inside.ensures;
  refused = λ fault refused. absurd (c.in_default.not-Refused fault (own_stage c.args.self.now c.self.inside.stream c.self.inside.stage (Refused fault) c.self.view_is refused));
}
