use Rattle.std.proofs.Common.{false, ap, refl}
use Rattle.std.specs.Prelude.{Err}
use Rattle.online_repair.specs.declared.fault.OnlineFault.{OnlineFault}
use Rattle.online_repair.specs.declared.online.Stage.TheVariants.{Open, Refused, Ended}
use Rattle.online_repair.proofs.Public.{can_go_on, feeds_after, kept_after_feed, own_stage, refusal_is, refused_not_ended, refused_stands, refuses_after, stage_at, stands_at, stays_open}
use Rattle.online_repair.proofs.online.Online.feed.Goals as goal

pub same-self : goal.same-self
same-self c = refl

pub returns-in-Refused-clause-feeds : goal.returns-in-Refused-clause-feeds
returns-in-Refused-clause-feeds c = λ rules before stands.
    absurd (refused_stands c.args.self.now rules before c.in-Refused.fault (stage_at c.args.self.now c.self.inside.stream c.self.inside.stage (Refused c.in-Refused.fault) c.self.view_is c.in-Refused.is) stands)

pub returns-in-Refused-clause-stays_open : goal.returns-in-Refused-clause-stays_open
returns-in-Refused-clause-stays_open c =
    refused_not_ended c.args.self.now.stage c.in-Refused.fault (stage_at c.args.self.now c.self.inside.stream c.self.inside.stage (Refused c.in-Refused.fault) c.self.view_is c.in-Refused.is)

pub returns-in-Refused-clause-refuses : goal.returns-in-Refused-clause-refuses
returns-in-Refused-clause-refuses c = stage_at c.args.self.now c.self.inside.stream c.self.inside.stage (Refused c.in-Refused.fault) c.self.view_is c.in-Refused.is

pub returns-in-Refused-clause-refused : goal.returns-in-Refused-clause-refused
returns-in-Refused-clause-refused c = λ fault refused. (
  ap (λ (f : OnlineFault). Err f) (refusal_is c.args.self.now.stage c.in-Refused.fault fault (stage_at c.args.self.now c.self.inside.stream c.self.inside.stage (Refused c.in-Refused.fault) c.self.view_is c.in-Refused.is) refused),
  refl,
)

pub feed-fed-requires : goal.feed-fed-requires
feed-fed-requires c =
    can_go_on c.self.inside.stage c.self.inside.stream c.self.invariant c.in_default.not-Refused (λ ended. c.requires (stage_at c.args.self.now c.self.inside.stream c.self.inside.stage Ended c.self.view_is ended))

pub invariant_of-self : goal.invariant_of-self
invariant_of-self c =
    let can = can_go_on c.self.inside.stage c.self.inside.stream c.self.invariant c.in_default.not-Refused (λ ended. c.requires (stage_at c.args.self.now c.self.inside.stream c.self.inside.stage Ended c.self.view_is ended)) in
    kept_after_feed can.0 can.1 c.args.bytes.now c.feed-fed.result c.feed-fed.new.self c.stage_after-self-inside.result c.args.out.now.items c.feed-fed.new.out.items c.stage_after-self-inside.ensures (c.feed-fed.ensures can.0 can.1 can.2)

pub returns : goal.returns
returns c = record {
  feeds = λ rules before stands.
      feeds_after rules before c.args.bytes.now c.feed-fed.result c.feed-fed.new.self c.stage_after-self-inside.result c.args.out.now.items c.feed-fed.new.out.items c.stage_after-self-inside.ensures
      (c.feed-fed.ensures rules before (stands_at c.args.self.now c.self.inside.stream c.self.inside.stage rules false before c.self.view_is stands));
  stays_open = stays_open c.feed-fed.result c.stage_after-self-inside.result c.stage_after-self-inside.ensures;
  refuses = refuses_after c.feed-fed.result c.stage_after-self-inside.result Open c.feed-fed.new.self c.stage_after-self-inside.ensures;
  refused = λ fault refused. absurd (c.in_default.not-Refused fault (own_stage c.args.self.now c.self.inside.stream c.self.inside.stage (Refused fault) c.self.view_is refused));
}
