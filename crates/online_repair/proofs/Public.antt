-- What a repair keeps and answers, by what its stream does.
use Rattle.std.proofs.Common.{◌≡◌, ℕ, Bool, true, false, List, [], ◌++◌, refl, sym, ap, ◌∙◌, subst, append-nil}
use Rattle.std.specs.Prelude.{IfErr, OnOk, Result, Ok, Err}
use Rattle.rule_file.specs.declared.rules.Rules.{Rules}
use Rattle.online_repair.specs.Feeds.{Feeds}
use Rattle.online_repair.specs.Stages.{stage_after}
use Rattle.online_repair.specs.StandsFor.{CanGoOn, HasEnded, HasRefused, IsKept, IsOver, OnlineView, StandsFor, StreamStands}
use Rattle.online_repair.specs.Streams as stream
use Rattle.online_repair.specs.declared.fault.OnlineFault.{OnlineFault}
use Rattle.online_repair.specs.declared.online.Stage.{Stage}
use Rattle.online_repair.specs.declared.online.Stage.TheVariants.{Open, Refused, Ended}
use Rattle.online_repair.specs.declared.stream.Stream.{Stream}

abbrev pub view_of : Stream → Stage → OnlineView
view_of stream stage = record { stream = stream; stage = stage }

-- ---- before

pub can_go_on : (stage : Stage) (stream : Stream) → IsKept stage stream → ((fault : OnlineFault) → stage ≡ Refused fault → ⊥) → (stage ≡ Ended → ⊥) → CanGoOn stream
can_go_on Open stream kept not_refused not_ended = kept
can_go_on (Refused fault) stream kept not_refused not_ended = absurd (not_refused fault refl)
can_go_on Ended stream kept not_refused not_ended = absurd (not_ended refl)

refused_open : (fault : OnlineFault) → Refused fault ≡ Open → ⊥
refused_open fault e = cc

-- a repair that has refused stands for nothing
pub refused_stands : (online : OnlineView) (rules : Rules) (bytes : List ℕ) (fault : OnlineFault) → online.stage ≡ Refused fault → StandsFor online rules false bytes → ⊥
refused_stands online rules bytes fault refused stands = refused_open fault (sym refused ∙ stands.stage_is)

same_refused : (one other : OnlineFault) → Refused one ≡ Refused other → one ≡ other
same_refused one other e = cc

pub refusal_is : (stage : Stage) (one other : OnlineFault) → stage ≡ Refused one → stage ≡ Refused other → one ≡ other
refusal_is stage one other e f = same_refused one other (sym e ∙ f)

pub refused_not_ended : (stage : Stage) (fault : OnlineFault) → stage ≡ Refused fault → stage ≡ Ended → ⊥
refused_not_ended stage fault e f = let g : Refused fault ≡ Ended = sym e ∙ f in cc

-- ---- after

pub kept_after_feed : (rules : Rules) (before piece : List ℕ) (result : Result (Unit {0}) OnlineFault) (new : Stream) (stage : Stage) (text now : List ℕ) → stage ≡ stage_after result Open → stream.Feeds rules before piece result new text now → IsKept stage new
kept_after_feed rules before piece (Ok done) new stage text now e feeds =
    let K : Stage → Type 0 = λ s. IsKept s new in
    subst K (sym e) (rules, before ++ piece, feeds.0)
kept_after_feed rules before piece (Err fault) new stage text now e feeds =
    let K : Stage → Type 0 = λ s. IsKept s new in
    subst K (sym e) tt

pub kept_after_finish : (result : Result (Unit {0}) OnlineFault) (new : Stream) (stage : Stage) → stage ≡ stage_after result Ended → IsKept stage new
kept_after_finish (Ok done) new stage e =
    let K : Stage → Type 0 = λ s. IsKept s new in
    subst K (sym e) tt
kept_after_finish (Err fault) new stage e =
    let K : Stage → Type 0 = λ s. IsKept s new in
    subst K (sym e) tt

pub feeds_after : (rules : Rules) (before piece : List ℕ) (result : Result (Unit {0}) OnlineFault) (new : Stream) (stage : Stage) (text now : List ℕ) → stage ≡ stage_after result Open → stream.Feeds rules before piece result new text now → Feeds rules false before piece result (view_of new stage) text now
feeds_after rules before piece (Ok done) new stage text now e feeds = (record { stage_is = e; stream = feeds.0 }, feeds.1)
feeds_after rules before piece (Err fault) new stage text now e feeds = (tt, feeds.1)

pub ends_after : (rules : Rules) (bytes : List ℕ) (result : Result (Unit {0}) OnlineFault) (new : Stream) (stage : Stage) (text now : List ℕ) → stage ≡ stage_after result Ended → stream.Finishes rules bytes result new text now → Feeds rules true bytes [] result (view_of new stage) text now
ends_after rules bytes (Ok done) new stage text now e ends =
    let O : List ℕ → Type 0 = λ bs. IsOver new rules bs in
    (record { stage_is = e; stream = subst O (sym (append-nil bytes)) ends.0 }, ends.1)
ends_after rules bytes (Err fault) new stage text now e ends = (tt, ends.1)

open_or_refused : (result : Result (Unit {0}) OnlineFault) → stage_after result Open ≡ Ended → ⊥
open_or_refused (Ok done) e = cc
open_or_refused (Err fault) e = cc

pub stays_open : (result : Result (Unit {0}) OnlineFault) (stage : Stage) → stage ≡ stage_after result Open → stage ≡ Ended → ⊥
stays_open result stage e f = open_or_refused result (sym e ∙ f)

pub refuses_after : (result : Result (Unit {0}) OnlineFault) (stage then_stage : Stage) (new : Stream) → stage ≡ stage_after result then_stage → IfErr result (HasRefused (view_of new stage))
refuses_after (Ok done) stage then_stage new e = tt
refuses_after (Err fault) stage then_stage new e = e

pub ended_after : (result : Result (Unit {0}) OnlineFault) (stage : Stage) (new : Stream) → stage ≡ stage_after result Ended → OnOk result (HasEnded (view_of new stage))
ended_after (Ok done) stage new e = e
ended_after (Err fault) stage new e = tt

-- ---- the fields of a repair

pub stands_at : (online : OnlineView) (stream : Stream) (stage : Stage) (rules : Rules) (ended : Bool) (bytes : List ℕ) → view_of stream stage ≡ online → StandsFor online rules ended bytes → StreamStands ended stream rules bytes
stands_at online stream stage rules ended bytes e stands =
    let S : Stream → Type 0 = λ s. StreamStands ended s rules bytes in
    subst S (sym (ap (λ (v : OnlineView). v.stream) e)) stands.stream

pub stage_at : (online : OnlineView) (stream : Stream) (stage other : Stage) → view_of stream stage ≡ online → stage ≡ other → online.stage ≡ other
stage_at online stream stage other e f = ap (λ (v : OnlineView). v.stage) (sym e) ∙ f

pub own_stage : (online : OnlineView) (stream : Stream) (stage other : Stage) → view_of stream stage ≡ online → online.stage ≡ other → stage ≡ other
own_stage online stream stage other e f = ap (λ (v : OnlineView). v.stage) e ∙ f
