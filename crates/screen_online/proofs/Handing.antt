-- What is left once a piece, or the end, was given to the repair and its text was written.
use Rattle.std.proofs.Common.{◌≡◌, ℕ, Bool, List, [], Option, Result, Ok, Err, subst}
use Rattle.online_repair.specs.Feeds.{Feeds}
use Rattle.online_repair.specs.StandsFor.{OnlineView}
use Rattle.online_repair.specs.declared.fault.OnlineFault.{OnlineFault}
use Rattle.online_repair.specs.declared.fault.OnlineFault.TheVariants as fault
use Rattle.rule_file.specs.declared.rules.Rules.{Rules}
use Rattle.screen_online.specs.Steps.{Hands, HandsOn}
use Rattle.screen_words.specs.declared.status.Ending.{Ending}
use Rattle.screen_words.specs.declared.status.Ending.TheVariants.{Ended, ReadFault, WriteFault, Memory}

module _ {K : Type 0} (held : K → Option (List ℕ)) (sink_faults : K → ℕ) where
  -- the repair answered so, and what it answered was handed on
  answered : (rules : Rules) (ended : Bool) (came piece : List ℕ) (fed given : Result (Unit {0}) OnlineFault) (online : OnlineView) (text : List ℕ)
      → fed ≡ given → Feeds rules ended came piece fed online [] text → Feeds rules ended came piece given online [] text
  answered rules ended came piece fed given online text e feeds =
      let F : Result (Unit {0}) OnlineFault → Type 0 = λ r. Feeds rules ended came piece r online [] text in subst F e feeds

  pub hands : (rules : Rules) (ended : Bool) (came piece : List ℕ) (fed : Result (Unit {0}) OnlineFault) (online : OnlineView) (text : List ℕ) (sink now : K) (result : Result (Unit {0}) Ending)
      → Feeds rules ended came piece fed online [] text → HandsOn held sink_faults fed text sink now result → Hands held sink_faults rules ended came piece online text sink now result
  hands rules ended came piece fed online text sink now (Ok done) feeds handed =
      let given = answered rules ended came piece fed (Ok tt) online text handed.0 feeds in (given.0, given.1, handed.1)
  hands rules ended came piece fed online text sink now (Err (Ended outcome)) feeds handed =
      let given = answered rules ended came piece fed (Err handed.0) online text handed.1 feeds in (handed.0, handed.2, given.1, handed.3)
  hands rules ended came piece fed online text sink now (Err ReadFault) feeds handed = absurd handed
  hands rules ended came piece fed online text sink now (Err WriteFault) feeds handed = (fed, handed.0, feeds.1, handed.1)
  hands rules ended came piece fed online text sink now (Err Memory) feeds handed =
      let given = answered rules ended came piece fed (Err fault.Memory) online text handed.0 feeds in (given.1, handed.1)

  -- the text was empty before, and the bytes that were written are those of the text
  pub hands_text : (rules : Rules) (ended : Bool) (came piece : List ℕ) (fed : Result (Unit {0}) OnlineFault) (online : OnlineView) (old text seen : List ℕ) (sink now : K) (result : Result (Unit {0}) Ending)
      → old ≡ [] → seen ≡ text → Feeds rules ended came piece fed online old text → HandsOn held sink_faults fed seen sink now result
      → Hands held sink_faults rules ended came piece online text sink now result
  hands_text rules ended came piece fed online old text seen sink now result empty same feeds handed =
      let F : List ℕ → Type 0 = λ bytes. Feeds rules ended came piece fed online bytes text in
      let H : List ℕ → Type 0 = λ bytes. HandsOn held sink_faults fed bytes sink now result in
      hands rules ended came piece fed online text sink now result (subst F empty feeds) (subst H same handed)
