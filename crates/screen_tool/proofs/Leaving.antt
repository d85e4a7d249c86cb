-- What a run leaves, by its command, and what it performs.
use Rattle.std.proofs.Common.{◌≢◌, ℕ, List, Option, Some, None, refl}
use Rattle.screen_steps.specs.Performance.{Performs}
use Rattle.screen_words.specs.declared.command.Command.{Command}
use Rattle.screen_words.specs.declared.command.Command.TheVariants.{Check, Global, Online, Report, Sample}
use Rattle.screen_words.specs.declared.ends.Inputs.{Inputs}
use Rattle.screen_words.specs.declared.ends.Outputs.{Outputs}
use Rattle.screen_words.specs.declared.status.Ending.{Ending}
use Rattle.screen_words.specs.declared.status.Ending.TheVariants.{Ended}
use Rattle.screen_words.specs.declared.status.Outcome.{Outcome}
use Rattle.screen_tool.specs.Answers.{Answers}
use Rattle.screen_tool.specs.Leaves.{Leaves}

module _ {S K : Type 0} (left : S → Option (List ℕ)) (source_faults : S → ℕ) (held : K → Option (List ℕ)) (sink_faults : K → ℕ) where
  -- a command that is not `online` leaves what it performs
  pub leaves_performed : (command : Option Command) (ins now : Inputs S) (outs outs_now : Outputs K) (how : Ending) → command ≢ Some Online
      → Performs left source_faults held sink_faults (Answers command) ins now outs outs_now how → Leaves left source_faults held sink_faults command ins now outs outs_now how
  leaves_performed (Some Online) ins now outs outs_now how other p = absurd (other refl)
  leaves_performed (Some Global) ins now outs outs_now how other p = p
  leaves_performed (Some Check) ins now outs outs_now how other p = p
  leaves_performed (Some Report) ins now outs outs_now how other p = p
  leaves_performed (Some (Sample rows seed)) ins now outs outs_now how other p = p
  leaves_performed None ins now outs outs_now how other p = p

  -- what comes to an outcome was performed, whatever the command
  pub leaves_ended : (command : Option Command) (ins now : Inputs S) (outs outs_now : Outputs K) (outcome : Outcome)
      → Leaves left source_faults held sink_faults command ins now outs outs_now (Ended outcome) → Performs left source_faults held sink_faults (Answers command) ins now outs outs_now (Ended outcome)
  leaves_ended (Some Online) ins now outs outs_now outcome p = p
  leaves_ended (Some Global) ins now outs outs_now outcome p = p
  leaves_ended (Some Check) ins now outs outs_now outcome p = p
  leaves_ended (Some Report) ins now outs outs_now outcome p = p
  leaves_ended (Some (Sample rows seed)) ins now outs outs_now outcome p = p
  leaves_ended None ins now outs outs_now outcome p = p
