-- To be believed: what a run leaves of its sources and sinks, by its command.
use Rattle.std.specs.Prelude.{ℕ, List, Option, Some}
use Rattle.screen_online.specs.Online.{PerformsOnline}
use Rattle.screen_steps.specs.Performance.{Performs}
use Rattle.screen_words.specs.declared.command.Command.{Command}
use Rattle.screen_words.specs.declared.command.Command.TheVariants.{Online}
use Rattle.screen_words.specs.declared.ends.Inputs.{Inputs}
use Rattle.screen_words.specs.declared.ends.Outputs.{Outputs}
use Rattle.screen_words.specs.declared.status.Ending.{Ending}
use Rattle.screen_tool.specs.Answers.{Answers}

module _ {S K : Type 0} (left : S → Option (List ℕ)) (source_faults : S → ℕ) (held : K → Option (List ℕ)) (sink_faults : K → ℕ) where
  -- `online` writes as it reads. Every other command reads all that it reads before it writes.
  abbrev pub Leaves : Option Command → Inputs S → Inputs S → Outputs K → Outputs K → Ending → Type 0
  Leaves (Some Online) ins ins_now outs outs_now ending = PerformsOnline left source_faults held sink_faults ins ins_now outs outs_now ending
  Leaves command ins ins_now outs outs_now ending = Performs left source_faults held sink_faults (Answers command) ins ins_now outs outs_now ending
