-- To be believed: what the command `online` is for, in one piece.
use Rattle.std.specs.Prelude.{◌≡◌, ◌⊎◌, ℕ, ◌≤◌, List, length, true, Option, Some, None}
use Rattle.online_repair.specs.Laws.{RepairsCostLeast, RepairsKeepRates}
use Rattle.online_repair.specs.NotOnline.{not_online}
use Rattle.online_repair.specs.Output.{IsOutput, Output}
use Rattle.online_repair.specs.declared.fault.OnlineFault.{OnlineFault}
use Rattle.rule_file.specs.File.{Spells as SpellsRules}
use Rattle.rule_file.specs.declared.rules.Rules.{Rules}
use Rattle.screen_io.specs.Faults.{Rose}
use Rattle.screen_io.specs.Sink.{Gains}
use Rattle.screen_online.specs.declared.stream.TheConstants.{MOST_BYTES}
use Rattle.screen_words.specs.Ending.{IsUnless}
use Rattle.screen_words.specs.declared.ends.Inputs.{Inputs}
use Rattle.screen_words.specs.declared.ends.Outputs.{Outputs}
use Rattle.screen_words.specs.declared.status.Status.{Status}
use Rattle.screen_words.specs.declared.status.Status.TheVariants.{Done, ReadingsRefused}
use Rattle.screen_tool.specs.Headline.{CountsReadFault}

module _ {S K : Type 0} (left : S → Option (List ℕ)) (source_faults : S → ℕ) (held : K → Option (List ℕ)) (sink_faults : K → ℕ) where
  -- Apart from a counted read fault, a counted write fault of the output and want of memory, 0 is answered exactly where none of
  -- the readings is refused, and 4 exactly where one is. With either the output gained the text of the repair, up to what is
  -- refused. In that text each repaired value is one of the least local cost, and any two of a sensor obey its speed rule.
  pub record DecidesOnline (out : Output) (ins ins_now : Inputs S) (outs outs_now : Outputs K) (given : Status) : Type 0 where
    pub whole : out.fault ≡ None → IsUnless (CountsReadFault source_faults ins ins_now) (Rose (sink_faults outs.out) (sink_faults outs_now.out)) Done given
    pub refused : (fault : OnlineFault) → out.fault ≡ Some fault
        → IsUnless (CountsReadFault source_faults ins ins_now) (Rose (sink_faults outs.out) (sink_faults outs_now.out)) ReadingsRefused given
    pub writes : (given ≡ Done) ⊎ (given ≡ ReadingsRefused) → Gains (held outs.out) out.text (held outs_now.out)
    pub costs_least : RepairsCostLeast
    pub keeps_rates : RepairsKeepRates

  -- So it is over every rule file that is accepted and names one speed rule at most for each sensor and no other rule, and over
  -- all readings of at most 2^40 bytes.
  abbrev pub HeadlineOnline : Inputs S → Inputs S → Outputs K → Outputs K → Status → Type 0
  HeadlineOnline ins ins_now outs outs_now given =
      (rule_bytes readings : List ℕ) (rules : Rules) (out : Output)
      → left ins.rules ≡ Some rule_bytes → left ins.readings ≡ Some readings
      → SpellsRules rule_bytes rules → not_online rules ≡ None → length readings ≤ MOST_BYTES → IsOutput rules true readings out
      → DecidesOnline out ins ins_now outs outs_now given
