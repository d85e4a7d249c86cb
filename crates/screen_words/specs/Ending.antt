-- To be believed: the status of each ending, and the number of each status.
use Rattle.std.specs.Prelude.{◌≡◌, ◌⊎◌, ℕ}
use Rattle.screen_words.specs.declared.status.Status.{Status}
use Rattle.screen_words.specs.declared.status.Status.TheVariants as status
use Rattle.screen_words.specs.declared.status.Outcome.{Outcome}
use Rattle.screen_words.specs.declared.status.Outcome.TheVariants.{Done, NoSeries, Usage, RulesRefused, NotOnline, ReadingsRefused, TooManyBounds, WindowFull, NoWholeStep, LeavesRange, CertRefused}
use Rattle.screen_words.specs.declared.status.Ending.{Ending}
use Rattle.screen_words.specs.declared.status.Ending.TheVariants.{Ended, ReadFault, WriteFault, Memory}

abbrev pub code_of : Status → ℕ
code_of status.Done = 0
code_of status.NoSeries = 1
code_of status.Usage = 2
code_of status.RulesRefused = 3
code_of status.ReadingsRefused = 4
code_of status.ReadFault = 5
code_of status.WriteFault = 6
code_of status.Memory = 7
code_of status.CertRefused = 8

abbrev pub outcome_status : Outcome → Status
outcome_status Done = status.Done
outcome_status NoSeries = status.NoSeries
outcome_status Usage = status.Usage
outcome_status (RulesRefused fault) = status.RulesRefused
outcome_status (NotOnline rule) = status.RulesRefused
outcome_status (ReadingsRefused fault) = status.ReadingsRefused
outcome_status TooManyBounds = status.ReadingsRefused
outcome_status (WindowFull row) = status.ReadingsRefused
outcome_status (NoWholeStep row col) = status.ReadingsRefused
outcome_status (LeavesRange row col) = status.ReadingsRefused
outcome_status (CertRefused fault) = status.CertRefused

abbrev pub status_of : Ending → Status
status_of (Ended outcome) = outcome_status outcome
status_of ReadFault = status.ReadFault
status_of WriteFault = status.WriteFault
status_of Memory = status.Memory

-- The status is that of the outcome, unless a read or a write failed or memory ran out.
abbrev pub IsStatusFor : Outcome → Status → Type 0
IsStatusFor outcome given =
    (given ≡ outcome_status outcome) ⊎ ((given ≡ status.ReadFault) ⊎ ((given ≡ status.WriteFault) ⊎ (given ≡ status.Memory)))

-- The status is the one that is due, unless there was such a read fault or such a write fault, or memory ran out.
abbrev pub IsUnless : Type 0 → Type 0 → Status → Status → Type 0
IsUnless ReadFaulted WriteFaulted due given =
    (given ≡ due) ⊎ (((given ≡ status.ReadFault) × ReadFaulted) ⊎ (((given ≡ status.WriteFault) × WriteFaulted) ⊎ (given ≡ status.Memory)))
