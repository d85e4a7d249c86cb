-- For proofs: what a cutter's fields have to do with the bytes that it has read. What it answers is in Feeds.
use Rattle.std.specs.Prelude.{◌≡◌, ℕ, List, [], ◌++◌, length}
use Rattle.record_cut.specs.Records.{with_records, records}
use Rattle.record_cut.specs.Resumed.{resumed, Fits, HasOnly}
use Rattle.record_cut.specs.declared.fault.CutFault.{CutFault}
use Rattle.record_cut.specs.declared.phase.Phase.{Phase}
use Rattle.record_cut.specs.declared.phase.Phase.TheVariants.{Refused}
use Rattle.record_cut.specs.declared.cutter.Cutter.{Cutter}

-- The cutter has read these bytes with this separator and has not refused: whatever bytes follow, the
-- records of the whole text are those of these bytes, and then what the cutter's fields make of the rest.
pub record StandsFor (cutter : Cutter) (sep : ℕ) (bytes : List ℕ) : Type 0 where
  pub separator : cutter.sep ≡ sep
  pub fits : Fits cutter.phase cutter.draft cutter.count
  pub follows : (more : List ℕ) → records sep (bytes ++ more) ≡ with_records (records sep bytes).records (resumed sep cutter.phase cutter.draft cutter.count (length (bytes ++ more)) more)

-- the cutter has answered this refusal, and answers it for ever
abbrev pub HasRefused : Cutter → CutFault → Type 0
HasRefused cutter fault = cutter.phase ≡ Refused fault

-- nothing has been read in this phase
pub record HasBegun (at : Phase) (cutter : Cutter) : Type 0 where
  pub phase : cutter.phase ≡ at
  pub only : HasOnly [] cutter.draft cutter.count
