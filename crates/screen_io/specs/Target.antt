-- To be believed: what a contract sees of an end that meets the world.
use Rattle.std.specs.Prelude.{ℕ, List}

-- What the bytes come from or go to. A file is told by its name, as bytes.
pub data Target : Type 0 where
  FileNamed : (name : List ℕ) → Target
  StandardInput : Target
  StandardOutput : Target
  StandardError : Target
  NoTarget : Target

-- An end: what it reads from or writes to, and how many of its calls have failed.
pub record RealEnd : Type 0 where
  pub target : Target
  pub faults : ℕ

-- An end before its first call.
abbrev pub fresh : Target → RealEnd
fresh target = record { target = target; faults = 0 }
