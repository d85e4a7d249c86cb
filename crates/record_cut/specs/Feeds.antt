-- To be believed: what a cutter answers to the bytes of a text and to its end.
use Rattle.std.specs.Prelude.{◌≡◌, ℕ, ◌-◌, List, [], ◌∷◌, ◌++◌, take, length, Option, Some, None, Result, Ok, Err}
use Rattle.record_cut.specs.Records.{Fault, records}
use Rattle.record_cut.specs.Ended.{so_far, ended}
use Rattle.record_cut.specs.StandsFor.{StandsFor}
use Rattle.record_cut.specs.declared.fault.CutFault.{CutFault}
use Rattle.record_cut.specs.declared.fault.CutFault.TheVariants.{BadQuote, RecordTooLong, OpenQuote, Memory}
use Rattle.record_cut.specs.declared.cutter.Cutter.{Cutter}
use Rattle.record_cut.specs.declared.taken.Taken.{Taken}

-- The bytes have become longer by the piece: the cutter stands for them, these records have come, and there
-- is no fault.
pub record GoesOn (sep : ℕ) (bytes piece : List ℕ) (added : List (List (List ℕ))) (cutter : Cutter) : Type 0 where
  pub stands : StandsFor cutter sep (bytes ++ piece)
  pub grown : so_far sep (bytes ++ piece) ≡ record { records = (so_far sep bytes).records ++ added; fault = None }

-- the bytes of the piece before its last
abbrev pub front_of : List ℕ → List ℕ
front_of piece = take (length piece - 1) piece

-- the last byte of the piece ends a record with these fields, and no byte before it ends one
pub record EndsRecord (sep : ℕ) (bytes piece : List ℕ) (fields : List (List ℕ)) (cutter : Cutter) : Type 0 where
  pub goes_on : GoesOn sep bytes piece (fields ∷ []) cutter
  pub none_before : so_far sep (bytes ++ front_of piece) ≡ so_far sep bytes

-- whatever follows, the fault stands at the last byte of the piece, and no byte before it ends a record
pub record FailsAt (sep : ℕ) (bytes piece : List ℕ) (fault : CutFault) : Type 0 where
  pub none_before : so_far sep (bytes ++ front_of piece) ≡ so_far sep bytes
  pub stands : (more : List ℕ) → records sep ((bytes ++ piece) ++ more) ≡ record { records = (so_far sep bytes).records; onward = Fault fault (length (bytes ++ piece) - 1) }

-- The answer to a piece after these bytes: none that the piece ends or refuses, the fields of a record
-- exactly where its last byte ends that record, and a refusal exactly where the fault stands at its last
-- byte. Want of memory may come at any byte.
abbrev pub Feeds : ℕ → List ℕ → List ℕ → Result (Option (List (List ℕ))) CutFault → Cutter → Type 0
Feeds sep bytes piece (Ok None) cutter = GoesOn sep bytes piece [] cutter
Feeds sep bytes piece (Ok (Some fields)) cutter = EndsRecord sep bytes piece fields cutter
Feeds sep bytes piece (Err BadQuote) cutter = FailsAt sep bytes piece BadQuote
Feeds sep bytes piece (Err RecordTooLong) cutter = FailsAt sep bytes piece RecordTooLong
Feeds sep bytes piece (Err OpenQuote) cutter = ⊥
Feeds sep bytes piece (Err Memory) cutter = Unit {0}

-- what a call with these bytes takes after a refusal: the first byte, which is refused again
abbrev pub taken_after : CutFault → List ℕ → Taken
taken_after fault [] = record { count = 0; answer = Ok None }
taken_after fault (byte ∷ rest) = record { count = 1; answer = Err fault }

-- the end of these bytes ends these records and is not refused, and the cutter stands for the empty text again
pub record Finishes (sep : ℕ) (bytes : List ℕ) (last : List (List (List ℕ))) (cutter : Cutter) : Type 0 where
  pub no_fault : (so_far sep bytes).fault ≡ None
  pub whole : ended sep bytes ≡ record { records = (so_far sep bytes).records ++ last; fault = None }
  pub stands : StandsFor cutter sep []

-- the fault stands at the end of these bytes, and at none of them
pub record FailsAtEnd (sep : ℕ) (bytes : List ℕ) (fault : CutFault) : Type 0 where
  pub no_fault : (so_far sep bytes).fault ≡ None
  pub whole : ended sep bytes ≡ record { records = (so_far sep bytes).records; fault = Some fault }

-- the answer to the end of the text after these bytes
abbrev pub Ends : ℕ → List ℕ → Result (Option (List (List ℕ))) CutFault → Cutter → Type 0
Ends sep bytes (Ok None) cutter = Finishes sep bytes [] cutter
Ends sep bytes (Ok (Some fields)) cutter = Finishes sep bytes (fields ∷ []) cutter
Ends sep bytes (Err BadQuote) cutter = FailsAtEnd sep bytes BadQuote
Ends sep bytes (Err OpenQuote) cutter = FailsAtEnd sep bytes OpenQuote
Ends sep bytes (Err RecordTooLong) cutter = ⊥
Ends sep bytes (Err Memory) cutter = Unit {0}
