-- To be believed: what a text is cut into, one that has ended and one that may go on.
use Rattle.std.specs.Prelude.{◌≡◌, ℕ, IsTrue, List, [], ◌∷◌, ◌++◌, Option, Some, None}
use Rattle.words.specs.Separators.{is_separator}
use Rattle.record_cut.specs.Record.{Nothing, Fields, OpenField, CrAfterQuote}
use Rattle.record_cut.specs.Records.{Onward, Fault, Rest, Cut, records}
use Rattle.record_cut.specs.declared.fault.CutFault.{CutFault}
use Rattle.record_cut.specs.declared.fault.CutFault.TheVariants.{BadQuote, OpenQuote}

-- the records, and the fault after them, if there is one
pub record Ended : Type 0 where
  pub records : List (List (List ℕ))
  pub fault : Option CutFault

-- the record that the end of the text ends, which needs no line break
abbrev pub last_record : Onward → List (List (List ℕ))
last_record (Fault fault offset) = []
last_record (Rest Nothing) = []
last_record (Rest (Fields fields)) = fields ∷ []
last_record (Rest OpenField) = []
last_record (Rest CrAfterQuote) = []

-- the fault at a byte
abbrev pub fault_at_byte : Onward → Option CutFault
fault_at_byte (Fault fault offset) = Some fault
fault_at_byte (Rest unended) = None

-- the fault at a byte or, where there is none, at the end of the text
abbrev pub fault_at_all : Onward → Option CutFault
fault_at_all (Fault fault offset) = Some fault
fault_at_all (Rest Nothing) = None
fault_at_all (Rest (Fields fields)) = None
fault_at_all (Rest OpenField) = Some OpenQuote
fault_at_all (Rest CrAfterQuote) = Some BadQuote

abbrev pub so_far_of : Cut → Ended
so_far_of cut = record { records = cut.records; fault = fault_at_byte cut.onward }

abbrev pub ended_of : Cut → Ended
ended_of cut = record { records = cut.records ++ last_record cut.onward; fault = fault_at_all cut.onward }

-- of a text that may go on: the records whose line break stands in it, and a fault at one of its bytes
abbrev pub so_far : ℕ → List ℕ → Ended
so_far sep bytes = so_far_of (records sep bytes)

-- of a text that has ended
abbrev pub ended : ℕ → List ℕ → Ended
ended sep bytes = ended_of (records sep bytes)

-- after a fault at a byte nothing changes, whatever follows and wherever the text ends
pub record Stays (sep : ℕ) (bytes more : List ℕ) : Type 0 where
  pub may_go_on : so_far sep (bytes ++ more) ≡ so_far sep bytes
  pub has_ended : ended sep (bytes ++ more) ≡ so_far sep bytes

-- a fault at a byte holds whatever follows
abbrev pub FaultsStay : Type 0
FaultsStay = (sep : ℕ) (bytes more : List ℕ) (fault : CutFault) → IsTrue (is_separator sep) → (so_far sep bytes).fault ≡ Some fault → Stays sep bytes more

-- the records of a text so far come first in each longer text
abbrev pub RecordsStay : Type 0
RecordsStay = (sep : ℕ) (bytes more : List ℕ) → IsTrue (is_separator sep) → (later : List (List (List ℕ))) × ((so_far sep (bytes ++ more)).records ≡ (so_far sep bytes).records ++ later)
