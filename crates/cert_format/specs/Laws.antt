-- To be believed: laws of certificates and their texts.
use Rattle.std.specs.Prelude.{◌≡◌, ℕ, ◌^◌, ◌<◌, ◌≤◌, unsigned_abs, List, length, Result, Ok}
use Rattle.std.specs.List.{AllByRecursion}
use Rattle.screen_model.specs.declared.bound.BoundName.{BoundName}
use Rattle.screen_model.specs.declared.bound.FlowItem.{FlowItem}
use Rattle.cert_format.specs.declared.cert.SetLine.{SetLine}
use Rattle.cert_format.specs.declared.cert.Cert.{Cert}
use Rattle.cert_format.specs.declared.cert.Cert.TheVariants.{Repair, Priced, NoSeries}
use Rattle.cert_format.specs.declared.fault.CertRead.{CertRead}
use Rattle.cert_format.specs.declared.limits.TheConstants.{LONGEST}
use Rattle.cert_format.specs.declared.line.Line.TheVariants.{Set, Flow, Step}
use Rattle.cert_format.specs.Line.{IsSet, IsItem, IsName, text_of_line}
use Rattle.cert_format.specs.Cert.{HasText, text_of_cert}
use Rattle.cert_format.specs.Reads.{Reads, Spells}

-- A text has one answer only.
abbrev pub OneAnswer : Type 0
OneAnswer = (bytes : List ℕ) (one other : Result Cert CertRead) → Reads bytes one → Reads bytes other → one ≡ other

-- Every text has an answer.
abbrev pub AnAnswer : Type 0
AnAnswer = (bytes : List ℕ) → (answer : Result Cert CertRead) × Reads bytes answer

-- Two certificates with one text are equal, and two texts of one certificate are equal.
abbrev pub OneSpelling : Type 0
OneSpelling = ((bytes : List ℕ) (one other : Cert) → Spells bytes one → Spells bytes other → one ≡ other)
    × ((one other : List ℕ) (cert : Cert) → Spells one cert → Spells other cert → one ≡ other)

-- What is written is read as the same certificate, and as nothing else.
abbrev pub RoundTrip : Type 0
RoundTrip = (cert : Cert) → HasText cert
    → Spells (text_of_cert cert) cert × ((answer : Result Cert CertRead) → Reads (text_of_cert cert) answer → answer ≡ Ok cert)

-- ---- how long a text is

-- at most 10^15 in size
abbrev pub HasShortValue : SetLine → Type 0
HasShortValue line = unsigned_abs line.value ≤ 10 ^ 15

-- of at most ten digits
abbrev pub HasShortAmount : FlowItem → Type 0
HasShortAmount item = unsigned_abs item.amount < 10 ^ 10

abbrev pub AreFew : List SetLine → List FlowItem → Type 0
AreFew sets flow = (length sets ≤ 400000) × (length flow ≤ 4000000)

abbrev pub AreShort : List SetLine → List FlowItem → Type 0
AreShort sets flow = AllByRecursion HasShortValue sets × AllByRecursion HasShortAmount flow

-- at most 400,000 set lines and 4,000,000 flow lines or steps
abbrev pub HasFewLines : Cert → Type 0
HasFewLines (Repair total sets flow) = AreFew sets flow
HasFewLines (Priced total paid sets flow) = AreFew sets flow
HasFewLines (NoSeries steps) = length steps ≤ 4000000

-- values of at most 10^15 in size, and amounts of at most ten digits
abbrev pub HasShortLines : Cert → Type 0
HasShortLines (Repair total sets flow) = AreShort sets flow
HasShortLines (Priced total paid sets flow) = AreShort sets flow
HasShortLines (NoSeries steps) = Unit {0}

-- With its line feed a short set line has at most 33 bytes, a short flow line 44 and a step line 33. A text of few lines is
-- not too long to be read, and where they are short it has less than 190,000,000 bytes.
pub record ShortTexts : Type 0 where
  pub set_line : (line : SetLine) → IsSet line → HasShortValue line → length (text_of_line (Set line)) < 33
  pub flow_line : (item : FlowItem) → IsItem item → HasShortAmount item → length (text_of_line (Flow item)) < 44
  pub step_line : (name : BoundName) → IsName name → length (text_of_line (Step name)) < 33
  pub text : (cert : Cert) → HasText cert → HasFewLines cert → HasShortLines cert → length (text_of_cert cert) < 190000000
  pub readable : (cert : Cert) → HasText cert → HasFewLines cert → length (text_of_cert cert) ≤ LONGEST
