-- To be believed: which certificate the bytes of a text spell, or which of its lines is refused.
use Rattle.std.specs.Prelude.{◌≡◌, ℕ, zero, suc, List, ◌++◌, Result, Ok, Err, IsSomeAnd}
use Rattle.cert_format.specs.declared.cert.Cert.{Cert}
use Rattle.cert_format.specs.declared.fault.CertRead.{CertRead}
use Rattle.cert_format.specs.declared.fault.CertRead.TheVariants.{Syntax, Memory}
use Rattle.cert_format.specs.Words.{first_lines}
use Rattle.cert_format.specs.Cert.{HasText, text_of_cert}

-- the certificate has a text, and the bytes are it
pub record IsTextOf (bytes : List ℕ) (cert : Cert) : Type 0 where
  pub has : HasText cert
  pub text : bytes ≡ text_of_cert cert

-- the text of some certificate begins with these bytes
abbrev pub BeginsText : List ℕ → Type 0
BeginsText front = (cert : Cert) × HasText cert × (rest : List ℕ) × (text_of_cert cert ≡ front ++ rest)

-- the bytes have so many lines with their line feeds, and the text of some certificate begins with these
abbrev pub BeginsWell : ℕ → List ℕ → Type 0
BeginsWell n bytes = IsSomeAnd (first_lines n bytes) BeginsText

-- The bytes are no certificate's text. Line n + 1 is refused: the n lines before it begin the text of some
-- certificate, and together with it they do not, or it has no line feed.
pub record IsRefusedAfter (n : ℕ) (bytes : List ℕ) : Type 0 where
  pub no_text : (cert : Cert) → ¬ IsTextOf bytes cert
  pub before : BeginsWell n bytes
  pub here : ¬ BeginsWell (suc n) bytes

-- What the bytes are read as: the certificate that has them as its text, or the refused line, counted from 1. Want of
-- memory is nothing that bytes have.
abbrev pub Reads : List ℕ → Result Cert CertRead → Type 0
Reads bytes (Ok cert) = IsTextOf bytes cert
Reads bytes (Err (Syntax zero)) = ⊥
Reads bytes (Err (Syntax (suc n))) = IsRefusedAfter n bytes
Reads bytes (Err Memory) = ⊥

abbrev pub Spells : List ℕ → Cert → Type 0
Spells bytes cert = Reads bytes (Ok cert)

abbrev pub Refuses : List ℕ → CertRead → Type 0
Refuses bytes fault = Reads bytes (Err fault)
