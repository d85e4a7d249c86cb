-- For proofs: what a record of which a part has been read makes of the bytes that follow, by the grammar.
use Rattle.std.specs.Prelude.{◌≡◌, ℕ, ◌+◌, List, [], ◌∷◌, ◌++◌, length, Some}
use Rattle.record_cut.specs.Bytes.{quote, carriage_return}
use Rattle.record_cut.specs.Field.{led_by, led_if_any, quoted, plain, after_field}
use Rattle.record_cut.specs.Record.{RecordAt, with_fields, by_what_follows, by_field, record_at, Nothing}
use Rattle.record_cut.specs.Records.{Cut, only, Rest, by_record, records_from, text_from}
use Rattle.record_cut.specs.Drafted.{Drafted}
use Rattle.record_cut.specs.declared.phase.Place.{Place}
use Rattle.record_cut.specs.declared.phase.Place.TheVariants.{Field, Plain, PlainCr, Quoted, QuoteInQuoted, ClosedCr}
use Rattle.record_cut.specs.declared.phase.Phase.{Phase}
use Rattle.record_cut.specs.declared.phase.Phase.TheVariants.{Input, MarkOne, MarkTwo, Record, RecordCr, Inside, Refused}

-- an unquoted field began with the draft's bytes
unfoldable pub from_plain : ℕ → Drafted → List ℕ → RecordAt
from_plain sep draft more = with_fields draft.fields (by_field (record_at sep) sep (Some (led_by draft.field (plain sep more))))

-- a quoted field began with the draft's bytes
unfoldable pub from_quoted : ℕ → Drafted → List ℕ → RecordAt
from_quoted sep draft more = with_fields draft.fields (by_field (record_at sep) sep (led_if_any draft.field (quoted more)))

-- the closing quote of the draft's field was read
unfoldable pub from_closed : ℕ → Drafted → List ℕ → RecordAt
from_closed sep draft more = with_fields draft.fields (by_what_follows (record_at sep) draft.field (after_field sep more))

-- the next byte stands at this place; a carriage return or a quote that waits for it has yet to be read
abbrev pub continued : ℕ → Place → Drafted → List ℕ → RecordAt
continued sep Field draft more = with_fields draft.fields (record_at sep more)
continued sep Plain draft more = from_plain sep draft more
continued sep PlainCr draft more = from_plain sep draft (carriage_return ∷ more)
continued sep Quoted draft more = from_quoted sep draft more
continued sep QuoteInQuoted draft more = from_quoted sep draft (quote ∷ more)
continued sep ClosedCr draft more = from_closed sep draft (carriage_return ∷ more)

-- The cut of the bytes of the present record and of those that follow, of a text of `all` bytes: nothing
-- but a mark's bytes or a carriage return has been read of the record, or `count` bytes.
abbrev pub resumed : ℕ → Phase → Drafted → ℕ → ℕ → List ℕ → Cut
resumed sep Input draft count all more = text_from sep all (draft.field ++ more)
resumed sep MarkOne draft count all more = text_from sep all (draft.field ++ more)
resumed sep MarkTwo draft count all more = text_from sep all (draft.field ++ more)
resumed sep Record draft count all more = records_from sep all (draft.field ++ more)
resumed sep RecordCr draft count all more = records_from sep all (draft.field ++ more)
resumed sep (Inside place) draft count all more = by_record (records_from sep all) all (count + length more) (continued sep place draft more)
resumed sep (Refused fault) draft count all more = only (Rest Nothing)

-- at the beginning of a field no byte of it has been read
abbrev pub FitsPlace : Place → Drafted → Type 0
FitsPlace Field draft = draft.field ≡ []
FitsPlace Plain draft = Unit {0}
FitsPlace PlainCr draft = Unit {0}
FitsPlace Quoted draft = Unit {0}
FitsPlace QuoteInQuoted draft = Unit {0}
FitsPlace ClosedCr draft = Unit {0}

-- these bytes are all that has been read of the record
pub record HasOnly (bytes : List ℕ) (draft : Drafted) (count : ℕ) : Type 0 where
  pub fields : draft.fields ≡ []
  pub field : draft.field ≡ bytes
  pub size : count ≡ length bytes

abbrev pub Fits : Phase → Drafted → ℕ → Type 0
Fits Input draft count = HasOnly [] draft count
Fits MarkOne draft count = HasOnly (239 ∷ []) draft count
Fits MarkTwo draft count = HasOnly (239 ∷ 187 ∷ []) draft count
Fits Record draft count = HasOnly [] draft count
Fits RecordCr draft count = HasOnly (carriage_return ∷ []) draft count
Fits (Inside place) draft count = FitsPlace place draft
Fits (Refused fault) draft count = ⊥
