-- To be believed: what is read from a table: at each key a number, a name, what a word means, or nothing.
use Rattle.std.specs.Prelude.{◌≡◌, ℕ, ℤ, pos, neg_ℤ, ◌≤ℤ◌, Bool, ◌==◌, if◌then◌else◌, List, [], ◌∷◌, Option, Some, None}
use Rattle.std.specs.List.{AllZip}
use Rattle.fix_point.specs.declared.scale.Extra.{Extra}
use Rattle.fix_point.specs.declared.scale.TheConstants.{MOST_UNITS}
use Rattle.time_text.specs.declared.form.TimeForm.{TimeForm}
use Rattle.time_text.specs.declared.form.TheConstants.{MOST_TICKS}
use Rattle.rule_keys.specs.declared.key.KeyName.{KeyName}
use Rattle.rule_keys.specs.declared.key.KeyName.TheVariants as key
use Rattle.rule_keys.specs.declared.key.Chosen.{Chosen}
use Rattle.rule_keys.specs.declared.key.Chosen.TheVariants as chosen_as
use Rattle.rule_keys.specs.declared.key.Kind.{Kind}
use Rattle.rule_keys.specs.declared.key.Kind.TheVariants.{Whole, Value, Amount, Rate, Span, Moment, Name, Word}
use Rattle.rule_keys.specs.declared.key.Absent.{Absent}
use Rattle.rule_keys.specs.declared.key.Absent.TheVariants.{Refused, Number, Chosen as ChosenWord, Nothing}
use Rattle.rule_keys.specs.declared.key.Key.{Key}
use Rattle.fix_point.specs.declared.rate.TheConstants.{MOST_MILLIONTHS, MOST_SPAN}
use Rattle.rule_keys.specs.Words.{words, Means}

pub data Meaning : Type 0 where
  number : ℤ → Meaning
  name : List ℕ → Meaning
  chosen : Chosen → Meaning
  nothing : Meaning

abbrev pub key_number : KeyName → ℕ
key_number key.Decimals = 0
key_number key.Time = 1
key_number key.Form = 2
key_number key.Separator = 3
key_number key.Extra = 4
key_number key.Hold = 5
key_number key.Sensor = 6
key_number key.Min = 7
key_number key.Max = 8
key_number key.Per = 9
key_number key.Window = 10
key_number key.Most = 11
key_number key.Over = 12
key_number key.From = 13
key_number key.To = 14
key_number key.Weight = 15
key_number key.First = 16
key_number key.Second = 17
key_number key.Price = 18

abbrev pub is_same_key : KeyName → KeyName → Bool
is_same_key a b = key_number a == key_number b

-- what was read at a key, and nothing where nothing was
abbrev pub meaning_at : KeyName → List (KeyName × Meaning) → Meaning
meaning_at k [] = nothing
meaning_at k (entry ∷ entries) = if is_same_key k entry.0 then entry.1 else meaning_at k entries

abbrev pub number_in : Meaning → ℤ
number_in (number z) = z
number_in (name s) = pos 0
number_in (chosen c) = pos 0
number_in nothing = pos 0

abbrev pub name_in : Meaning → Option (List ℕ)
name_in (name s) = Some s
name_in (number z) = None
name_in (chosen c) = None
name_in nothing = None

abbrev pub form_in : Meaning → Option TimeForm
form_in (chosen (chosen_as.Form form)) = Some form
form_in _ = None

abbrev pub separator_in : Meaning → Option ℕ
separator_in (chosen (chosen_as.Separator separator)) = Some separator
separator_in _ = None

abbrev pub extra_in : Meaning → Option Extra
extra_in (chosen (chosen_as.Extra extra)) = Some extra
extra_in _ = None

-- the number at a key, and 0 where none is
abbrev pub number_at : KeyName → List (KeyName × Meaning) → ℤ
number_at k entries = number_in (meaning_at k entries)

-- the name, the form, the separator and the way with extra decimals at a key, if one is there
abbrev pub name_at : KeyName → List (KeyName × Meaning) → Option (List ℕ)
name_at k entries = name_in (meaning_at k entries)

abbrev pub form_at : KeyName → List (KeyName × Meaning) → Option TimeForm
form_at k entries = form_in (meaning_at k entries)

abbrev pub separator_at : KeyName → List (KeyName × Meaning) → Option ℕ
separator_at k entries = separator_in (meaning_at k entries)

abbrev pub extra_at : KeyName → List (KeyName × Meaning) → Option Extra
extra_at k entries = extra_in (meaning_at k entries)

-- a number within these limits
abbrev pub IsWithin : ℤ → ℤ → Meaning → Type 0
IsWithin least most (number z) = (least ≤ℤ z) × (z ≤ℤ most)
IsWithin least most _ = ⊥

-- a name
abbrev pub IsName : Meaning → Type 0
IsName (name s) = Unit {0}
IsName _ = ⊥

-- what one of the words means
abbrev pub IsMeant : List (List ℕ × Chosen) → Meaning → Type 0
IsMeant some (chosen c) = (text : List ℕ) × Means some text c
IsMeant some _ = ⊥

-- what can be read at a key of each kind
abbrev pub IsOfKind : Kind → Meaning → Type 0
IsOfKind (Whole least most) meaning = IsWithin (pos least) (pos most) meaning
IsOfKind Value meaning = IsWithin (neg_ℤ MOST_UNITS) MOST_UNITS meaning
IsOfKind Amount meaning = IsWithin (pos 0) MOST_UNITS meaning
IsOfKind Rate meaning = IsWithin (neg_ℤ (pos MOST_MILLIONTHS)) (pos MOST_MILLIONTHS) meaning
IsOfKind Span meaning = IsWithin (pos 1) (pos MOST_SPAN) meaning
IsOfKind Moment meaning = IsWithin (neg_ℤ MOST_TICKS) MOST_TICKS meaning
IsOfKind (Word choice) meaning = IsMeant (words choice) meaning
IsOfKind Name meaning = IsName meaning

-- nothing stands at a key only where the table may do without
abbrev pub MayLack : Absent → Type 0
MayLack Nothing = Unit {0}
MayLack Refused = ⊥
MayLack (Number z) = ⊥
MayLack (ChosenWord c) = ⊥

-- what can be read at a key
abbrev pub CanStandAt : Key → Meaning → Type 0
CanStandAt key nothing = MayLack key.absent
CanStandAt key meaning = IsOfKind key.kind meaning

-- one entry for each key, in their order, each one that can stand there
abbrev pub Fit : List Key → List (KeyName × Meaning) → Type 0
Fit keys entries = AllZip (λ k entry. (entry.0 ≡ k.name) × CanStandAt k entry.1) keys entries
