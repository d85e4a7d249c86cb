-- To be believed: what a table of a rule file is read as: its entries, or the first cause to refuse it.
use Rattle.std.specs.Prelude.{◌≡◌, ◌≢◌, ◌⊎◌, ℕ, ℤ, ◌≤ℤ◌, List, [], ◌∷◌, map, Option, Some, None, Result, Ok, Err, unsigned_abs, Contains}
use Rattle.std.specs.List.{AllByRecursion}
use Rattle.toml.specs.Data.{Data, Members, no_members, member, get_member}
use Rattle.fix_point.specs.declared.rate.Rate.{Rate}
use Rattle.fix_point.specs.Rates.{IsInReach}
use Rattle.rule_keys.specs.declared.cause.KeyCause.{KeyCause}
use Rattle.rule_keys.specs.declared.cause.KeyCause.TheVariants.{UnknownKey, MissingKey, ReachTooLarge, SameSensor}
use Rattle.rule_keys.specs.declared.cause.KeyCause.TheVariants as cause
use Rattle.rule_keys.specs.declared.key.TableKind.{TableKind}
use Rattle.rule_keys.specs.declared.key.KeyName.{KeyName}
use Rattle.rule_keys.specs.declared.key.KeyName.TheVariants.{Per, Window}
use Rattle.rule_keys.specs.declared.key.Absent.{Absent}
use Rattle.rule_keys.specs.declared.key.Absent.TheVariants.{Refused, Number, Chosen, Nothing}
use Rattle.rule_keys.specs.declared.key.Check.{Check}
use Rattle.rule_keys.specs.declared.key.Check.TheVariants.{Order, Reach, Differ}
use Rattle.rule_keys.specs.declared.key.Key.{Key}
use Rattle.rule_keys.specs.declared.read.Scale.{Scale}
use Rattle.rule_keys.specs.Entries.{Meaning, number, chosen, nothing, number_at, name_at}
use Rattle.rule_keys.specs.Keys.{keys_of, checks_of}
use Rattle.rule_keys.specs.Values.{ReadsValue}
use Rattle.rule_keys.specs.Words.{key_text}

-- each member has a key of these
abbrev pub HasOnly : List (List ℕ) → Members → Type 0
HasOnly keys no_members = Unit {0}
HasOnly keys (member key value members) = Contains keys key × HasOnly keys members

-- what is taken where the key is absent
abbrev pub ReadsAbsent : Absent → Result Meaning KeyCause → Type 0
ReadsAbsent Refused answer = answer ≡ Err MissingKey
ReadsAbsent (Number z) answer = answer ≡ Ok (number z)
ReadsAbsent (Chosen c) answer = answer ≡ Ok (chosen c)
ReadsAbsent Nothing answer = answer ≡ Ok nothing

-- what is read at a key, if something stands there
abbrev pub ReadsFound : Scale → Key → Option Data → Result Meaning KeyCause → Type 0
ReadsFound scale key None answer = ReadsAbsent key.absent answer
ReadsFound scale key (Some value) answer = ReadsValue scale key.kind value answer

abbrev pub ReadsKey : Scale → Members → Key → Result Meaning KeyCause → Type 0
ReadsKey scale given key answer = ReadsFound scale key (get_member (key_text key.name) given) answer

-- The keys one after the other: an entry for each, or the cause at the first that is refused.
abbrev pub ReadsKeys : Scale → Members → List Key → Result (List (KeyName × Meaning)) KeyCause → Type 0
ReadsKeys scale given [] answer = answer ≡ Ok []
ReadsKeys scale given (key ∷ keys) (Ok []) = ⊥
ReadsKeys scale given (key ∷ keys) (Ok (entry ∷ entries)) =
    (entry.0 ≡ key.name) × ReadsKey scale given key (Ok entry.1) × ReadsKeys scale given keys (Ok entries)
ReadsKeys scale given (key ∷ keys) (Err cause) =
    ReadsKey scale given key (Err cause)
    ⊎ ((meaning : Meaning) × ReadsKey scale given key (Ok meaning) × ReadsKeys scale given keys (Err cause))

-- the rate of so many millionths for each `per` seconds
abbrev pub rate_of : ℤ → ℤ → Rate
rate_of millionths per = record { millionths = millionths; per = unsigned_abs per }

abbrev pub Passes : ℕ → List (KeyName × Meaning) → Check → Type 0
Passes d entries (Order low high) = number_at low entries ≤ℤ number_at high entries
Passes d entries (Reach rate) = IsInReach d (rate_of (number_at rate entries) (number_at Per entries)) (number_at Window entries)
Passes d entries (Differ first second) = name_at first entries ≢ name_at second entries

abbrev pub cause_of : Check → KeyCause
cause_of (Order _ _) = cause.Order
cause_of (Reach _) = ReachTooLarge
cause_of (Differ _ _) = SameSensor

-- the first check that does not pass has this cause
abbrev pub Fails : ℕ → List (KeyName × Meaning) → List Check → KeyCause → Type 0
Fails d entries [] found = ⊥
Fails d entries (check ∷ checks) found =
    ((¬ Passes d entries check) × (found ≡ cause_of check)) ⊎ (Passes d entries check × Fails d entries checks found)

-- what the checks leave of the answer so far
abbrev pub Checked : ℕ → List Check → (Result (List (KeyName × Meaning)) KeyCause → Type 0) → Result (List (KeyName × Meaning)) KeyCause → Type 0
Checked d checks Reads (Ok entries) = Reads (Ok entries) × AllByRecursion (Passes d entries) checks
Checked d checks Reads (Err found) =
    Reads (Err found) ⊎ ((entries : List (KeyName × Meaning)) × Reads (Ok entries) × Fails d entries checks found)

-- what a table of this kind is read as
abbrev pub Reads : Scale → TableKind → Members → Result (List (KeyName × Meaning)) KeyCause → Type 0
Reads scale kind given answer =
    ((¬ HasOnly (map (λ key. key_text key.name) (keys_of kind)) given) × (answer ≡ Err UnknownKey))
    ⊎ (HasOnly (map (λ key. key_text key.name) (keys_of kind)) given
    × Checked scale.decimals (checks_of kind) (ReadsKeys scale given (keys_of kind)) answer)

-- the table is read as these entries
abbrev pub Spells : Scale → TableKind → Members → List (KeyName × Meaning) → Type 0
Spells scale kind given entries = Reads scale kind given (Ok entries)

-- the table is refused for this
abbrev pub Refuses : Scale → TableKind → Members → KeyCause → Type 0
Refuses scale kind given cause = Reads scale kind given (Err cause)
