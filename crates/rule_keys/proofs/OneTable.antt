-- A table of a rule file has one answer.
use Rattle.std.proofs.Common.{◌≡◌, ℕ, List, [], ◌∷◌, Option, Some, None, Result, Ok, Err, inl, inr, sym, ap, ◌∙◌, subst}
use Rattle.std.specs.List.{AllByRecursion}
use Rattle.words.proofs.Answers.{HasOne, value_or_cause, one_cause, one_good}
use Rattle.toml.specs.Data.{Data, Members, get_member}
use Rattle.rule_keys.specs.declared.cause.KeyCause.{KeyCause}
use Rattle.rule_keys.specs.declared.key.TableKind.{TableKind}
use Rattle.rule_keys.specs.declared.key.KeyName.{KeyName}
use Rattle.rule_keys.specs.declared.key.Absent.{Absent}
use Rattle.rule_keys.specs.declared.key.Absent.TheVariants.{Refused, Number, Chosen, Nothing}
use Rattle.rule_keys.specs.declared.key.Check.{Check}
use Rattle.rule_keys.specs.declared.key.Key.{Key}
use Rattle.rule_keys.specs.declared.read.Scale.{Scale}
use Rattle.rule_keys.specs.Entries.{Meaning}
use Rattle.rule_keys.specs.Keys.{keys_of, checks_of}
use Rattle.rule_keys.specs.Words.{key_text}
use Rattle.rule_keys.specs.Table.{ReadsAbsent, ReadsFound, ReadsKey, ReadsKeys, Passes, Fails, Checked, Reads}
use Rattle.rule_keys.proofs.OneValue.{NumbersAreOne, TimesAreOne, value_one}

-- ---- the keys

absent_one : (absent : Absent) → HasOne (ReadsAbsent absent)
absent_one Refused one other p q = p ∙ sym q
absent_one (Number z) one other p q = p ∙ sym q
absent_one (Chosen c) one other p q = p ∙ sym q
absent_one Nothing one other p q = p ∙ sym q

found_one : NumbersAreOne → TimesAreOne → (scale : Scale) (key : Key) (found : Option Data) → HasOne (ReadsFound scale key found)
found_one numbers times scale key None = absent_one key.absent
found_one numbers times scale key (Some value) = value_one numbers times scale key.kind value

key_one : NumbersAreOne → TimesAreOne → (scale : Scale) (given : Members) (key : Key) → HasOne (ReadsKey scale given key)
key_one numbers times scale given key = found_one numbers times scale key (get_member (key_text key.name) given)

same_entry : (one other : KeyName × Meaning) → one.0 ≡ other.0 → one.1 ≡ other.1 → one ≡ other
same_entry one other names meanings = ap (λ n. (n, one.1)) names ∙ ap (λ m. (other.0, m)) meanings

same_entries : (one other : KeyName × Meaning) (ones others : List (KeyName × Meaning)) → one ≡ other → ◌≡◌ {A = Result (List (KeyName × Meaning)) KeyCause} (Ok ones) (Ok others) → ◌≡◌ {A = Result (List (KeyName × Meaning)) KeyCause} (Ok (one ∷ ones)) (Ok (other ∷ others))
same_entries one other ones others p q = cc

-- all keys are read, and one is refused
no_key_refused : (scale : Scale) (given : Members) (key : Key) (keys : List Key) → HasOne (ReadsKey scale given key) → HasOne (ReadsKeys scale given keys) → (entry : KeyName × Meaning) (entries : List (KeyName × Meaning)) (found : KeyCause) → ReadsKeys scale given (key ∷ keys) (Ok (entry ∷ entries)) → ReadsKeys scale given (key ∷ keys) (Err found) → ⊥
no_key_refused scale given key keys same rest entry entries found p (inl q) = value_or_cause (ReadsKey scale given key) same entry.1 found p.1 q
no_key_refused scale given key keys same rest entry entries found p (inr q) = value_or_cause (ReadsKeys scale given keys) rest entries found p.2 q.2

first_refused : (scale : Scale) (given : Members) (key : Key) (keys : List Key) → HasOne (ReadsKey scale given key) → HasOne (ReadsKeys scale given keys) → (found other : KeyCause) → ReadsKeys scale given (key ∷ keys) (Err found) → ReadsKeys scale given (key ∷ keys) (Err other) → found ≡ other
first_refused scale given key keys same rest found other (inl p) (inl q) = one_cause (ReadsKey scale given key) same found other p q
first_refused scale given key keys same rest found other (inl p) (inr q) = absurd (value_or_cause (ReadsKey scale given key) same q.0 found q.1 p)
first_refused scale given key keys same rest found other (inr p) (inl q) = absurd (value_or_cause (ReadsKey scale given key) same p.0 other p.1 q)
first_refused scale given key keys same rest found other (inr p) (inr q) = one_cause (ReadsKeys scale given keys) rest found other p.2 q.2

keys_step : (scale : Scale) (given : Members) (key : Key) (keys : List Key) → HasOne (ReadsKey scale given key) → HasOne (ReadsKeys scale given keys) → HasOne (ReadsKeys scale given (key ∷ keys))
keys_step scale given key keys same rest (Ok []) other p q = absurd p
keys_step scale given key keys same rest (Ok (one ∷ ones)) (Ok []) p q = absurd q
keys_step scale given key keys same rest (Ok (one ∷ ones)) (Ok (other ∷ others)) p q =
    same_entries one other ones others (same_entry one other (p.0 ∙ sym q.0) (one_good (ReadsKey scale given key) same one.1 other.1 p.1 q.1)) (rest (Ok ones) (Ok others) p.2 q.2)
keys_step scale given key keys same rest (Ok (one ∷ ones)) (Err found) p q = absurd (no_key_refused scale given key keys same rest one ones found p q)
keys_step scale given key keys same rest (Err found) (Ok []) p q = absurd q
keys_step scale given key keys same rest (Err found) (Ok (other ∷ others)) p q = absurd (no_key_refused scale given key keys same rest other others found q p)
keys_step scale given key keys same rest (Err found) (Err other) p q = ap Err (first_refused scale given key keys same rest found other p q)

keys_one : NumbersAreOne → TimesAreOne → (scale : Scale) (given : Members) (keys : List Key) → HasOne (ReadsKeys scale given keys)
keys_one numbers times scale given [] one other p q = p ∙ sym q
keys_one numbers times scale given (key ∷ keys) one other p q = keys_step scale given key keys (key_one numbers times scale given key) (keys_one numbers times scale given keys) one other p q

-- ---- the checks

none_fails : (d : ℕ) (entries : List (KeyName × Meaning)) (checks : List Check) (found : KeyCause) → AllByRecursion (Passes d entries) checks → Fails d entries checks found → ⊥
none_fails d entries [] found p q = q
none_fails d entries (check ∷ checks) found p (inl q) = q.0 p.0
none_fails d entries (check ∷ checks) found p (inr q) = none_fails d entries checks found p.1 q.1

first_fails : (d : ℕ) (entries : List (KeyName × Meaning)) (checks : List Check) (found other : KeyCause) → Fails d entries checks found → Fails d entries checks other → found ≡ other
first_fails d entries [] found other p q = absurd p
first_fails d entries (check ∷ checks) found other (inl p) (inl q) = p.1 ∙ sym q.1
first_fails d entries (check ∷ checks) found other (inl p) (inr q) = absurd (p.0 q.0)
first_fails d entries (check ∷ checks) found other (inr p) (inl q) = absurd (q.0 p.0)
first_fails d entries (check ∷ checks) found other (inr p) (inr q) = first_fails d entries checks found other p.1 q.1

not_checked : (d : ℕ) (checks : List Check) (R : Result (List (KeyName × Meaning)) KeyCause → Type 0) → HasOne R → (entries : List (KeyName × Meaning)) (found : KeyCause) → Checked d checks R (Ok entries) → Checked d checks R (Err found) → ⊥
not_checked d checks R same entries found p (inl q) = value_or_cause R same entries found p.0 q
not_checked d checks R same entries found p (inr q) =
    let e = one_good R same q.0 entries q.1 p.0 in
    none_fails d entries checks found p.1 (subst (λ given. Fails d given checks found) e q.2)

first_unchecked : (d : ℕ) (checks : List Check) (R : Result (List (KeyName × Meaning)) KeyCause → Type 0) → HasOne R → (found other : KeyCause) → Checked d checks R (Err found) → Checked d checks R (Err other) → found ≡ other
first_unchecked d checks R same found other (inl p) (inl q) = one_cause R same found other p q
first_unchecked d checks R same found other (inl p) (inr q) = absurd (value_or_cause R same q.0 found q.1 p)
first_unchecked d checks R same found other (inr p) (inl q) = absurd (value_or_cause R same p.0 other p.1 q)
first_unchecked d checks R same found other (inr p) (inr q) =
    let e = one_good R same q.0 p.0 q.1 p.1 in
    first_fails d p.0 checks found other p.2 (subst (λ given. Fails d given checks other) e q.2)

checked_one : (d : ℕ) (checks : List Check) (R : Result (List (KeyName × Meaning)) KeyCause → Type 0) → HasOne R → HasOne (Checked d checks R)
checked_one d checks R same (Ok one) (Ok other) p q = same (Ok one) (Ok other) p.0 q.0
checked_one d checks R same (Ok one) (Err found) p q = absurd (not_checked d checks R same one found p q)
checked_one d checks R same (Err found) (Ok other) p q = absurd (not_checked d checks R same other found q p)
checked_one d checks R same (Err found) (Err other) p q = ap Err (first_unchecked d checks R same found other p q)

-- ---- the table

pub table_one : NumbersAreOne → TimesAreOne → (scale : Scale) (kind : TableKind) (given : Members) → HasOne (Reads scale kind given)
table_one numbers times scale kind given one other (inl p) (inl q) = p.1 ∙ sym q.1
table_one numbers times scale kind given one other (inl p) (inr q) = absurd (p.0 q.0)
table_one numbers times scale kind given one other (inr p) (inl q) = absurd (q.0 p.0)
table_one numbers times scale kind given one other (inr p) (inr q) =
    checked_one scale.decimals (checks_of kind) (ReadsKeys scale given (keys_of kind)) (keys_one numbers times scale given (keys_of kind)) one other p.1 q.1
