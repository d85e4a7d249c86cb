-- Reading key after key, and the checks one after the other.
use Rattle.std.proofs.Common.{◌≡◌, ℕ, ◌+◌, ◌<◌, ◌≤◌, List, [], ◌∷◌, ◌++◌, length, get_or, drop, map, Result, Ok, Err, refl, inl, inr, append_assoc}
use Rattle.std.proofs.lemmas.List.{append-nil, drop_all, drop_more, map-append}
use Rattle.std.specs.List.{AllByRecursion}
use Rattle.toml.specs.Data.{Members}
use Rattle.rule_keys.specs.declared.cause.KeyCause.{KeyCause}
use Rattle.rule_keys.specs.declared.cause.KeyCause.TheVariants.{UnknownKey}
use Rattle.rule_keys.specs.declared.key.TableKind.{TableKind}
use Rattle.rule_keys.specs.declared.key.KeyName.{KeyName}
use Rattle.rule_keys.specs.declared.key.KeyName.TheVariants.{Decimals}
use Rattle.rule_keys.specs.declared.key.Kind.TheVariants.{Whole}
use Rattle.rule_keys.specs.declared.key.Absent.TheVariants.{Refused}
use Rattle.rule_keys.specs.declared.entries.Entry.{Entry}
use Rattle.rule_keys.specs.declared.entries.Found.{Found}
use Rattle.rule_keys.specs.Seen.{seen, meaning}
use Rattle.rule_keys.specs.declared.key.Check.{Check}
use Rattle.rule_keys.specs.declared.key.Check.TheVariants.{Order}
use Rattle.rule_keys.specs.declared.key.Key.{Key}
use Rattle.rule_keys.specs.declared.read.Scale.{Scale}
use Rattle.rule_keys.specs.Entries.{Meaning}
use Rattle.rule_keys.specs.Keys.{keys_of, checks_of}
use Rattle.rule_keys.specs.Table.{HasOnly, ReadsKey, ReadsKeys, Passes, Fails, Reads, cause_of}
use Rattle.rule_keys.specs.Within.{HasSmallNumbers}
use Rattle.rule_keys.proofs.Known.{texts}

abbrev pub Answer : Type 0
Answer = Result (List (KeyName × Meaning)) KeyCause

-- the whole answer, of what was read before and the answer for the keys that are left
abbrev pub after : List (KeyName × Meaning) → Answer → Answer
after before (Ok entries) = Ok (before ++ entries)
after before (Err cause) = Err cause

-- what was read before is right for the keys that are not left
pub record IsSoFar (scale : Scale) (given : Members) (keys left : List Key) (before : List (KeyName × Meaning)) : Type 0 where
  pub rest : (answer : Answer) → ReadsKeys scale given left answer → ReadsKeys scale given keys (after before answer)

as_it_is : (scale : Scale) (given : Members) (keys : List Key) (answer : Answer) → ReadsKeys scale given keys answer → ReadsKeys scale given keys (after [] answer)
as_it_is scale given keys (Ok entries) reads = reads
as_it_is scale given keys (Err cause) reads = reads

pub so_far_none : (scale : Scale) (given : Members) (keys : List Key) → IsSoFar scale given keys keys []
so_far_none scale given keys = record { rest = as_it_is scale given keys }

one_more : (scale : Scale) (given : Members) (keys left : List Key) (key : Key) (before : List (KeyName × Meaning)) (m : Meaning)
    → IsSoFar scale given keys (key ∷ left) before → ReadsKey scale given key (Ok m)
    → (answer : Answer) → ReadsKeys scale given left answer → ReadsKeys scale given keys (after (before ++ (key.name, m) ∷ []) answer)
one_more scale given keys left key before m so_far here (Ok entries) reads =
    rw append_assoc (so_far.rest (Ok ((key.name, m) ∷ entries)) (refl, here, reads))
one_more scale given keys left key before m so_far here (Err cause) reads = so_far.rest (Err cause) (inr (m, here, reads))

pub so_far_more : (scale : Scale) (given : Members) (keys left : List Key) (key : Key) (before : List (KeyName × Meaning)) (m : Meaning)
    → IsSoFar scale given keys (key ∷ left) before → ReadsKey scale given key (Ok m)
    → IsSoFar scale given keys left (before ++ (key.name, m) ∷ [])
so_far_more scale given keys left key before m so_far here = record { rest = one_more scale given keys left key before m so_far here }

pub so_far_refused : (scale : Scale) (given : Members) (keys left : List Key) (key : Key) (before : List (KeyName × Meaning)) (cause : KeyCause)
    → IsSoFar scale given keys (key ∷ left) before → ReadsKey scale given key (Err cause) → ReadsKeys scale given keys (Err cause)
so_far_refused scale given keys left key before cause so_far here = so_far.rest (Err cause) (inl here)

pub so_far_all : (scale : Scale) (given : Members) (keys : List Key) (before : List (KeyName × Meaning))
    → IsSoFar scale given keys [] before → ReadsKeys scale given keys (Ok before)
so_far_all scale given keys before so_far = rw append-nil at (so_far.rest (Ok []) refl)

pub all_read : (scale : Scale) (given : Members) (keys : List Key) (i : ℕ) (before : List (KeyName × Meaning)) → length keys ≤ i
    → IsSoFar scale given keys (drop i keys) before → ReadsKeys scale given keys (Ok before)
all_read scale given keys i before past so_far = so_far_all scale given keys before (rw (drop_all i keys past) at so_far)

-- the checks that are left decide, and each of them is within reach
pub record IsCheckedSoFar (d : ℕ) (entries : List (KeyName × Meaning)) (checks left : List Check) : Type 0 where
  pub passes : AllByRecursion (Passes d entries) left → AllByRecursion (Passes d entries) checks
  pub fails : (cause : KeyCause) → Fails d entries left cause → Fails d entries checks cause
  pub within : AllByRecursion (HasSmallNumbers entries) left

pub checked_none : (d : ℕ) (entries : List (KeyName × Meaning)) (checks : List Check) → AllByRecursion (HasSmallNumbers entries) checks → IsCheckedSoFar d entries checks checks
checked_none d entries checks within = record { passes = λ p. p; fails = λ cause f. f; within = within }

pub checked_more : (d : ℕ) (entries : List (KeyName × Meaning)) (checks left : List Check) (check : Check)
    → IsCheckedSoFar d entries checks (check ∷ left) → Passes d entries check → IsCheckedSoFar d entries checks left
checked_more d entries checks left check so_far here = record {
  passes = λ rest. so_far.passes (here, rest);
  fails = λ cause rest. so_far.fails cause (inr (here, rest));
  within = so_far.within.1;
}

pub checked_failed : (d : ℕ) (entries : List (KeyName × Meaning)) (checks left : List Check) (check : Check) (cause : KeyCause)
    → IsCheckedSoFar d entries checks (check ∷ left) → ¬ Passes d entries check → cause ≡ cause_of check → Fails d entries checks cause
checked_failed d entries checks left check cause so_far here is = so_far.fails cause (inl (here, is))

pub checked_all : (d : ℕ) (entries : List (KeyName × Meaning)) (checks : List Check) → IsCheckedSoFar d entries checks [] → AllByRecursion (Passes d entries) checks
checked_all d entries checks so_far = so_far.passes tt

-- the whole of a table
pub unknown_key : (scale : Scale) (kind : TableKind) (given : Members) → ¬ HasOnly (texts (keys_of kind)) given → Reads scale kind given (Err UnknownKey)
unknown_key scale kind given unknown = inl (unknown, refl)

pub refused_key : (scale : Scale) (kind : TableKind) (given : Members) (cause : KeyCause) → HasOnly (texts (keys_of kind)) given
    → ReadsKeys scale given (keys_of kind) (Err cause) → Reads scale kind given (Err cause)
refused_key scale kind given cause only reads = inr (only, inl reads)

pub refused_check : (scale : Scale) (kind : TableKind) (given : Members) (entries : List (KeyName × Meaning)) (cause : KeyCause) → HasOnly (texts (keys_of kind)) given
    → ReadsKeys scale given (keys_of kind) (Ok entries) → Fails scale.decimals entries (checks_of kind) cause → Reads scale kind given (Err cause)
refused_check scale kind given entries cause only reads fails = inr (only, inr (entries, reads, fails))

pub accepted : (scale : Scale) (kind : TableKind) (given : Members) (entries : List (KeyName × Meaning)) → HasOnly (texts (keys_of kind)) given
    → ReadsKeys scale given (keys_of kind) (Ok entries) → AllByRecursion (Passes scale.decimals entries) (checks_of kind) → Reads scale kind given (Ok entries)
accepted scale kind given entries only reads passes = inr (only, (reads, passes))

-- what is read past the end of a slice
abbrev pub no_key : Key
no_key = record { name = Decimals; kind = Whole 0 0; absent = Refused }

abbrev pub no_check : Check
no_check = Order Decimals Decimals

pub pushed : (scale : Scale) (given : Members) (keys : List Key) (i : ℕ) (found now : List Found) (entry : Entry) → i < length keys
    → IsSoFar scale given keys (drop i keys) (map seen found) → ReadsKey scale given (get_or keys i no_key) (Ok (meaning entry))
    → now ≡ found ++ record { key = (get_or keys i no_key).name; entry = entry } ∷ [] → IsSoFar scale given keys (drop (i + 1) keys) (map seen now)
pushed scale given keys i found now entry within so_far here is =
    rw (is, map-append) (so_far_more scale given keys (drop (i + 1) keys) (get_or keys i no_key) (map seen found) (meaning entry) (rw (drop_more keys i no_key within) at so_far) here)

pub refused_at : (scale : Scale) (given : Members) (keys : List Key) (i : ℕ) (before : List (KeyName × Meaning)) (cause : KeyCause) → i < length keys
    → IsSoFar scale given keys (drop i keys) before → ReadsKey scale given (get_or keys i no_key) (Err cause) → ReadsKeys scale given keys (Err cause)
refused_at scale given keys i before cause within so_far here =
    so_far_refused scale given keys (drop (i + 1) keys) (get_or keys i no_key) before cause (rw (drop_more keys i no_key within) at so_far) here

pub failed_at : (d : ℕ) (entries : List (KeyName × Meaning)) (checks : List Check) (i : ℕ) (cause : KeyCause) → i < length checks
    → IsCheckedSoFar d entries checks (drop i checks) → ¬ Passes d entries (get_or checks i no_check) → cause ≡ cause_of (get_or checks i no_check) → Fails d entries checks cause
failed_at d entries checks i cause within so_far here is =
    checked_failed d entries checks (drop (i + 1) checks) (get_or checks i no_check) cause (rw (drop_more checks i no_check within) at so_far) here is
