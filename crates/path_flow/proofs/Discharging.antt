-- What is left to be moved after flow was moved along a path.
use Rattle.std.proofs.Common.{◌≡◌, ◌≢◌, ◌⊎◌, ℕ, zero, suc, ◌+◌, ◌-◌, ◌*◌, ◌<◌, ◌≤◌, Bool, true, false, not, eqb, ℤ, pos, negsuc, ◌+ℤ◌, ◌-ℤ◌, ◌≤ℤ◌, ◌<ℤ◌, List, [], ◌∷◌, length, drop, sum_by, get_or, inl, inr, refl, sym, ap, ◌∙◌, subst, ⊎_elim, arith}
use Rattle.std.specs.Prelude.{unsigned_abs}
use Rattle.std.proofs.lemmas.Int.{ints, by_lt_z}
use Rattle.std.proofs.lemmas.Bool.{cases_eq, eq-eqb, ne_eqb}
use Rattle.std.proofs.Math.Nat.{mul-le-mul_left}
use Rattle.words.specs.Lists.{total}
use Rattle.bound_graph.specs.Values.{value_of}
use Rattle.flow_core.specs.Layout.{FlowNetwork, nodes_of, unpriced_capacity}
use Rattle.flow_core.specs.State.{NetworkState, IsNetwork}
use Rattle.flow_core.proofs.Sizes.{capacity_of_bound}
use Rattle.std.proofs.lemmas.Bool.{cases_lt}
use Rattle.path_flow.specs.declared.search.Direction.{Direction}
use Rattle.path_flow.specs.declared.search.Direction.TheVariants.{Forwards, Backwards}
use Rattle.path_flow.specs.declared.search.Task.{Task}
use Rattle.path_flow.specs.Flow.{HasSign, IsAugmented, IsLeft, amount_if, excess_units, most_units, positive_size, units_left}
use Rattle.path_flow.specs.Search.{IsEnd, IsOpposite, signed}
use Rattle.path_flow.specs.Searching.{AreFree}
use Rattle.path_flow.proofs.Saturating.{past_bounds, zero_price}
use Rattle.path_flow.proofs.Sums.{all_but_first, brought, positive_none, positive_of, sums, taken, totals}

-- ---- signs

abbrev IsOpposed : Direction → ℤ → Type 0
IsOpposed Forwards z = z <ℤ pos 0
IsOpposed Backwards z = pos 0 <ℤ z

opposed : (net : NetworkState) (direction : Direction) (node : ℕ) → IsOpposite net direction node → IsOpposed direction (value_of net.excesses node)
opposed net Forwards node is = is
opposed net Backwards node is = is

opposite_of : (net : NetworkState) (direction : Direction) (node : ℕ) → IsOpposed direction (value_of net.excesses node) → IsOpposite net direction node
opposite_of net Forwards node is = is
opposite_of net Backwards node is = is

not_both : (direction : Direction) (z : ℤ) → HasSign direction z → IsOpposed direction z → ⊥
not_both Forwards z sign other = absurd (omega (arith, ints, sign, other))
not_both Backwards z sign other = absurd (omega (arith, ints, sign, other))

not_zero : (direction : Direction) (z : ℤ) → IsOpposed direction z → z ≡ pos 0 → ⊥
not_zero Forwards z other none = absurd (omega (arith, ints, none, other))
not_zero Backwards z other none = absurd (omega (arith, ints, none, other))

pub size_positive : (z : ℤ) → pos 0 ≤ℤ z → pos (unsigned_abs z) ≡ z
size_positive (pos n) low = refl
size_positive (negsuc n) low = absurd (omega (arith, ints, low))

pub size_negative : (z : ℤ) → z ≤ℤ pos 0 → pos (unsigned_abs z) ≡ pos 0 -ℤ z
size_negative (pos n) high = omega (arith, ints, high)
size_negative (negsuc n) high = omega (arith, ints)

size_at_source : (direction : Direction) (z : ℤ) (a : ℕ) → HasSign direction z → a ≤ unsigned_abs z → unsigned_abs (z -ℤ signed direction (pos a)) + a ≡ unsigned_abs z
size_at_source Forwards z a sign within = let size = size_positive z (omega (arith, ints, sign)) in taken z a (omega (arith, ints, size, within))
size_at_source Backwards z a sign within =
    let size = size_negative z (omega (arith, ints, sign)) in
    let same : z -ℤ (pos 0 -ℤ pos a) ≡ z +ℤ pos a = omega (arith, ints) in
    ap (λ y. unsigned_abs y + a) same ∙ brought z a (omega (arith, ints, size, within))

size_at_end : (direction : Direction) (z : ℤ) (a : ℕ) → IsOpposed direction z → a ≤ unsigned_abs z → unsigned_abs (z +ℤ signed direction (pos a)) + a ≡ unsigned_abs z
size_at_end Forwards z a other within = let size = size_negative z (omega (arith, ints, other)) in brought z a (omega (arith, ints, size, within))
size_at_end Backwards z a other within =
    let size = size_positive z (omega (arith, ints, other)) in
    let same : z +ℤ (pos 0 -ℤ pos a) ≡ z -ℤ pos a = omega (arith, ints) in
    ap (λ y. unsigned_abs y + a) same ∙ taken z a (omega (arith, ints, size, within))

-- the positive parts of a source and of an end fall together by the amount
positive_both : (direction : Direction) (s e : ℤ) (a : ℕ) → HasSign direction s → a ≤ unsigned_abs s → IsOpposed direction e → a ≤ unsigned_abs e
    → positive_size (s -ℤ signed direction (pos a)) + positive_size (e +ℤ signed direction (pos a)) + a ≡ positive_size s + positive_size e
positive_both Forwards s e a sign within other enough =
    let s_size = size_positive s (omega (arith, ints, sign)) in
    let e_size = size_negative e (omega (arith, ints, other)) in
    let s_old = positive_of s (omega (arith, ints, sign)) in
    let s_new = positive_of (s -ℤ pos a) (omega (arith, ints, s_size, within)) in
    let e_old = positive_none e (omega (arith, ints, other)) in
    let e_new = positive_none (e +ℤ pos a) (omega (arith, ints, e_size, enough)) in
    omega (arith, ints, s_old, s_new, e_old, e_new)
positive_both Backwards s e a sign within other enough =
    let s_size = size_negative s (omega (arith, ints, sign)) in
    let e_size = size_positive e (omega (arith, ints, other)) in
    let e_old = positive_of e (omega (arith, ints, other)) in
    let e_new = positive_of (e +ℤ (pos 0 -ℤ pos a)) (omega (arith, ints, e_size, enough)) in
    let s_old = positive_none s (omega (arith, ints, sign)) in
    let s_new = positive_none (s -ℤ (pos 0 -ℤ pos a)) (omega (arith, ints, s_size, within)) in
    omega (arith, ints, s_old, s_new, e_old, e_new)

-- ---- an amount that is moved between two nodes

pub record IsMoved (direction : Direction) (s e a : ℕ) (old new : List ℤ) : Type 0 where
  pub long : length new ≡ length old
  pub apart : s ≢ e
  pub below_s : s < length old
  pub below_e : e < length old
  pub others : (x : ℕ) → x < length old → x ≢ s → x ≢ e → value_of new x ≡ value_of old x
  pub at_s : value_of new s ≡ value_of old s -ℤ signed direction (pos a)
  pub at_e : value_of new e ≡ value_of old e +ℤ signed direction (pos a)

signed_none : (direction : Direction) → signed direction (pos 0) ≡ pos 0
signed_none Forwards = refl
signed_none Backwards = omega (arith, ints)

pub if_none : (direction : Direction) (b : Bool) (z : ℤ) → b ≡ false → signed direction (amount_if b z) ≡ pos 0
if_none direction b z none = ap (λ c. signed direction (amount_if c z)) none ∙ signed_none direction

pub if_all : (direction : Direction) (b : Bool) (z : ℤ) → b ≡ true → signed direction (amount_if b z) ≡ signed direction z
if_all direction b z all = ap (λ c. signed direction (amount_if c z)) all

end_apart : (task : Task) (net : NetworkState) (e : ℕ) → 1 ≤ task.source → HasSign task.direction (value_of net.excesses task.source) → IsEnd net task e → task.source ≢ e
end_apart task net e some sign is_end same = ⊎_elim
    (λ first. absurd (omega (arith, first.0, some, same)))
    (λ other. not_both task.direction (value_of net.excesses task.source) sign (subst (λ n. IsOpposed task.direction (value_of net.excesses n)) (sym same) (opposed net task.direction e other)))
    is_end

moved : (task : Task) (old new : NetworkState) (gain : ℤ) → IsNetwork old → IsNetwork new → 1 ≤ task.source → task.source < nodes_of old.network → HasSign task.direction (value_of old.excesses task.source)
    → (is : IsAugmented task old new gain) → IsMoved task.direction task.source is.end is.amount old.excesses new.excesses
moved task old new gain is_old is_new some below sign is =
    let apart = end_apart task old is.end some sign is.is_end in
    let d = task.direction in
    record {
      long = is_new.excess_each ∙ ap nodes_of is.network ∙ sym is_old.excess_each;
      apart = apart;
      below_s = omega (arith, below, is_old.excess_each);
      below_e = omega (arith, is.inside, is_old.excess_each);
      others = λ x inside not_s not_e.
          let into = if_none d (eqb is.end x) (pos is.amount) (ne_eqb is.end x (λ e. not_e (sym e))) in
          let out = if_none d (eqb task.source x) (pos is.amount) (ne_eqb task.source x (λ e. not_s (sym e))) in
          let change = is.excesses x (omega (arith, inside, is_old.excess_each)) in
          omega (arith, ints, change, into, out);
      at_s =
          let into = if_none d (eqb is.end task.source) (pos is.amount) (ne_eqb is.end task.source (λ e. apart (sym e))) in
          let out = if_all d (eqb task.source task.source) (pos is.amount) (eq-eqb task.source task.source refl) in
          let change = is.excesses task.source below in
          omega (arith, ints, change, into, out);
      at_e =
          let into = if_all d (eqb is.end is.end) (pos is.amount) (eq-eqb is.end is.end refl) in
          let out = if_none d (eqb task.source is.end) (pos is.amount) (ne_eqb task.source is.end apart) in
          let change = is.excesses is.end is.inside in
          omega (arith, ints, change, into, out);
    }

pub whole_kept : (direction : Direction) (s e a : ℕ) (old new : List ℤ) → IsMoved direction s e a old new → total new ≡ total old
whole_kept direction s e a old new is =
    let both = totals old new s e is.long is.apart is.below_s is.below_e is.others in
    omega (arith, ints, both, is.at_s, is.at_e)

source_falls : (direction : Direction) (s e a : ℕ) (old new : List ℤ) → IsMoved direction s e a old new → HasSign direction (value_of old s) → a ≤ unsigned_abs (value_of old s) → unsigned_abs (value_of new s) + a ≡ unsigned_abs (value_of old s)
source_falls direction s e a old new is sign within = ap (λ z. unsigned_abs z + a) is.at_s ∙ size_at_source direction (value_of old s) a sign within

-- to node 0: the readings lose the amount once
units_to_zero : (direction : Direction) (s e a : ℕ) (old new : List ℤ) → IsMoved direction s e a old new → HasSign direction (value_of old s) → a ≤ unsigned_abs (value_of old s) → e ≡ 0
    → sum_by unsigned_abs (drop 1 new) + a ≡ sum_by unsigned_abs (drop 1 old)
units_to_zero direction s e a old new is sign within first =
    let both = sums unsigned_abs old new s e is.long is.apart is.below_s is.below_e is.others in
    let falls = source_falls direction s e a old new is sign within in
    let rest_old = all_but_first unsigned_abs old (omega (arith, is.below_s)) in
    let rest_new = all_but_first unsigned_abs new (omega (arith, is.below_s, is.long)) in
    let e_old = ap (λ n. unsigned_abs (value_of old n)) first in
    let e_new = ap (λ n. unsigned_abs (value_of new n)) first in
    omega (arith, both, falls, rest_old, rest_new, e_old, e_new)

-- to a reading: twice
units_to_reading : (direction : Direction) (s e a : ℕ) (old new : List ℤ) → IsMoved direction s e a old new → HasSign direction (value_of old s) → a ≤ unsigned_abs (value_of old s)
    → IsOpposed direction (value_of old e) → a ≤ unsigned_abs (value_of old e) → 1 ≤ s → 1 ≤ e → sum_by unsigned_abs (drop 1 new) + 2 * a ≡ sum_by unsigned_abs (drop 1 old)
units_to_reading direction s e a old new is sign within other enough some_s some_e =
    let both = sums unsigned_abs old new s e is.long is.apart is.below_s is.below_e is.others in
    let falls = source_falls direction s e a old new is sign within in
    let ends = ap (λ z. unsigned_abs z + a) is.at_e ∙ size_at_end direction (value_of old e) a other enough in
    let rest_old = all_but_first unsigned_abs old (omega (arith, is.below_s)) in
    let rest_new = all_but_first unsigned_abs new (omega (arith, is.below_s, is.long)) in
    let base = ap unsigned_abs (is.others 0 (omega (arith, is.below_s)) (λ same. absurd (omega (arith, same, some_s))) (λ same. absurd (omega (arith, same, some_e)))) in
    omega (arith, both, falls, ends, rest_old, rest_new, base)

excess_falls : (direction : Direction) (s e a : ℕ) (old new : List ℤ) → IsMoved direction s e a old new → HasSign direction (value_of old s) → a ≤ unsigned_abs (value_of old s)
    → IsOpposed direction (value_of old e) → a ≤ unsigned_abs (value_of old e) → sum_by positive_size new + a ≡ sum_by positive_size old
excess_falls direction s e a old new is sign within other enough =
    let both = sums positive_size old new s e is.long is.apart is.below_s is.below_e is.others in
    let parts = positive_both direction (value_of old s) (value_of old e) a sign within other enough in
    let at_s = ap positive_size is.at_s in
    let at_e = ap positive_size is.at_e in
    omega (arith, both, parts, at_s, at_e)

-- ---- what is left

-- what an augmentation takes from the units
pub record Takes (task : Task) (old new : NetworkState) (amount : ℕ) (gain : ℤ) : Type 0 where
  pub units : pos (units_left new + amount) +ℤ gain ≡ pos (units_left old)
  pub excess : task.ends_at_zero ≡ false → excess_units new + amount ≡ excess_units old
  pub low : pos 0 ≤ℤ gain

gain_zero : (e a : ℕ) → e ≡ 0 → amount_if (not (eqb e 0)) (pos a) ≡ pos 0
gain_zero e a first = ap (λ b. amount_if (not b) (pos a)) (eq-eqb e 0 first)

gain_some : (e a : ℕ) → e ≢ 0 → amount_if (not (eqb e 0)) (pos a) ≡ pos a
gain_some e a some = ap (λ b. amount_if (not b) (pos a)) (ne_eqb e 0 some)

is_opposed : (task : Task) (old : NetworkState) (e : ℕ) → IsEnd old task e → ((e ≡ 0) × (task.ends_at_zero ≡ true) → ⊥) → IsOpposed task.direction (value_of old.excesses e)
is_opposed task old e is_end not_zero_end = ⊎_elim (λ first. absurd (not_zero_end first)) (λ other. opposed old task.direction e other) is_end

true_or_false : (b : Bool) → (b ≡ true) ⊎ (b ≡ false)
true_or_false true = inl refl
true_or_false false = inr refl

pub takes : (task : Task) (old new : NetworkState) (gain : ℤ) → IsNetwork old → IsNetwork new → 1 ≤ task.source → task.source < nodes_of old.network → HasSign task.direction (value_of old.excesses task.source)
    → (is : IsAugmented task old new gain) → Takes task old new is.amount gain
takes task old new gain is_old is_new some below sign is =
    let d = task.direction in
    let s = task.source in
    let move = moved task old new gain is_old is_new some below sign is in
    ⊎_elim
    (λ (first : is.end ≡ 0).
    let units = units_to_zero d s is.end is.amount old.excesses new.excesses move sign is.within first in
    let none = is.gain_is ∙ gain_zero is.end is.amount first in
    record {
      units = omega (arith, ints, units, none);
      excess = λ stop.
          let not_end : (is.end ≡ 0) × (task.ends_at_zero ≡ true) → ⊥ = λ both. absurd (let is_true = both.1 in cc) in
          excess_falls d s is.end is.amount old.excesses new.excesses move sign is.within (is_opposed task old is.end is.is_end not_end) (is.opposite not_end);
      low = omega (arith, ints, none);
    })
    (λ (reading : is.end ≢ 0).
    let not_end : (is.end ≡ 0) × (task.ends_at_zero ≡ true) → ⊥ = λ both. reading both.0 in
    let other = is_opposed task old is.end is.is_end not_end in
    let enough = is.opposite not_end in
    let units = units_to_reading d s is.end is.amount old.excesses new.excesses move sign is.within other enough some (omega (arith, reading)) in
    let all = is.gain_is ∙ gain_some is.end is.amount reading in
    record {
      units = omega (arith, ints, units, all);
      excess = λ stop. excess_falls d s is.end is.amount old.excesses new.excesses move sign is.within other enough;
      low = omega (arith, ints, all);
    })
    (cases_eq is.end 0)

lower_budget : (budget amount units excess : ℕ) (spare : ℤ) (ends : Bool) → spare ≡ pos budget -ℤ pos units → amount ≤ units → (ends ≡ true → pos 0 ≤ℤ spare) → (ends ≡ false → amount ≤ excess) → (ends ≡ false → excess ≤ budget) → amount ≤ budget
lower_budget budget amount units excess spare true is few high fall within = let low = high refl in omega (arith, ints, is, few, low)
lower_budget budget amount units excess spare false is few high fall within = omega (arith, fall refl, within refl)

changes_fit : (old new readings budget rest amount bound : ℕ) → new ≤ old + readings → rest + amount ≡ budget → 1 ≤ amount → old + readings * budget ≤ bound → new + readings * rest ≤ bound
changes_fit old new readings budget rest amount bound more split some within =
    let one = mul-le-mul_left readings some in
    let product : readings * budget ≡ readings * rest + readings * amount = ap (λ n. readings * n) (sym split) ∙ omega arith in
    omega (arith, more, within, product, one)

pub left_after : (network : FlowNetwork) (bound : ℕ) (task : Task) (old new : NetworkState) (spare gain : ℤ) → IsNetwork old → IsNetwork new → 1 ≤ task.source → task.source < nodes_of old.network
    → HasSign task.direction (value_of old.excesses task.source) → (task.ends_at_zero ≡ true → pos 0 ≤ℤ spare) → (task.ends_at_zero ≡ false → spare <ℤ pos 0)
    → IsAugmented task old new gain → IsLeft network bound old spare task.source → IsLeft network bound new (spare +ℤ gain) task.source
left_after network bound task old new spare gain is_old is_new some below sign when_some when_none is left =
    let take = takes task old new gain is_old is_new some below sign is in
    let move = moved task old new gain is_old is_new some below sign is in
    let units = take.units in
    let low = take.low in
    let fits = lower_budget left.budget is.amount (units_left old) (excess_units old) spare task.ends_at_zero left.spare_is (omega (arith, ints, units, low)) when_some
    (λ stop. let falls = take.excess stop in omega (arith, falls)) (λ stop. left.excess (when_none stop)) in
    let rest = left.budget - is.amount in
    let split : rest + is.amount ≡ left.budget = omega (arith, fits) in
    record {
      same = is.network ∙ left.same;
      budget = rest;
      most = omega (arith, left.most);
      spare_is = omega (arith, ints, left.spare_is, units, split);
      excess = λ still.
          let before : spare <ℤ pos 0 = omega (arith, ints, still, low) in
          let stop : task.ends_at_zero ≡ false = ⊎_elim (λ (b : task.ends_at_zero ≡ true). absurd (let high = when_some b in omega (arith, ints, high, before))) (λ (b : task.ends_at_zero ≡ false). b) (true_or_false task.ends_at_zero) in
          let falls = take.excess stop in
          let within = left.excess before in
          omega (arith, falls, within, split);
      free = λ arc price. let more = is.flows arc in let was = left.free arc price in omega (arith, ints, more, was, split);
      whole = whole_kept task.direction task.source is.end is.amount old.excesses new.excesses move ∙ left.whole;
      few = omega (arith, ints, left.few, units, low);
      changes = changes_fit old.changes new.changes (length network.values) left.budget rest is.amount bound
          (subst (λ (n : FlowNetwork). new.changes ≤ old.changes + length n.values) left.same is.changes) split is.some left.changes;
      done = λ x reading less.
          let none = left.done x reading less in
          let not_e : x ≢ is.end = λ e. ⊎_elim
          (λ first. absurd (omega (arith, first.0, e, reading)))
          (λ other. not_zero task.direction (value_of old.excesses is.end) (opposed old task.direction is.end other) (ap (value_of old.excesses) (sym e) ∙ none))
          is.is_end in
          move.others x (omega (arith, less, move.below_s)) (λ e. absurd (omega (arith, e, less))) not_e ∙ none;
    }

-- the source's excess falls
pub source_less : (task : Task) (old new : NetworkState) (gain : ℤ) → IsNetwork old → IsNetwork new → 1 ≤ task.source → task.source < nodes_of old.network
    → HasSign task.direction (value_of old.excesses task.source) → IsAugmented task old new gain → unsigned_abs (value_of new.excesses task.source) < unsigned_abs (value_of old.excesses task.source)
source_less task old new gain is_old is_new some below sign is =
    let move = moved task old new gain is_old is_new some below sign is in
    let falls = source_falls task.direction task.source is.end is.amount old.excesses new.excesses move sign is.within in
    omega (arith, falls, is.some)

-- ---- more can flow on bounds without a price

pub free_left : (network : FlowNetwork) (bound : ℕ) (net : NetworkState) (spare : ℤ) (node : ℕ) → IsLeft network bound net spare node → AreFree net
free_left network bound net spare node left arc free = ⊎_elim
    (λ (below : arc < length net.network.prices).
    let capacity = capacity_of_bound net.network arc below ∙ zero_price (unpriced_capacity net.network) (get_or net.network.prices arc 1) free in
    let most = ap most_units left.same in
    let within = left.free arc (ap (λ (n : FlowNetwork). get_or n.prices arc 1) (sym left.same) ∙ free) in
    omega (arith, ints, capacity, most, within))
    (λ (past : length net.network.prices ≤ arc). absurd (past_bounds net arc past free))
    (cases_lt arc (length net.network.prices))

-- ---- an end is there

total_low : (xs : List ℤ) → ((k : ℕ) → pos 0 ≤ℤ value_of xs k) → pos 0 ≤ℤ total xs
total_low [] low = omega (arith, ints)
total_low (x ∷ xs) low =
    let here : pos 0 ≤ℤ x = low 0 in
    let rest = total_low xs (λ k. low (suc k)) in
    omega (arith, ints, here, rest)

total_least : (xs : List ℤ) (i : ℕ) → ((k : ℕ) → pos 0 ≤ℤ value_of xs k) → value_of xs i ≤ℤ total xs
total_least [] i low = omega (arith, ints)
total_least (x ∷ xs) zero low = let rest = total_low xs (λ k. low (suc k)) in omega (arith, ints, rest)
total_least (x ∷ xs) (suc i) low =
    let here : pos 0 ≤ℤ x = low 0 in
    let rest : value_of xs i ≤ℤ total xs = total_least xs i (λ k. low (suc k)) in
    omega (arith, ints, here, rest)

total_high : (xs : List ℤ) → ((k : ℕ) → value_of xs k ≤ℤ pos 0) → total xs ≤ℤ pos 0
total_high [] high = omega (arith, ints)
total_high (x ∷ xs) high =
    let here : x ≤ℤ pos 0 = high 0 in
    let rest = total_high xs (λ k. high (suc k)) in
    omega (arith, ints, here, rest)

total_most : (xs : List ℤ) (i : ℕ) → ((k : ℕ) → value_of xs k ≤ℤ pos 0) → total xs ≤ℤ value_of xs i
total_most [] i high = omega (arith, ints)
total_most (x ∷ xs) zero high = let rest = total_high xs (λ k. high (suc k)) in omega (arith, ints, rest)
total_most (x ∷ xs) (suc i) high =
    let here : x ≤ℤ pos 0 = high 0 in
    let rest : total xs ≤ℤ value_of xs i = total_most xs i (λ k. high (suc k)) in
    omega (arith, ints, here, rest)

abbrev HasOne : Direction → List ℤ → Type 0
HasOne direction xs = (e : ℕ) × (e < length xs) × IsOpposed direction (value_of xs e)

abbrev HasNone : Direction → List ℤ → Type 0
HasNone direction xs = (k : ℕ) → IsOpposed direction (value_of xs k) → ⊥

opposed_or_not : (direction : Direction) (z : ℤ) → IsOpposed direction z ⊎ (IsOpposed direction z → ⊥)
opposed_or_not Forwards z = by_lt_z z (pos 0) (λ less. inl less) (λ more. inr (λ less. absurd (omega (arith, ints, less, more))))
opposed_or_not Backwards z = by_lt_z (pos 0) z (λ more. inl more) (λ less. inr (λ more. absurd (omega (arith, ints, less, more))))

none_more : (direction : Direction) (x : ℤ) (xs : List ℤ) → (IsOpposed direction x → ⊥) → HasNone direction xs → HasNone direction (x ∷ xs)
none_more direction x xs here rest zero is = here is
none_more direction x xs here rest (suc k) is = rest k is

find_opposed : (direction : Direction) (xs : List ℤ) → HasOne direction xs ⊎ HasNone direction xs
find_opposed direction [] = inr (λ k is. not_zero direction (pos 0) is refl)
find_opposed direction (x ∷ xs) = ⊎_elim
    (λ (here : IsOpposed direction x). inl (0, omega arith, here))
    (λ (not_here : IsOpposed direction x → ⊥).
    ⊎_elim
    (λ (later : HasOne direction xs). inl (suc later.0, omega (arith, later.1), later.2))
    (λ (none : HasNone direction xs). inr (none_more direction x xs not_here none))
    (find_opposed direction xs))
    (opposed_or_not direction x)

none_opposed : (direction : Direction) (xs : List ℤ) (s : ℕ) → total xs ≡ pos 0 → HasSign direction (value_of xs s) → HasNone direction xs → ⊥
none_opposed Forwards xs s whole sign none =
    let low : (k : ℕ) → pos 0 ≤ℤ value_of xs k = λ k. by_lt_z (value_of xs k) (pos 0) (λ less. absurd (none k less)) (λ more. more) in
    let least = total_least xs s low in
    absurd (omega (arith, ints, least, whole, sign))
none_opposed Backwards xs s whole sign none =
    let high : (k : ℕ) → value_of xs k ≤ℤ pos 0 = λ k. by_lt_z (pos 0) (value_of xs k) (λ more. absurd (none k more)) (λ less. less) in
    let most = total_most xs s high in
    absurd (omega (arith, ints, most, whole, sign))

pub end_there : (net : NetworkState) (task : Task) → IsNetwork net → total net.excesses ≡ pos 0 → HasSign task.direction (value_of net.excesses task.source) → (e : ℕ) × (e < nodes_of net.network) × IsEnd net task e
end_there net task is whole sign = ⊎_elim
    (λ (one : HasOne task.direction net.excesses). (one.0, omega (arith, one.1, is.excess_each), inr (opposite_of net task.direction one.0 one.2)))
    (λ (none : HasNone task.direction net.excesses). absurd (none_opposed task.direction net.excesses task.source whole sign none))
    (find_opposed task.direction net.excesses)

-- ---- one reading after the other

pub one_done : (network : FlowNetwork) (bound : ℕ) (net : NetworkState) (spare : ℤ) (node : ℕ) → value_of net.excesses node ≡ pos 0 → IsLeft network bound net spare node → IsLeft network bound net spare (node + 1)
one_done network bound net spare node none left = record {
  same = left.same;
  budget = left.budget;
  most = left.most;
  spare_is = left.spare_is;
  excess = left.excess;
  free = left.free;
  whole = left.whole;
  few = left.few;
  changes = left.changes;
  done = λ x some below. ⊎_elim
      (λ (e : x ≡ node). ap (value_of net.excesses) e ∙ none)
      (λ (other : x ≢ node). left.done x some (omega (arith, below, other)))
      (cases_eq x node);
}

-- the same, one step on
pub then : (network : FlowNetwork) (bound : ℕ) (old middle new : NetworkState) (first spare next : ℤ) (from to after : ℕ) → middle.network ≡ network
    → (IsLeft network bound old first from → IsLeft network bound middle spare to) → (IsLeft middle.network bound middle spare to → IsLeft middle.network bound new next after)
    → IsLeft network bound old first from → IsLeft network bound new next after
then network bound old middle new first spare next from to after same so_far step left =
    subst (λ (n : FlowNetwork). IsLeft n bound middle spare to → IsLeft n bound new next after) same step (so_far left)

pub with_spare : (network : FlowNetwork) (bound : ℕ) (net : NetworkState) (one other : ℤ) (node : ℕ) → one ≡ other → IsLeft network bound net one node → IsLeft network bound net other node
with_spare network bound net one other node same left = subst (λ (z : ℤ). IsLeft network bound net z node) same left

pub in_network : (network other : FlowNetwork) (bound : ℕ) (net : NetworkState) (spare : ℤ) (node : ℕ) → other ≡ network → IsLeft network bound net spare node → IsLeft other bound net spare node
in_network network other bound net spare node same left = subst (λ (n : FlowNetwork). IsLeft n bound net spare node) (sym same) left
