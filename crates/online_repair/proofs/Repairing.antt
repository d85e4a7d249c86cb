-- The result for a reading, from the rows that were looked at.
use Rattle.std.proofs.Common.{◌≡◌, ℕ, Bool, true, false, cond, ℤ, pos, ◌-ℤ◌, ◌≤ℤ◌, ◌<ℤ◌, List, [], ◌∷◌, ◌++◌, take, drop, refl, sym, ap, ◌∙◌, subst, arith}
use Rattle.std.specs.Prelude.{All, Option, int_le}
use Rattle.std.specs.List.{AllByRecursion, filter}
use Rattle.std.proofs.lemmas.Int.{ints}
use Rattle.std.proofs.lemmas.List.{take-append-drop}
use Rattle.std.proofs.lemmas.List.Elements.{All-from_recursion}
use Rattle.words.proofs.Lists.{all_of_append, all_weaker}
use Rattle.series_rows.specs.Row.{RowView}
use Rattle.order_window.specs.declared.key.Key.{Key}
use Rattle.order_window.specs.Window.{IsAfter}
use Rattle.online_values.specs.Results.{Speed, clamped_after, is_within, median_before, successors}
use Rattle.online_repair.specs.Rows.{keys_in}
use Rattle.online_repair.specs.Tracks.{IsBeyond, IsNear, RisesFrom}
use Rattle.online_repair.proofs.Looking.{all_later, keys-append, keys_all}

abbrev IsTimeAfter : ℤ → ℤ → ℤ → Type 0
IsTimeAfter span own ticks = (pos 1 ≤ℤ (ticks -ℤ own)) × ((ticks -ℤ own) ≤ℤ span)

time_after : (span own ticks : ℤ) → own <ℤ ticks → (ticks -ℤ own) ≤ℤ span → IsTimeAfter span own ticks
time_after span own ticks g h = (omega (arith, ints), h)

both : (P Q R : RowView → Type 0) → ((row : RowView) → P row → Q row → R row) → (rows : List RowView) → AllByRecursion P rows → AllByRecursion Q rows → AllByRecursion R rows
both P Q R join [] p q = tt
both P Q R join (row ∷ rows) p q = (join row p.0 q.0, both P Q R join rows p.1 q.1)

front_of : (P : RowView → Type 0) (n : ℕ) (rows : List RowView) → AllByRecursion P rows → AllByRecursion P (take n rows) × AllByRecursion P (drop n rows)
front_of P n rows all =
    let Q : List RowView → Type 0 = λ rs. AllByRecursion P rs in
    all_of_append P (take n rows) (drop n rows) (subst Q (sym (take-append-drop n rows)) all)

pub keys_after_own : (col : ℕ) (span : ℤ) (own : Key) (rows : List RowView) (n : ℕ) (keys : List Key) → RisesFrom own.ticks rows → AllByRecursion (IsNear span own.ticks) (take n rows) → keys ≡ keys_in col (take n rows) → All (IsAfter span own) keys
keys_after_own col span own rows n keys rise near are =
    let later = (front_of (λ (row : RowView). own.ticks <ℤ row.ticks) n rows (all_later own.ticks rows rise)).0 in
    let times = both (λ (row : RowView). own.ticks <ℤ row.ticks) (IsNear span own.ticks) (λ (row : RowView). IsTimeAfter span own.ticks row.ticks) (λ row g h. time_after span own.ticks row.ticks g h) (take n rows) later near in
    let K : List Key → Type 0 = λ ks. AllByRecursion (IsAfter span own) ks in
    let after = all_weaker (λ (key : Key). IsTimeAfter span own.ticks key.ticks) (IsAfter span own) (λ key h. record { least = h.0; most = h.1 }) (keys_in col (take n rows)) (keys_all (IsTimeAfter span own.ticks) col (take n rows) times) in
    All-from_recursion (IsAfter span own) keys (subst K (sym are) after)

-- ---- the successors

within_true : (a b : ℤ) → a ≤ℤ b → int_le a b ≡ true
within_true a b h = grind (arith, ints)

beyond_false : (a b : ℤ) → b <ℤ a → int_le a b ≡ false
beyond_false a b h = grind (arith, ints)

none_of : (test : Key → Bool) (ys : List Key) → AllByRecursion (λ (key : Key). test key ≡ false) ys → filter test ys ≡ []
none_of test [] all = refl
none_of test (y ∷ ys) all = ap (λ (b : Bool). cond b (y ∷ filter test ys) (filter test ys)) all.0 ∙ none_of test ys all.1

first_of : (test : Key → Bool) (xs ys : List Key) → AllByRecursion (λ (key : Key). test key ≡ true) xs → AllByRecursion (λ (key : Key). test key ≡ false) ys → filter test (xs ++ ys) ≡ xs
first_of test [] ys yeses nos = none_of test ys nos
first_of test (x ∷ xs) ys yeses nos =
    ap (λ (b : Bool). cond b (x ∷ filter test (xs ++ ys)) (filter test (xs ++ ys))) yeses.0
    ∙ ap (λ (keys : List Key). x ∷ keys) (first_of test xs ys yeses.1 nos)

pub successors_are : (speed : Speed) (span : ℤ) (own : Key) (col : ℕ) (rows : List RowView) (n : ℕ) → span ≡ speed.span → AllByRecursion (IsNear span own.ticks) (take n rows) → AllByRecursion (IsBeyond span own.ticks) (drop n rows) → keys_in col (take n rows) ≡ successors speed own (keys_in col rows)
successors_are speed span own col rows n e near beyond =
    let test = is_within speed own in
    let N : ℤ → Type 0 = λ s. AllByRecursion (IsNear s own.ticks) (take n rows) in
    let B : ℤ → Type 0 = λ s. AllByRecursion (IsBeyond s own.ticks) (drop n rows) in
    let yeses = all_weaker (IsNear speed.span own.ticks) (λ (row : RowView). int_le (row.ticks -ℤ own.ticks) speed.span ≡ true) (λ row h. within_true (row.ticks -ℤ own.ticks) speed.span h) (take n rows) (subst N e near) in
    let nos = all_weaker (IsBeyond speed.span own.ticks) (λ (row : RowView). int_le (row.ticks -ℤ own.ticks) speed.span ≡ false) (λ row h. beyond_false (row.ticks -ℤ own.ticks) speed.span h) (drop n rows) (subst B e beyond) in
    sym (
    ap (λ (rs : List RowView). filter test (keys_in col rs)) (sym (take-append-drop n rows))
    ∙ ap (filter test) (keys-append col (take n rows) (drop n rows))
    ∙ first_of test (keys_in col (take n rows)) (keys_in col (drop n rows))
    (keys_all (λ (ticks : ℤ). int_le (ticks -ℤ own.ticks) speed.span ≡ true) col (take n rows) yeses)
    (keys_all (λ (ticks : ℤ). int_le (ticks -ℤ own.ticks) speed.span ≡ false) col (drop n rows) nos)
    )

pub value_is : (speed new_speed : Speed) (last new_last : Option Key) (own : Key) (keys next : List Key) (v : ℤ) → new_speed ≡ speed → new_last ≡ last → keys ≡ next → v ≡ clamped_after new_speed new_last own (median_before new_speed own keys)
    → v ≡ clamped_after speed last own (median_before speed own next)
value_is speed new_speed last new_last own keys next v e f g is =
    is
    ∙ ap (λ (s : Speed). clamped_after s new_last own (median_before s own keys)) e
    ∙ ap (λ (l : Option Key). clamped_after speed l own (median_before speed own keys)) f
    ∙ ap (λ (ks : List Key). clamped_after speed last own (median_before speed own ks)) g
