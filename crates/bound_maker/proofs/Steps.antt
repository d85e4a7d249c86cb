-- Loops over readings, by the first of those that are left and the others.
use Rattle.std.proofs.Common.{◌≡◌, ℕ, ◌+◌, ◌-◌, ◌≤◌, ℤ, pos, ◌+ℤ◌, ◌-ℤ◌, Bool, true, false, cond, not, ◌&&◌, ◌||◌, min, List, [], ◌∷◌, ◌++◌, length, take, drop, Option, Some, None, refl, sym, ap, ◌∙◌, subst, append_assoc, arith}
use Rattle.std.specs.Prelude.{int_le, int_lt, slice_get}
use Rattle.std.specs.List.{count_by, flat_map, list_any}
use mir.Val.{bool_byte}
use Rattle.std.proofs.lemmas.Int.{ints}
use Rattle.std.proofs.lemmas.List.{append-nil}
use Rattle.std.proofs.lemmas.List.Concat.{flat_map-append}
use Rattle.screen_model.specs.declared.bound.Bound.{Bound}
use Rattle.screen_model.specs.declared.bound.Side.{Side}
use Rattle.rule_file.specs.Numbers.{Rule}
use Rattle.pair_bounds.specs.declared.stamp.Stamp.{Stamp}
use Rattle.pair_bounds.specs.Pairs.{elapsed, is_within}
use Rattle.bound_maker.specs.declared.reading.Reading.{Reading}
use Rattle.bound_maker.specs.declared.window.Span.{Span}
use Rattle.bound_maker.specs.declared.window.Window.{Window}
use Rattle.bound_maker.specs.Bounds.{both_sides, bounds_of_pairs}
use Rattle.bound_maker.specs.Pairs.{pair_bound, with_next}
use Rattle.bound_maker.specs.Readings.{all_pairs, neighbours}
use Rattle.bound_maker.specs.Windows.{HasWindow, IsWindow, StampsRise, count_before, is_before, is_pair_within}
use Rattle.bound_maker.proofs.Counts.{count_first, no_sides}
use Rattle.bound_maker.proofs.Leads.{before_both, not_its_own, pairs_counted, within_is}
use Rattle.bound_maker.proofs.Sliding.{IsReady, neighbours_first, pairs_first, still_ready}
use Rattle.bound_maker.proofs.Windows.{between_leads, fades}

none_is_some : {A : Type 0} (x : A) → ◌≡◌ {A = Option A} None (Some x) → ⊥
none_is_some x e = cc

some_same : {A : Type 0} {x y : A} → ◌≡◌ {A = Option A} (Some x) (Some y) → x ≡ y
some_same e = cc

pub rise_rest : (rest : List Reading) → StampsRise rest → StampsRise (drop 1 rest)
rise_rest [] rise = tt
rise_rest (x ∷ xs) rise = rise.1

-- none is left
pub none_left : (rest : List Reading) → None ≡ slice_get rest 0 → rest ≡ []
none_left [] none = refl
none_left (x ∷ xs) none = absurd (none_is_some x none)

-- ---- neighbours

or_false : (b : Bool) → (b || false) ≡ b
or_false true = refl
or_false false = refl

next_count : (test : Reading × Reading → Bool) (x : Reading) (xs : List Reading) → count_by test (neighbours (x ∷ xs)) ≡ cond (list_any test (with_next x xs)) 1 0 + count_by test (neighbours xs)
next_count test x [] = refl
next_count test x (y ∷ ys) =
    let first = count_first test (x, y) (neighbours (y ∷ ys)) in
    let same : ◌≡◌ {A = ℕ} (cond (test (x, y) || false) 1 0) (cond (test (x, y)) 1 0) = ap (λ (b : Bool). cond b 1 0) (or_false (test (x, y))) in
    omega (arith, first, same)

pub bit_is : (b : Bool) → bool_byte b ≡ cond b 1 0
bit_is true = refl
bit_is false = refl

is_bit : (b : Bool) → cond b 1 0 ≤ 1
is_bit true = omega arith
is_bit false = omega arith

-- one more of them
pub record AreCounted (test : Reading × Reading → Bool) (rest : List Reading) (count most total : ℕ) : Type 0 where
  pub few : count + length rest ≤ most
  pub count_is : count + count_by test (neighbours rest) ≡ total

pub neighbours_step : (test : Reading × Reading → Bool) (rest later : List Reading) (x : Reading) (old one new most total : ℕ) → Some x ≡ slice_get rest 0 → later ≡ drop 1 rest → AreCounted test rest old most total
    → one ≡ cond (list_any test (with_next x later)) 1 0 → new ≡ old + one → AreCounted test later new most total
neighbours_step test [] later x old one new most total first is counted next sum = absurd (none_is_some x (sym first))
neighbours_step test (y ∷ ys) later x old one new most total first is counted next sum =
    let same : x ≡ y = some_same first in
    let named : ◌≡◌ {A = ℕ} one (cond (list_any test (with_next y ys)) 1 0) = next ∙ (ap (λ (z : Reading). cond (list_any test (with_next z later)) 1 0) same ∙ ap (λ (zs : List Reading). cond (list_any test (with_next y zs)) 1 0) is) in
    let counts = next_count test y ys in
    let long : length later ≡ length ys = ap length is in
    let least = is_bit (list_any test (with_next y ys)) in
    let after : count_by test (neighbours later) ≡ count_by test (neighbours ys) = ap (λ (zs : List Reading). count_by test (neighbours zs)) is in
    record {
      few = omega (arith, counted.few, named, sum, long, least);
      count_is = omega (arith, counted.count_is, named, sum, counts, after);
    }

-- ---- the pairs in a window

pub record AreReady (window : Window) (rest : List Reading) (x : Reading) (span : Span) : Type 0 where
  pub start : span.start ≤ count_before x.stamp.ticks window.least rest
  pub end : span.end ≤ count_before x.stamp.ticks (window.most +ℤ pos 1) rest

pub ready_for : (window : Window) (rest : List Reading) (x : Reading) (span : Span) → Some x ≡ slice_get rest 0 → IsReady window rest span → AreReady window rest x span
ready_for window [] x span first ready = absurd (none_is_some x (sym first))
ready_for window (y ∷ ys) x span first ready =
    let same : y ≡ x = some_same (sym first) in
    record {
      start = subst (λ (z : Reading). span.start ≤ count_before z.stamp.ticks window.least (y ∷ ys)) same ready.0;
      end = subst (λ (z : Reading). span.end ≤ count_before z.stamp.ticks (window.most +ℤ pos 1) (y ∷ ys)) same ready.1;
    }

-- where a window of the first reading begins and ends
pub record IsSpan (window : Window) (rest : List Reading) (t : ℤ) (span : Span) : Type 0 where
  pub start : span.start ≡ count_before t window.least rest
  pub end : span.end ≡ count_before t (window.most +ℤ pos 1) rest

of_first : (window : Window) (y : Reading) (ys : List Reading) (x : Reading) (t : ℤ) (span : Span) → y ≡ x → t ≡ x.stamp.ticks → IsSpan window (y ∷ ys) t span → IsSpan window (y ∷ ys) y.stamp.ticks span
of_first window y ys x t span same time is =
    subst (λ (s : ℤ). IsSpan window (y ∷ ys) s span) (time ∙ ap (λ (z : Reading). z.stamp.ticks) (sym same)) is

pub ready_next : (window : Window) (rest later : List Reading) (x : Reading) (t : ℤ) (span next : Span) → Some x ≡ slice_get rest 0 → later ≡ drop 1 rest → t ≡ x.stamp.ticks → IsWindow window → StampsRise rest → IsSpan window rest t span
    → next.start ≡ span.start - 1 → next.end ≡ span.end - 1 → IsReady window later next
ready_next window [] later x t span next first is time is_window rise spans start end = absurd (none_is_some x (sym first))
ready_next window (y ∷ ys) later x t span next first is time is_window rise spans start end =
    let of = of_first window y ys x t span (some_same (sym first)) time spans in
    subst (λ (zs : List Reading). IsReady window zs next) (sym is) (still_ready window y ys span next is_window rise of.start of.end start end)

pub counted_next : (window : Window) (rest later : List Reading) (x : Reading) (t : ℤ) (span : Span) (old new most n : ℕ) → Some x ≡ slice_get rest 0 → later ≡ drop 1 rest → t ≡ x.stamp.ticks → IsWindow window → StampsRise rest → IsSpan window rest t span
    → new ≡ min (old + (span.end - span.start)) most → min (old + count_by (is_pair_within window) (all_pairs rest)) most ≡ n
    → min (new + count_by (is_pair_within window) (all_pairs later)) most ≡ n
counted_next window [] later x t span old new most n first is time is_window rise spans sum so_far = absurd (none_is_some x (sym first))
counted_next window (y ∷ ys) later x t span old new most n first is time is_window rise spans sum so_far =
    let of = of_first window y ys x t span (some_same (sym first)) time spans in
    subst (λ (zs : List Reading). min (new + count_by (is_pair_within window) (all_pairs zs)) most ≡ n) (sym is)
    (pairs_counted window y ys old new span.start span.end most n is_window rise of.start of.end sum so_far)

-- ---- the bounds of pairs

not_yet : (least t : ℤ) → int_lt t least ≡ true → int_le least t ≡ false
not_yet least t early = grind (arith, ints)

module _ (number d col : ℕ) (rule : Rule) where
  abbrev bound_of : Stamp → Stamp → Side → Option Bound
  bound_of = pair_bound number rule d col

  abbrev bounds_with : Stamp → Reading → List Bound
  bounds_with from to = both_sides (bound_of from to.stamp)

  out_of_window : (window : Window) (from : Stamp) (y : Reading) → HasWindow rule window → is_within window.least window.most (elapsed from y.stamp) ≡ false → bounds_with from y ≡ []
  out_of_window window from y has out = no_sides (bound_of from y.stamp) (λ side. has.within number d col from y.stamp side out)

  early_out : (least most t : ℤ) → int_lt t least ≡ true → is_within least most t ≡ false
  early_out least most t early = ap (λ (b : Bool). b && int_le t most) (not_yet least t early)

  late_out : (least most t : ℤ) → int_lt t (most +ℤ pos 1) ≡ false → is_within least most t ≡ false
  late_out least most t late = within_is least most t ∙ ap (λ (b : Bool). b && not (int_lt t least)) late

  -- the bounds of the first reading are those with the readings of the span
  span_bounds : (window : Window) (x : Reading) (xs : List Reading) (span : Span) → HasWindow rule window → StampsRise (x ∷ xs) → IsSpan window (x ∷ xs) x.stamp.ticks span
      → flat_map (bounds_with x.stamp) xs ≡ flat_map (bounds_with x.stamp) (take (span.end - span.start) (drop span.start (x ∷ xs)))
  span_bounds window x xs span has rise is =
      let from = x.stamp.ticks in
      let early = is_before from window.least in
      let inside = is_before from (window.most +ℤ pos 1) in
      let own : bounds_with x.stamp x ≡ [] = out_of_window window x.stamp x has (not_its_own window.least window.most from has.is_window.least) in
      let all = between_leads early inside (bounds_with x.stamp) (x ∷ xs) (fades from window.least (x ∷ xs) rise) (fades from (window.most +ℤ pos 1) (x ∷ xs) rise)
      (λ y before. before_both from window.least window.most y has.is_window.ordered before)
      (λ y before. out_of_window window x.stamp y has (early_out window.least window.most (y.stamp.ticks -ℤ from) before))
      (λ y late. out_of_window window x.stamp y has (late_out window.least window.most (y.stamp.ticks -ℤ from) late)) in
      sym (ap (λ (bs : List Bound). bs ++ flat_map (bounds_with x.stamp) xs) own)
      ∙ (all
      ∙ (ap (λ (n : ℕ). flat_map (bounds_with x.stamp) (take (n - count_before from window.least (x ∷ xs)) (drop (count_before from window.least (x ∷ xs)) (x ∷ xs)))) (sym is.end)
      ∙ ap (λ (n : ℕ). flat_map (bounds_with x.stamp) (take (span.end - n) (drop n (x ∷ xs)))) (sym is.start)))

  pub pushed_pairs : (window : Window) (rest later part : List Reading) (x : Reading) (t : ℤ) (span : Span) (all old new : List Bound) → Some x ≡ slice_get rest 0 → later ≡ drop 1 rest → part ≡ take (span.end - span.start) (drop span.start rest)
      → t ≡ x.stamp.ticks → HasWindow rule window → StampsRise rest → IsSpan window rest t span
      → all ≡ old ++ bounds_of_pairs bound_of (all_pairs rest) → new ≡ old ++ flat_map (λ (to : Reading). both_sides (bound_of x.stamp to.stamp)) part
      → all ≡ new ++ bounds_of_pairs bound_of (all_pairs later)
  pushed_pairs window [] later part x t span all old new first is part_is time has rise spans so_far push = absurd (none_is_some x (sym first))
  pushed_pairs window (y ∷ ys) later part x t span all old new first is part_is time has rise spans so_far push =
      let same : y ≡ x = some_same (sym first) in
      let of = of_first window y ys x t span same time spans in
      let here : flat_map (bounds_with y.stamp) ys ≡ flat_map (bounds_with x.stamp) part =
      span_bounds window y ys span has rise of ∙ (ap (λ (zs : List Reading). flat_map (bounds_with y.stamp) zs) (sym part_is) ∙ ap (λ (z : Reading). flat_map (bounds_with z.stamp) part) same) in
      so_far ∙ (ap (λ (bs : List Bound). old ++ bs) (pairs_first bound_of y ys)
      ∙ (ap (λ (bs : List Bound). old ++ (bs ++ bounds_of_pairs bound_of (all_pairs ys))) here
      ∙ (sym (append_assoc old (flat_map (bounds_with x.stamp) part) (bounds_of_pairs bound_of (all_pairs ys)))
      ∙ (ap (λ (bs : List Bound). bs ++ bounds_of_pairs bound_of (all_pairs ys)) (sym push)
      ∙ ap (λ (zs : List Reading). new ++ bounds_of_pairs bound_of (all_pairs zs)) (sym is)))))

  pub pushed_next : (rest later : List Reading) (x : Reading) (all old new : List Bound) → Some x ≡ slice_get rest 0 → later ≡ drop 1 rest
      → all ≡ old ++ bounds_of_pairs bound_of (neighbours rest) → new ≡ old ++ bounds_of_pairs bound_of (with_next x later)
      → all ≡ new ++ bounds_of_pairs bound_of (neighbours later)
  pushed_next [] later x all old new first is so_far push = absurd (none_is_some x (sym first))
  pushed_next (y ∷ ys) later x all old new first is so_far push =
      let same : y ≡ x = some_same (sym first) in
      let f = λ (pair : Reading × Reading). both_sides (bound_of pair.0.stamp pair.1.stamp) in
      let here : with_next y ys ≡ with_next x later = ap (λ (z : Reading). with_next z ys) same ∙ ap (λ (zs : List Reading). with_next x zs) (sym is) in
      so_far ∙ (ap (λ (ps : List (Reading × Reading)). old ++ flat_map f ps) (neighbours_first y ys)
      ∙ (ap (λ (bs : List Bound). old ++ bs) (flat_map-append f (with_next y ys) (neighbours ys))
      ∙ (ap (λ (ps : List (Reading × Reading)). old ++ (flat_map f ps ++ flat_map f (neighbours ys))) here
      ∙ (sym (append_assoc old (flat_map f (with_next x later)) (flat_map f (neighbours ys)))
      ∙ (ap (λ (bs : List Bound). bs ++ flat_map f (neighbours ys)) (sym push)
      ∙ ap (λ (zs : List Reading). new ++ flat_map f (neighbours zs)) (sym is))))))

-- at the end all bounds stand
pub all_pushed : (f : Reading × Reading → List Bound) (pairs : List Reading → List (Reading × Reading)) (rest : List Reading) (all old : List Bound) → pairs [] ≡ [] → None ≡ slice_get rest 0 → all ≡ old ++ flat_map f (pairs rest) → old ≡ all
all_pushed f pairs rest all old empty none so_far =
    sym (so_far ∙ (ap (λ (zs : List Reading). old ++ flat_map f (pairs zs)) (none_left rest none) ∙ (ap (λ (ps : List (Reading × Reading)). old ++ flat_map f ps) empty ∙ append-nil old)))
