-- The greatest window, and whether as many rows are held as may be.
use Rattle.std.proofs.Common.{◌≡◌, ℕ, suc, ◌+◌, ◌<◌, ◌≤◌, ◌==◌, ◌&&◌, Bool, false, ℤ, pos, ◌-ℤ◌, ◌≤ℤ◌, List, [], ◌∷◌, length, get_or, drop, refl, sym, ap, ◌∙◌, arith, drop-cons, add-one}
use Rattle.std.specs.Prelude.{int_le, nat_le}
use Rattle.std.specs.Int.{int_max}
use Rattle.std.proofs.lemmas.Bool.Decides.{nat_tests}
use Rattle.std.proofs.lemmas.Int.{ints, int_max_is}
use Rattle.rule_file.specs.declared.rules.SpeedRule.{SpeedRule}
use Rattle.series_rows.specs.Row.{RowView}
use Rattle.online_repair.specs.Accepted.{greatest_window}
use Rattle.online_repair.specs.Engines.{is_full_at}

-- the greatest window of the rules so far
pub record IsGreatest (rules : List SpeedRule) (i : ℕ) (most : ℤ) : Type 0 where
  pub from_zero : pos 0 ≤ℤ most
  pub is : greatest_window rules ≡ int_max (greatest_window (drop i rules)) most

max_left : (a b : ℤ) → b ≤ℤ int_max a b
max_left a b = omega (arith, ints, int_max_is a b)

max_is : (a b : ℤ) → b ≤ℤ a → int_max a b ≡ a
max_is a b h = omega (arith, ints, int_max_is a b, h)

three : (a b c : ℤ) → int_max (int_max a b) c ≡ int_max b (int_max a c)
three a b c = omega (arith, ints, int_max_is a b, int_max_is (int_max a b) c, int_max_is a c, int_max_is b (int_max a c))

max_some : (a b : ℤ) → pos 0 ≤ℤ b → pos 0 ≤ℤ int_max a b
max_some a b h = omega (arith, ints, int_max_is a b, h)

pub window_some : (rules : List SpeedRule) → pos 0 ≤ℤ greatest_window rules
window_some [] = omega (arith, ints)
window_some (rule ∷ rules) = max_some rule.window (greatest_window rules) (window_some rules)

pub none_yet : (rules : List SpeedRule) → IsGreatest rules 0 (pos 0)
none_yet rules = record { from_zero = window_some []; is = sym (max_is (greatest_window rules) (pos 0) (window_some rules)) }

swap : (w g m : ℤ) → int_max (int_max w g) m ≡ int_max g (int_max w m)
swap w g m = three w g m

pub one_more : (rules : List SpeedRule) (i : ℕ) (d : SpeedRule) (most : ℤ) → i < length rules → IsGreatest rules i most → IsGreatest rules (i + 1) (int_max (get_or rules i d).window most)
one_more rules i d most h is = record {
  from_zero = max_some (get_or rules i d).window most is.from_zero;
  is = is.is
      ∙ ap (λ (rs : List SpeedRule). int_max (greatest_window rs) most) (drop-cons rules i d h)
      ∙ swap (get_or rules i d).window (greatest_window (drop (suc i) rules)) most
      ∙ ap (λ (n : ℕ). int_max (greatest_window (drop n rules)) (int_max (get_or rules i d).window most)) (sym (add-one i));
}

drop_all : {A : Type 0} (xs : List A) → drop (length xs) xs ≡ []
drop_all [] = refl
drop_all (x ∷ xs) = drop_all xs

pub all_seen : (rules : List SpeedRule) (most : ℤ) → IsGreatest rules (length rules) most → most ≡ greatest_window rules
all_seen rules most is =
    let none = ap (λ (rs : List SpeedRule). int_max (greatest_window rs) most) (drop_all rules) in
    let same : int_max (pos 0) most ≡ most = omega (arith, ints, int_max_is (pos 0) most, is.from_zero) in
    sym (is.is ∙ none ∙ same)

less_than : (long hold : ℕ) → long ≤ hold → (long == hold) ≡ false → nat_le hold long ≡ false
less_than long hold h e = grind (arith, nat_tests)

pub not_full : (hold : ℕ) (most now : ℤ) (items : List RowView) → length items ≤ hold → (full : Bool) → full ≡ (length items == hold) → full ≡ false → full ≡ is_full_at hold most items now
not_full hold most now [] few full is none = none
not_full hold most now (oldest ∷ others) few full is none =
    none ∙ sym (ap (λ (b : Bool). b && int_le (now -ℤ oldest.ticks) most) (less_than (length (oldest ∷ others)) hold few (sym is ∙ none)))
