-- A reading has one median of its candidates only.
use Rattle.std.proofs.Common.{◌≡◌, ℤ, ◌-ℤ◌, List, [], ◌∷◌, refl, sym, ap, ◌∙◌, subst, arith}
use Rattle.std.specs.List.{AllZip}
use Rattle.fix_point.specs.RateLimits.{RateLimits}
use Rattle.fix_point.proofs.Rates.{one_floor, one_ceil}
use Rattle.window_median.specs.declared.cost.Near.{Near}
use Rattle.window_median.specs.LocalCost.{candidates}
use Rattle.window_median.specs.Median.{IsMedian, IsOdd}
use Rattle.window_median.proofs.Costs.{length-starts}
use Rattle.window_median.proofs.Ranks.{only_median}
use Rattle.order_window.specs.declared.key.Key.{Key}
use Rattle.order_window.specs.Window.{IsMedianOf, IsSuccessor, Window}

same_near : (a b : Near) → a.value ≡ b.value → a.least ≡ b.least → a.most ≡ b.most → a ≡ b
same_near a b e f g =
    let of_value : ℤ → Near = λ value. record { value = value; least = a.least; most = a.most } in
    let of_least : ℤ → Near = λ least. record { value = b.value; least = least; most = a.most } in
    let of_most : ℤ → Near = λ most. record { value = b.value; least = b.least; most = most } in
    ap of_value e ∙ ap of_least f ∙ ap of_most g

one_successor : (rates : RateLimits) (own key : Key) (a b : Near) → IsSuccessor rates own key a → IsSuccessor rates own key b → a ≡ b
one_successor rates own key a b one other =
    same_near a b (one.value ∙ sym other.value)
    (one_ceil rates.min rates.decimals (key.ticks -ℤ own.ticks) a.least b.least one.steps.ceil other.steps.ceil)
    (one_floor rates.max rates.decimals (key.ticks -ℤ own.ticks) a.most b.most one.steps.floor other.steps.floor)

cons_same : (a b : Near) (xs ys : List Near) → a ≡ b → xs ≡ ys → a ∷ xs ≡ b ∷ ys
cons_same a b xs ys e f = ap (λ x. x ∷ xs) e ∙ ap (λ rest. b ∷ rest) f

one_list : (rates : RateLimits) (own : Key) (keys : List Key) (near others : List Near) → AllZip (IsSuccessor rates own) keys near → AllZip (IsSuccessor rates own) keys others → near ≡ others
one_list rates own [] [] [] one other = refl
one_list rates own [] [] (b ∷ others) one other = absurd other
one_list rates own [] (a ∷ near) others one other = absurd one
one_list rates own (key ∷ keys) [] others one other = absurd one
one_list rates own (key ∷ keys) (a ∷ near) [] one other = absurd other
one_list rates own (key ∷ keys) (a ∷ near) (b ∷ others) one other =
    cons_same a b near others (one_successor rates own key a b one.0 other.0) (one_list rates own keys near others one.1 other.1)

odd : (own : ℤ) (near : List Near) → IsOdd (candidates own near)
odd own near = omega (arith, length-starts near)

pub only_median_of : (window : Window) (own : Key) (one other : ℤ) → IsMedianOf window own one → IsMedianOf window own other → one ≡ other
only_median_of window own one other first second =
    let same = one_list window.rates own window.keys first.near second.near first.successors second.successors in
    let P : List Near → Type 0 = λ near. IsMedian (candidates own.value near) one in
    only_median (candidates own.value second.near) one other (odd own.value second.near) (subst P same first.middle) second.middle
