-- The lists of a certificate as lines, and which line comes next in them.
use Rattle.std.proofs.Common.{◌≡◌, ◌≢◌, ℕ, suc, Bool, true, false, ◌&&◌, cond, eqb, eqb-true, List, [], ◌∷◌, ◌++◌, map, length, append_assoc, append-nil, Some, None, refl, sym, ap, ◌∙◌, subst, arith}
use Rattle.std.proofs.lemmas.Bool.{and_parts, and_from}
use Rattle.std.proofs.lemmas.List.{map-append}
use Rattle.words.proofs.Lists.{all_push}
use Rattle.screen_model.specs.declared.bound.FlowItem.{FlowItem}
use Rattle.cert_format.specs.declared.cert.SetLine.{SetLine}
use Rattle.cert_format.specs.declared.line.Line.{Line}
use Rattle.cert_format.specs.declared.line.Line.TheVariants.{Header, ClaimRepair, ClaimNone, Total, Paid, Set, Flow, Step, End}
use Rattle.cert_format.specs.Line.{IsSet, IsItem, IsLine}
use Rattle.screen_model.specs.Order.{Rises, item_key}
use Rattle.cert_format.specs.Order.{set_key}
use Rattle.cert_format.specs.Cert.{AreLists}
use Rattle.cert_format.specs.Draft.{follows, lists_with}

-- ---- what rises

pub rises_push : {A : Type 0} (key : A → List ℕ) (xs : List A) (x : A) → Rises key xs → follows key xs x ≡ true → Rises key (xs ++ x ∷ [])
rises_push key [] x rises after = tt
rises_push key (y ∷ []) x rises after = (after, tt)
rises_push key (y ∷ z ∷ xs) x rises after = (rises.0, rises_push key (z ∷ xs) x rises.1 after)

pub follows_in : {A : Type 0} (key : A → List ℕ) (xs : List A) (x : A) (more : List A) → Rises key (xs ++ x ∷ more) → follows key xs x ≡ true
follows_in key [] x more rises = refl
follows_in key (y ∷ []) x more rises = rises.0
follows_in key (y ∷ z ∷ xs) x more rises = follows_in key (z ∷ xs) x more rises.1

-- ---- one list, and the line `end`

-- the next line is that of one more member, or `end` after the last one
pub data NextOf {A : Type 0} (line_of : A → Line) (some all : List A) (line : Line) (more : List Line) : Type 0 where
  member : (x : A) (others : List A) → line ≡ line_of x → all ≡ some ++ x ∷ others → NextOf line_of some all line more
  last : line ≡ End → all ≡ some → more ≡ [] → NextOf line_of some all line more

next_more : {A : Type 0} (line_of : A → Line) (some all : List A) (line : Line) (more : List Line) (x y : A) → x ≡ y → NextOf line_of some all line more → NextOf line_of (x ∷ some) (y ∷ all) line more
next_more line_of some all line more x y e (member z others is joined) = member z others is (cc (e, joined))
next_more line_of some all line more x y e (last is all_is more_is) = last is (cc (e, all_is)) more_is

-- the lines of members tell them, and none is `end`
pub record IsKind {A : Type 0} (line_of : A → Line) : Type 0 where
  pub same : (x y : A) → line_of x ≡ line_of y → x ≡ y
  pub not_end : (x : A) → line_of x ≢ End

pub next_of : {A : Type 0} (line_of : A → Line) → IsKind line_of → (some all : List A) (line : Line) (more : List Line) → map line_of all ++ End ∷ [] ≡ map line_of some ++ line ∷ more → NextOf line_of some all line more
next_of line_of kind [] [] line more e = last (cc) refl (cc)
next_of line_of kind [] (y ∷ all) line more e = member y all (cc) refl
next_of line_of kind (x ∷ some) [] line more e = let same : line_of x ≡ End = cc in absurd (kind.not_end x same)
next_of line_of kind (x ∷ some) (y ∷ all) line more e =
    let same : line_of x ≡ line_of y = cc in
    next_more line_of some all line more x y (kind.same x y same) (next_of line_of kind some all line more (cc))

pub set_kind : IsKind Set
set_kind = record { same = λ x y e. cc; not_end = λ x e. absurd (cc) }

pub flow_kind : IsKind Flow
flow_kind = record { same = λ x y e. cc; not_end = λ x e. absurd (cc) }

pub step_kind : IsKind Step
step_kind = record { same = λ x y e. cc; not_end = λ x e. absurd (cc) }

-- ---- the two lists of a repair

pub data NextIn (some all : List SetLine) (some_flow flow : List FlowItem) (line : Line) (more : List Line) : Type 0 where
  set_next : (x : SetLine) (others : List SetLine) → line ≡ Set x → all ≡ some ++ x ∷ others → some_flow ≡ [] → NextIn some all some_flow flow line more
  item_next : (x : FlowItem) (others : List FlowItem) → line ≡ Flow x → all ≡ some → flow ≡ some_flow ++ x ∷ others → NextIn some all some_flow flow line more
  ends : line ≡ End → all ≡ some → flow ≡ some_flow → more ≡ [] → NextIn some all some_flow flow line more

next_set : (some all : List SetLine) (some_flow flow : List FlowItem) (line : Line) (more : List Line) (x y : SetLine) → x ≡ y → NextIn some all some_flow flow line more → NextIn (x ∷ some) (y ∷ all) some_flow flow line more
next_set some all some_flow flow line more x y e (set_next z others is joined none) = set_next z others is (cc (e, joined)) none
next_set some all some_flow flow line more x y e (item_next z others is all_is joined) = item_next z others is (cc (e, all_is)) joined
next_set some all some_flow flow line more x y e (ends is all_is flow_is more_is) = ends is (cc (e, all_is)) flow_is more_is

after_sets : (some_flow flow : List FlowItem) (line : Line) (more : List Line) → NextOf Flow some_flow flow line more → NextIn [] [] some_flow flow line more
after_sets some_flow flow line more (member z others is joined) = item_next z others is refl joined
after_sets some_flow flow line more (last is flow_is more_is) = ends is refl flow_is more_is

pub next_in : (some all : List SetLine) (some_flow flow : List FlowItem) (line : Line) (more : List Line)
    → (map Set all ++ map Flow flow) ++ End ∷ [] ≡ (map Set some ++ map Flow some_flow) ++ line ∷ more → NextIn some all some_flow flow line more
next_in [] [] some_flow flow line more e = after_sets some_flow flow line more (next_of Flow flow_kind some_flow flow line more e)
next_in [] (y ∷ all) [] flow line more e = set_next y all (cc) refl refl
next_in [] (y ∷ all) (x ∷ some_flow) flow line more e = absurd (cc)
next_in (x ∷ some) [] some_flow [] line more e = absurd (cc)
next_in (x ∷ some) [] some_flow (y ∷ flow) line more e = absurd (cc)
next_in (x ∷ some) (y ∷ all) some_flow flow line more e = next_set some all some_flow flow line more x y (cc) (next_in some all some_flow flow line more (cc))

-- ---- one more line of the lists

-- the lists are within limits, and their lines are those of the lists before and one more
pub record AreMore (sets : List SetLine) (flow : List FlowItem) (line : Line) (lists : List SetLine × List FlowItem) : Type 0 where
  pub are : AreLists lists.0 lists.1
  pub lines : map Set lists.0 ++ map Flow lists.1 ≡ (map Set sets ++ map Flow flow) ++ line ∷ []

pub none_left : {A : Type 0} (xs : List A) → eqb (length xs) 0 ≡ true → xs ≡ []
none_left [] e = refl
none_left (x ∷ xs) e = absurd (let long : suc (length xs) ≡ 0 = eqb-true (suc (length xs)) 0 e in omega arith)

set_more : (sets : List SetLine) (flow : List FlowItem) (line : SetLine) → AreLists sets flow → IsSet line → flow ≡ [] → follows set_key sets line ≡ true → AreMore sets flow (Set line) (sets ++ line ∷ [], flow)
set_more sets flow line are is none after = record {
  are = record {
    each_set = all_push IsSet sets line are.each_set is;
    sets_rise = rises_push set_key sets line are.sets_rise after;
    each_item = are.each_item;
    flow_rises = are.flow_rises;
  };
  lines = let P : List FlowItem → Type 0 = λ items. map Set (sets ++ line ∷ []) ++ map Flow items ≡ (map Set sets ++ map Flow items) ++ Set line ∷ [] in
      subst P (sym none) (append-nil (map Set (sets ++ line ∷ [])) ∙ map-append Set sets (line ∷ []) ∙ ap (λ lines. lines ++ Set line ∷ []) (sym (append-nil (map Set sets))));
}

item_more : (sets : List SetLine) (flow : List FlowItem) (item : FlowItem) → AreLists sets flow → IsItem item → follows item_key flow item ≡ true → AreMore sets flow (Flow item) (sets, flow ++ item ∷ [])
item_more sets flow item are is after = record {
  are = record {
    each_set = are.each_set;
    sets_rise = are.sets_rise;
    each_item = all_push IsItem flow item are.each_item is;
    flow_rises = rises_push item_key flow item are.flow_rises after;
  };
  lines = ap (λ lines. map Set sets ++ lines) (map-append Flow flow (item ∷ [])) ∙ sym (append_assoc (map Set sets) (map Flow flow) (Flow item ∷ []));
}

if_some : {A : Type 0} (b : Bool) (x y : A) → cond b (Some x) None ≡ Some y → (b ≡ true) × (x ≡ y)
if_some true x y e = (refl, cc)
if_some false x y e = absurd (cc)

more_set : (sets : List SetLine) (flow : List FlowItem) (line : SetLine) (lists : List SetLine × List FlowItem) → AreLists sets flow → IsSet line → lists_with sets flow (Set line) ≡ Some lists → AreMore sets flow (Set line) lists
more_set sets flow line lists are is e =
    let some = if_some (eqb (length flow) 0 && follows set_key sets line) (sets ++ line ∷ [], flow) lists e in
    let tests = and_parts (eqb (length flow) 0) (follows set_key sets line) some.0 in
    subst (AreMore sets flow (Set line)) some.1 (set_more sets flow line are is (none_left flow tests.0) tests.1)

more_item : (sets : List SetLine) (flow : List FlowItem) (item : FlowItem) (lists : List SetLine × List FlowItem) → AreLists sets flow → IsItem item → lists_with sets flow (Flow item) ≡ Some lists → AreMore sets flow (Flow item) lists
more_item sets flow item lists are is e =
    let some = if_some (follows item_key flow item) (sets, flow ++ item ∷ []) lists e in
    subst (AreMore sets flow (Flow item)) some.1 (item_more sets flow item are is some.0)

pub lists_more : (sets : List SetLine) (flow : List FlowItem) (line : Line) (lists : List SetLine × List FlowItem) → AreLists sets flow → IsLine line → lists_with sets flow line ≡ Some lists → AreMore sets flow line lists
lists_more sets flow (Set line) lists are is e = more_set sets flow line lists are is e
lists_more sets flow (Flow item) lists are is e = more_item sets flow item lists are is e
lists_more sets flow (Header version) lists are is e = absurd (cc)
lists_more sets flow ClaimRepair lists are is e = absurd (cc)
lists_more sets flow ClaimNone lists are is e = absurd (cc)
lists_more sets flow (Total total) lists are is e = absurd (cc)
lists_more sets flow (Paid paid) lists are is e = absurd (cc)
lists_more sets flow (Step name) lists are is e = absurd (cc)
lists_more sets flow End lists are is e = absurd (cc)

-- ---- a line of greater lists may come next

-- it is a member of the lists, and they may have it; or it is `end`, and they are the greater ones
pub data MayFollow (sets all : List SetLine) (some flow : List FlowItem) (line : Line) (more : List Line) : Type 0 where
  in_lists : (lists : List SetLine × List FlowItem) → lists_with sets some line ≡ Some lists → MayFollow sets all some flow line more
  at_end : line ≡ End → all ≡ sets → flow ≡ some → more ≡ [] → MayFollow sets all some flow line more

if_true : {A : Type 0} (b : Bool) (x : A) → b ≡ true → cond b (Some x) None ≡ Some x
if_true b x e = ap (λ t. cond t (Some x) None) e

may_follow_by : (sets all : List SetLine) (some flow : List FlowItem) (line : Line) (more : List Line) → AreLists all flow → NextIn sets all some flow line more → MayFollow sets all some flow line more
may_follow_by sets all some flow line more are (set_next x others is joined none) =
    let after : follows set_key sets x ≡ true = follows_in set_key sets x others (subst (Rises set_key) joined are.sets_rise) in
    let empty : eqb (length some) 0 ≡ true = ap (λ s. eqb (length s) 0) none in
    in_lists (sets ++ x ∷ [], some) (ap (lists_with sets some) is ∙ if_true (eqb (length some) 0 && follows set_key sets x) (sets ++ x ∷ [], some) (and_from (eqb (length some) 0) (follows set_key sets x) empty after))
may_follow_by sets all some flow line more are (item_next x others is all_is joined) =
    let after : follows item_key some x ≡ true = follows_in item_key some x others (subst (Rises item_key) joined are.flow_rises) in
    in_lists (sets, some ++ x ∷ []) (ap (lists_with sets some) is ∙ if_true (follows item_key some x) (sets, some ++ x ∷ []) after)
may_follow_by sets all some flow line more are (ends is all_is flow_is more_is) = at_end is all_is flow_is more_is

pub may_follow : (sets all : List SetLine) (some flow : List FlowItem) (line : Line) (more : List Line) → AreLists all flow
    → (map Set all ++ map Flow flow) ++ End ∷ [] ≡ (map Set sets ++ map Flow some) ++ line ∷ more → MayFollow sets all some flow line more
may_follow sets all some flow line more are e = may_follow_by sets all some flow line more are (next_in sets all some flow line more e)
