-- A draft and the lines that it stands for.
use Rattle.std.proofs.Common.{◌≡◌, ℤ, pos, List, [], ◌∷◌, ◌++◌, map, append_assoc, append-nil, Option, Some, None, refl, sym, ap, ◌∙◌, subst, arith}
use Rattle.std.specs.Option.{option_map}
use Rattle.std.specs.List.{AllByRecursion}
use Rattle.std.proofs.lemmas.Int.{ints}
use Rattle.std.proofs.lemmas.List.{map-append}
use Rattle.words.proofs.Lists.{all_append, all_map, all_push}
use Rattle.screen_model.specs.declared.bound.BoundName.{BoundName}
use Rattle.screen_model.specs.declared.bound.FlowItem.{FlowItem}
use Rattle.screen_model.specs.declared.bound.Side.TheVariants.{Up}
use Rattle.cert_format.specs.declared.cert.SetLine.{SetLine}
use Rattle.cert_format.specs.declared.cert.Cert.{Cert}
use Rattle.cert_format.specs.declared.cert.Cert.TheVariants.{Repair, Priced, NoSeries}
use Rattle.cert_format.specs.declared.draft.Draft.{Draft}
use Rattle.cert_format.specs.declared.draft.Draft.TheVariants.{Empty, Headed, Claimed, Totalled, Listed, Ended}
use Rattle.cert_format.specs.declared.line.Version.{Version}
use Rattle.cert_format.specs.declared.line.Version.TheVariants.{One, Two}
use Rattle.cert_format.specs.declared.line.Line.{Line}
use Rattle.cert_format.specs.declared.line.Line.TheVariants.{Header, ClaimRepair, ClaimNone, Total, Paid, Set, Flow, Step, End}
use Rattle.cert_format.specs.Line.{IsTotal, IsName, IsLine}
use Rattle.cert_format.specs.Cert.{AreLists, HasText, lines_before_end, lines_of_cert}
use Rattle.cert_format.specs.Draft.{lists_with, steps_with, with_line, after_nothing, after_header, after_claim, after_total, after_lists, ended, next, whole}
use Rattle.cert_format.proofs.Members.{AreMore, lists_more, MayFollow, in_lists, at_end, may_follow, NextOf, member, last, next_of, step_kind}

-- the lines that have been read
abbrev pub so_far : Draft → List Line
so_far Empty = []
so_far (Headed version) = Header version ∷ []
so_far (Claimed version) = Header version ∷ ClaimRepair ∷ []
so_far (Totalled total) = Header Two ∷ ClaimRepair ∷ Total total ∷ []
so_far (Listed cert) = lines_before_end cert
so_far (Ended cert) = lines_of_cert cert

-- the certificate has a text, or lacks no more of it than a step
abbrev pub HasLists : Cert → Type 0
HasLists (Repair total sets flow) = IsTotal total × AreLists sets flow
HasLists (Priced total paid sets flow) = IsTotal total × IsTotal paid × AreLists sets flow
HasLists (NoSeries steps) = AllByRecursion IsName steps

abbrev pub IsDraft : Draft → Type 0
IsDraft Empty = Unit {0}
IsDraft (Headed version) = Unit {0}
IsDraft (Claimed version) = Unit {0}
IsDraft (Totalled total) = IsTotal total
IsDraft (Listed cert) = HasLists cert
IsDraft (Ended cert) = HasText cert

-- ---- a line that comes next

pub record IsAfter (draft : Draft) (line : Line) (later : Draft) : Type 0 where
  pub is : IsDraft later
  pub lines : so_far later ≡ so_far draft ++ line ∷ []

some_same : {A : Type 0} (x y : A) → Some x ≡ Some y → x ≡ y
some_same x y e = cc

no_lists : AreLists [] []
no_lists = record { each_set = tt; sets_rise = tt; each_item = tt; flow_rises = tt }

is_after : (draft : Draft) (line : Line) (result later : Draft) → Some result ≡ Some later → IsAfter draft line result → IsAfter draft line later
is_after draft line result later e after = subst (IsAfter draft line) (some_same result later e) after

nothing_next : (line : Line) (later : Draft) → after_nothing line ≡ Some later → IsAfter Empty line later
nothing_next (Header version) later e = is_after Empty (Header version) (Headed version) later e (record { is = tt; lines = refl })
nothing_next _ later e = absurd (cc)

header_next : (version : Version) (line : Line) (later : Draft) → after_header version line ≡ Some later → IsAfter (Headed version) line later
header_next One ClaimRepair later e = is_after (Headed One) ClaimRepair (Claimed One) later e (record { is = tt; lines = refl })
header_next Two ClaimRepair later e = is_after (Headed Two) ClaimRepair (Claimed Two) later e (record { is = tt; lines = refl })
header_next One ClaimNone later e = is_after (Headed One) ClaimNone (Listed (NoSeries [])) later e (record { is = tt; lines = refl })
header_next One _ later e = absurd (cc)
header_next Two _ later e = absurd (cc)

claim_next : (version : Version) (line : Line) (later : Draft) → IsLine line → after_claim version line ≡ Some later → IsAfter (Claimed version) line later
claim_next One (Total total) later is e = is_after (Claimed One) (Total total) (Listed (Repair total [] [])) later e (record { is = (is, no_lists); lines = refl })
claim_next Two (Total total) later is e = is_after (Claimed Two) (Total total) (Totalled total) later e (record { is = is; lines = refl })
claim_next One _ later is e = absurd (cc)
claim_next Two _ later is e = absurd (cc)

total_next : (total : ℤ) (line : Line) (later : Draft) → IsTotal total → IsLine line → after_total total line ≡ Some later → IsAfter (Totalled total) line later
total_next total (Paid paid) later is_total is e = is_after (Totalled total) (Paid paid) (Listed (Priced total paid [] [])) later e (record { is = (is_total, is, no_lists); lines = refl })
total_next total _ later is_total is e = absurd (cc)

end_next : (cert : Cert) (later : Draft) → HasLists cert → ended cert ≡ Some later → IsAfter (Listed cert) End later
end_next (Repair total sets flow) later has e = is_after (Listed (Repair total sets flow)) End (Ended (Repair total sets flow)) later e (record { is = has; lines = refl })
end_next (Priced total paid sets flow) later has e = is_after (Listed (Priced total paid sets flow)) End (Ended (Priced total paid sets flow)) later e (record { is = has; lines = refl })
end_next (NoSeries []) later has e = absurd (cc)
end_next (NoSeries (name ∷ steps)) later has e =
    is_after (Listed (NoSeries (name ∷ steps))) End (Ended (NoSeries (name ∷ steps))) later e (record { is = (omega arith, has); lines = refl })

-- the certificate with one more line in its lists
record IsLonger (cert : Cert) (line : Line) (longer : Cert) : Type 0 where
  pub has : HasLists longer
  pub lines : lines_before_end longer ≡ lines_before_end cert ++ line ∷ []

is_longer : (cert : Cert) (line : Line) (result longer : Cert) → Some result ≡ Some longer → IsLonger cert line result → IsLonger cert line longer
is_longer cert line result longer e is = subst (IsLonger cert line) (some_same result longer e) is

repair_longer : (total : ℤ) (sets : List SetLine) (flow : List FlowItem) (line : Line) (found : Option (List SetLine × List FlowItem)) (longer : Cert) → IsTotal total
    → ((lists : List SetLine × List FlowItem) → found ≡ Some lists → AreMore sets flow line lists)
    → option_map (λ lists. Repair total lists.0 lists.1) found ≡ Some longer → IsLonger (Repair total sets flow) line longer
repair_longer total sets flow line None longer is_total more e = absurd (cc)
repair_longer total sets flow line (Some lists) longer is_total more e =
    let here = more lists refl in
    is_longer (Repair total sets flow) line (Repair total lists.0 lists.1) longer e
    (record { has = (is_total, here.are); lines = ap (λ lines. Header One ∷ ClaimRepair ∷ Total total ∷ lines) here.lines })

priced_longer : (total paid : ℤ) (sets : List SetLine) (flow : List FlowItem) (line : Line) (found : Option (List SetLine × List FlowItem)) (longer : Cert) → IsTotal total → IsTotal paid
    → ((lists : List SetLine × List FlowItem) → found ≡ Some lists → AreMore sets flow line lists)
    → option_map (λ lists. Priced total paid lists.0 lists.1) found ≡ Some longer → IsLonger (Priced total paid sets flow) line longer
priced_longer total paid sets flow line None longer is_total is_paid more e = absurd (cc)
priced_longer total paid sets flow line (Some lists) longer is_total is_paid more e =
    let here = more lists refl in
    is_longer (Priced total paid sets flow) line (Priced total paid lists.0 lists.1) longer e
    (record { has = (is_total, is_paid, here.are); lines = ap (λ lines. Header Two ∷ ClaimRepair ∷ Total total ∷ Paid paid ∷ lines) here.lines })

steps_longer : (steps : List BoundName) (line : Line) (longer : Cert) → AllByRecursion IsName steps → IsLine line → steps_with steps line ≡ Some longer → IsLonger (NoSeries steps) line longer
steps_longer steps (Step name) longer are is e =
    is_longer (NoSeries steps) (Step name) (NoSeries (steps ++ name ∷ [])) longer e
    (record { has = all_push IsName steps name are is; lines = ap (λ lines. Header One ∷ ClaimNone ∷ lines) (map-append Step steps (name ∷ [])) })
steps_longer steps _ longer are is e = absurd (cc)

longer : (cert : Cert) (line : Line) (later : Cert) → HasLists cert → IsLine line → with_line cert line ≡ Some later → IsLonger cert line later
longer (Repair total sets flow) line later has is e =
    repair_longer total sets flow line (lists_with sets flow line) later has.0 (λ lists found. lists_more sets flow line lists has.1 is found) e
longer (Priced total paid sets flow) line later has is e =
    priced_longer total paid sets flow line (lists_with sets flow line) later has.0 has.1 (λ lists found. lists_more sets flow line lists has.2 is found) e
longer (NoSeries steps) line later has is e = steps_longer steps line later has is e

listed_next : (cert : Cert) (line : Line) (found : Option Cert) (later : Draft) → ((longer : Cert) → found ≡ Some longer → IsLonger cert line longer) → option_map Listed found ≡ Some later → IsAfter (Listed cert) line later
listed_next cert line None later longer e = absurd (cc)
listed_next cert line (Some more) later longer e =
    let here = longer more refl in
    is_after (Listed cert) line (Listed more) later e (record { is = here.has; lines = here.lines })

lists_next : (cert : Cert) (line : Line) (later : Draft) → HasLists cert → IsLine line → after_lists cert line ≡ Some later → IsAfter (Listed cert) line later
lists_next cert End later has is e = end_next cert later has e
lists_next cert (Header version) later has is e = listed_next cert (Header version) (with_line cert (Header version)) later (λ more. longer cert (Header version) more has is) e
lists_next cert ClaimRepair later has is e = listed_next cert ClaimRepair (with_line cert ClaimRepair) later (λ more. longer cert ClaimRepair more has is) e
lists_next cert ClaimNone later has is e = listed_next cert ClaimNone (with_line cert ClaimNone) later (λ more. longer cert ClaimNone more has is) e
lists_next cert (Total total) later has is e = listed_next cert (Total total) (with_line cert (Total total)) later (λ more. longer cert (Total total) more has is) e
lists_next cert (Paid paid) later has is e = listed_next cert (Paid paid) (with_line cert (Paid paid)) later (λ more. longer cert (Paid paid) more has is) e
lists_next cert (Set line) later has is e = listed_next cert (Set line) (with_line cert (Set line)) later (λ more. longer cert (Set line) more has is) e
lists_next cert (Flow item) later has is e = listed_next cert (Flow item) (with_line cert (Flow item)) later (λ more. longer cert (Flow item) more has is) e
lists_next cert (Step name) later has is e = listed_next cert (Step name) (with_line cert (Step name)) later (λ more. longer cert (Step name) more has is) e

-- the draft with a line that may come next
pub goes_on : (draft : Draft) (line : Line) (later : Draft) → IsDraft draft → IsLine line → next draft line ≡ Some later → IsAfter draft line later
goes_on Empty line later is is_line e = nothing_next line later e
goes_on (Headed version) line later is is_line e = header_next version line later e
goes_on (Claimed version) line later is is_line e = claim_next version line later is_line e
goes_on (Totalled total) line later is is_line e = total_next total line later is is_line e
goes_on (Listed cert) line later is is_line e = lists_next cert line later is is_line e
goes_on (Ended cert) line later is is_line e = absurd (cc)

-- ---- the next line of a certificate may come next

-- the greater certificate has one more member in a list, and the lesser may have it; or it ends, and they are one
data MayHave (cert all : Cert) (line : Line) (more : List Line) : Type 0 where
  longer_by : (later : Cert) → with_line cert line ≡ Some later → MayHave cert all line more
  same_end : line ≡ End → all ≡ cert → more ≡ [] → MayHave cert all line more

repair_may : (total : ℤ) (sets all : List SetLine) (some flow : List FlowItem) (line : Line) (more : List Line) → MayFollow sets all some flow line more → MayHave (Repair total sets some) (Repair total all flow) line more
repair_may total sets all some flow line more (in_lists lists e) = longer_by (Repair total lists.0 lists.1) (ap (option_map (λ found. Repair total found.0 found.1)) e)
repair_may total sets all some flow line more (at_end is sets_same flow_same none) = same_end is (cc) none

priced_may : (total paid : ℤ) (sets all : List SetLine) (some flow : List FlowItem) (line : Line) (more : List Line) → MayFollow sets all some flow line more → MayHave (Priced total paid sets some) (Priced total paid all flow) line more
priced_may total paid sets all some flow line more (in_lists lists e) = longer_by (Priced total paid lists.0 lists.1) (ap (option_map (λ found. Priced total paid found.0 found.1)) e)
priced_may total paid sets all some flow line more (at_end is sets_same flow_same none) = same_end is (cc) none

steps_may : (steps all : List BoundName) (line : Line) (more : List Line) → NextOf Step steps all line more → MayHave (NoSeries steps) (NoSeries all) line more
steps_may steps all line more (member name others is joined) = longer_by (NoSeries (steps ++ name ∷ [])) (ap (steps_with steps) is)
steps_may steps all line more (last is same none) = same_end is (cc) none

may_have : (cert all : Cert) (line : Line) (more : List Line) → HasLists all → lines_of_cert all ≡ lines_before_end cert ++ line ∷ more → MayHave cert all line more
may_have (Repair total sets some) (Repair other all flow) line more has e =
    let same : total ≡ other = cc in
    subst (λ t. MayHave (Repair total sets some) (Repair t all flow) line more) same (repair_may total sets all some flow line more (may_follow sets all some flow line more has.1 (cc)))
may_have (Priced total paid sets some) (Priced other other_paid all flow) line more has e =
    let same : total ≡ other = cc in
    let same_paid : paid ≡ other_paid = cc in
    subst (λ t. MayHave (Priced total paid sets some) (Priced t other_paid all flow) line more) same (
    subst (λ p. MayHave (Priced total paid sets some) (Priced total p all flow) line more) same_paid (priced_may total paid sets all some flow line more (may_follow sets all some flow line more has.2 (cc)))
    )
may_have (NoSeries steps) (NoSeries all) line more has e = steps_may steps all line more (next_of Step step_kind steps all line more (cc))
may_have (Repair total sets some) (Priced other paid all flow) line more has e = absurd (cc)
may_have (Repair total sets some) (NoSeries steps) line more has e = absurd (cc)
may_have (Priced total paid sets some) (Repair other all flow) line more has e = absurd (cc)
may_have (Priced total paid sets some) (NoSeries steps) line more has e = absurd (cc)
may_have (NoSeries steps) (Repair total sets flow) line more has e = absurd (cc)
may_have (NoSeries steps) (Priced total paid sets flow) line more has e = absurd (cc)

end_is_no_member : (cert later : Cert) → with_line cert End ≡ Some later → ⊥
end_is_no_member (Repair total sets flow) later e = absurd (cc)
end_is_no_member (Priced total paid sets flow) later e = absurd (cc)
end_is_no_member (NoSeries steps) later e = absurd (cc)

-- what follows a draft's line `end`
ends_once : (cert all : Cert) (more : List Line) → MayHave cert all End more → (all ≡ cert) × (more ≡ [])
ends_once cert all more (longer_by later e) = absurd (end_is_no_member cert later e)
ends_once cert all more (same_end is same none) = (same, none)

pub has_lists : (cert : Cert) → HasText cert → HasLists cert
has_lists (Repair total sets flow) has = has
has_lists (Priced total paid sets flow) has = has
has_lists (NoSeries steps) has = has.1

-- two certificates with the same lines are equal
pub one_cert : (one other : Cert) → HasText one → lines_of_cert one ≡ lines_of_cert other → one ≡ other
one_cert one other has e = (ends_once other one [] (may_have other one End [] (has_lists one has) e)).0

-- the draft with some line may be had
pub record MayCome (draft : Draft) (line : Line) : Type 0 where
  pub later : Draft
  pub is : next draft line ≡ Some later

may_end : (cert : Cert) → HasText cert → MayCome (Listed cert) End
may_end (Repair total sets flow) has = record { later = Ended (Repair total sets flow); is = refl }
may_end (Priced total paid sets flow) has = record { later = Ended (Priced total paid sets flow); is = refl }
may_end (NoSeries []) has = absurd (omega (arith, has.0))
may_end (NoSeries (name ∷ steps)) has = record { later = Ended (NoSeries (name ∷ steps)); is = refl }

may_list : (cert : Cert) (line : Line) (later : Cert) → with_line cert line ≡ Some later → MayCome (Listed cert) line
may_list cert End later e = absurd (end_is_no_member cert later e)
may_list cert _ later e = record { later = Listed later; is = ap (option_map Listed) e }

may_come_by : (cert all : Cert) (line : Line) (more : List Line) → HasText all → MayHave cert all line more → MayCome (Listed cert) line
may_come_by cert all line more has (longer_by later e) = may_list cert line later e
may_come_by cert all line more has (same_end is same none) = subst (MayCome (Listed cert)) (sym is) (may_end cert (subst HasText same has))

known : (draft : Draft) (line known_line : Line) (later : Draft) → known_line ≡ line → next draft known_line ≡ Some later → MayCome draft line
known draft line known_line later e is = subst (MayCome draft) e (record { later = later; is = is })

pub may_come : (draft : Draft) (line : Line) (cert : Cert) (more : List Line) → HasText cert → lines_of_cert cert ≡ so_far draft ++ line ∷ more → MayCome draft line
may_come Empty line (Repair total sets flow) more has e = known Empty line (Header One) (Headed One) (cc) refl
may_come Empty line (Priced total paid sets flow) more has e = known Empty line (Header Two) (Headed Two) (cc) refl
may_come Empty line (NoSeries steps) more has e = known Empty line (Header One) (Headed One) (cc) refl
may_come (Headed One) line (Repair total sets flow) more has e = known (Headed One) line ClaimRepair (Claimed One) (cc) refl
may_come (Headed One) line (Priced total paid sets flow) more has e = absurd (cc)
may_come (Headed One) line (NoSeries steps) more has e = known (Headed One) line ClaimNone (Listed (NoSeries [])) (cc) refl
may_come (Headed Two) line (Repair total sets flow) more has e = absurd (cc)
may_come (Headed Two) line (Priced total paid sets flow) more has e = known (Headed Two) line ClaimRepair (Claimed Two) (cc) refl
may_come (Headed Two) line (NoSeries steps) more has e = absurd (cc)
may_come (Claimed One) line (Repair total sets flow) more has e = known (Claimed One) line (Total total) (Listed (Repair total [] [])) (cc) refl
may_come (Claimed One) line (Priced total paid sets flow) more has e = absurd (cc)
may_come (Claimed One) line (NoSeries steps) more has e = absurd (cc)
may_come (Claimed Two) line (Repair total sets flow) more has e = absurd (cc)
may_come (Claimed Two) line (Priced total paid sets flow) more has e = known (Claimed Two) line (Total total) (Totalled total) (cc) refl
may_come (Claimed Two) line (NoSeries steps) more has e = absurd (cc)
may_come (Totalled total) line (Repair other sets flow) more has e = absurd (cc)
may_come (Totalled total) line (Priced other paid sets flow) more has e = known (Totalled total) line (Paid paid) (Listed (Priced total paid [] [])) (cc) refl
may_come (Totalled total) line (NoSeries steps) more has e = absurd (cc)
may_come (Listed part) line cert more has e = may_come_by part cert line more has (may_have part cert line more (has_lists cert has) e)
may_come (Ended whole_cert) line cert more has e =
    let joined : lines_of_cert cert ≡ lines_before_end whole_cert ++ End ∷ line ∷ more = e ∙ append_assoc (lines_before_end whole_cert) (End ∷ []) (line ∷ more) in
    absurd (let none = (ends_once whole_cert cert (line ∷ more) (may_have whole_cert cert End (line ∷ more) (has_lists cert has) joined)).1 in cc)

-- ---- only a draft that has ended has all lines

pub not_all : (draft : Draft) (cert : Cert) → IsDraft draft → whole draft ≡ None → lines_of_cert cert ≡ so_far draft → ⊥
not_all Empty (Repair total sets flow) is part e = cc
not_all Empty (Priced total paid sets flow) is part e = cc
not_all Empty (NoSeries steps) is part e = cc
not_all (Headed version) (Repair total sets flow) is part e = cc
not_all (Headed version) (Priced total paid sets flow) is part e = cc
not_all (Headed version) (NoSeries steps) is part e = cc
not_all (Claimed version) (Repair total sets flow) is part e = cc
not_all (Claimed version) (Priced total paid sets flow) is part e = cc
not_all (Claimed version) (NoSeries steps) is part e = cc
not_all (Totalled total) (Repair other sets flow) is part e = cc
not_all (Totalled total) (Priced other paid sets flow) is part e = cc
not_all (Totalled total) (NoSeries steps) is part e = cc
not_all (Listed found) cert is part e =
    let joined : lines_of_cert found ≡ lines_before_end cert ++ End ∷ End ∷ [] = ap (λ lines. lines ++ End ∷ []) (sym e) ∙ append_assoc (lines_before_end cert) (End ∷ []) (End ∷ []) in
    let none = (ends_once cert found (End ∷ []) (may_have cert found End (End ∷ []) is joined)).1 in
    cc
not_all (Ended found) cert is part e = cc

-- ---- each draft is the front of some certificate

pub record CanEnd (draft : Draft) : Type 0 where
  pub cert : Cert
  pub has : HasText cert
  pub more : List Line
  pub lines : lines_of_cert cert ≡ so_far draft ++ more

zero_total : IsTotal (pos 0)
zero_total = (omega (arith, ints), omega arith)

abbrev some_name : BoundName
some_name = record { rule = 0; from_row = 1; to_row = 1; col = 1; side = Up }

some_name_is : IsName some_name
some_name_is = record {
  rule = omega arith;
  from_least = omega arith;
  from_most = omega arith;
  to_least = omega arith;
  to_most = omega arith;
  col_least = omega arith;
  col_most = omega arith;
}

pub can_end : (draft : Draft) → IsDraft draft → CanEnd draft
can_end Empty is = record { cert = Repair (pos 0) [] []; has = (zero_total, no_lists); more = lines_of_cert (Repair (pos 0) [] []); lines = refl }
can_end (Headed One) is = record { cert = Repair (pos 0) [] []; has = (zero_total, no_lists); more = ClaimRepair ∷ Total (pos 0) ∷ End ∷ []; lines = refl }
can_end (Headed Two) is = record {
  cert = Priced (pos 0) (pos 0) [] [];
  has = (zero_total, zero_total, no_lists);
  more = ClaimRepair ∷ Total (pos 0) ∷ Paid (pos 0) ∷ End ∷ [];
  lines = refl;
}
can_end (Claimed One) is = record { cert = Repair (pos 0) [] []; has = (zero_total, no_lists); more = Total (pos 0) ∷ End ∷ []; lines = refl }
can_end (Claimed Two) is = record { cert = Priced (pos 0) (pos 0) [] []; has = (zero_total, zero_total, no_lists); more = Total (pos 0) ∷ Paid (pos 0) ∷ End ∷ []; lines = refl }
can_end (Totalled total) is = record { cert = Priced total (pos 0) [] []; has = (is, zero_total, no_lists); more = Paid (pos 0) ∷ End ∷ []; lines = refl }
can_end (Listed (Repair total sets flow)) is = record { cert = Repair total sets flow; has = is; more = End ∷ []; lines = refl }
can_end (Listed (Priced total paid sets flow)) is = record { cert = Priced total paid sets flow; has = is; more = End ∷ []; lines = refl }
can_end (Listed (NoSeries [])) is = record { cert = NoSeries (some_name ∷ []); has = (omega arith, (some_name_is, tt)); more = Step some_name ∷ End ∷ []; lines = refl }
can_end (Listed (NoSeries (name ∷ steps))) is = record { cert = NoSeries (name ∷ steps); has = (omega arith, is); more = End ∷ []; lines = refl }
can_end (Ended cert) is = record { cert = cert; has = is; more = []; lines = sym (append-nil (lines_of_cert cert)) }

-- ---- the numbers of its lines are within limits

lists_within : (sets : List SetLine) (flow : List FlowItem) → AreLists sets flow → AllByRecursion IsLine (map Set sets ++ map Flow flow)
lists_within sets flow are = all_append IsLine (map Set sets) (map Flow flow) (all_map IsLine Set sets are.each_set) (all_map IsLine Flow flow are.each_item)

before_end_within : (cert : Cert) → HasLists cert → AllByRecursion IsLine (lines_before_end cert)
before_end_within (Repair total sets flow) has = (tt, (tt, (has.0, lists_within sets flow has.1)))
before_end_within (Priced total paid sets flow) has = (tt, (tt, (has.0, (has.1, lists_within sets flow has.2))))
before_end_within (NoSeries steps) has = (tt, (tt, all_map IsLine Step steps has))

pub cert_within : (cert : Cert) → HasText cert → AllByRecursion IsLine (lines_of_cert cert)
cert_within cert has = all_push IsLine (lines_before_end cert) End (before_end_within cert (has_lists cert has)) tt

pub draft_within : (draft : Draft) → IsDraft draft → AllByRecursion IsLine (so_far draft)
draft_within Empty is = tt
draft_within (Headed version) is = (tt, tt)
draft_within (Claimed version) is = (tt, (tt, tt))
draft_within (Totalled total) is = (tt, (tt, (is, tt)))
draft_within (Listed cert) is = before_end_within cert is
draft_within (Ended cert) is = cert_within cert is
