-- What stands at a key has one answer.
use Rattle.std.proofs.Common.{◌≡◌, ◌≢◌, ◌⊎◌, ℕ, ◌^◌, ◌<◌, ◌≤◌, ℤ, pos, ◌*ℤ◌, ◌≤ℤ◌, ◌<ℤ◌, List, [], ◌∷◌, length, Result, Ok, Err, codes, slice_index, unsigned_abs, inl, inr, refl, sym, ap, ◌∙◌, subst, arith}
use Rattle.std.proofs.lemmas.Int.{ints}
use Rattle.std.specs.Fmt.{signed_decimal}
use Rattle.words.proofs.Answers.{HasOne}
use Rattle.toml.specs.Data.{Data, string, integer, float, boolean, datetime, array, table}
use Rattle.fix_point.specs.Scaled as Scaled
use Rattle.fix_point.specs.declared.scale.NumFault.{NumFault}
use Rattle.fix_point.specs.declared.scale.Extra.{Extra as ExtraWay}
use Rattle.fix_point.specs.declared.scale.Extra.TheVariants.{Refuse, Round}
use Rattle.time_text.specs.Ticks as Ticks
use Rattle.time_text.specs.declared.form.TimeForm.{TimeForm}
use Rattle.time_text.specs.declared.form.TimeForm.TheVariants.{Sec, Milli, Micro, Nano, Instant, Civil}
use Rattle.time_text.specs.declared.form.TimeFault.{TimeFault}
use Rattle.rule_keys.specs.declared.cause.KeyCause.{KeyCause}
use Rattle.rule_keys.specs.declared.cause.KeyCause.TheVariants.{WrongKind, BadNumber, OutOfLimit}
use Rattle.rule_keys.specs.declared.key.Kind.{Kind}
use Rattle.rule_keys.specs.declared.key.Kind.TheVariants.{Whole, Value, Amount, Rate, Span, Moment, Name, Word}
use Rattle.rule_keys.specs.declared.key.Choice.{Choice}
use Rattle.rule_keys.specs.declared.key.Choice.TheVariants as choice
use Rattle.rule_keys.specs.declared.read.Scale.{Scale}
use Rattle.fix_point.specs.declared.scale.TheConstants.{MOST_UNITS}
use Rattle.rule_keys.specs.declared.key.Chosen.{Chosen}
use Rattle.rule_keys.specs.declared.key.Chosen.TheVariants.{Form, Separator, Extra}
use Rattle.fix_point.specs.declared.rate.TheConstants.{MOST_MILLIONTHS, MOST_SPAN}
use Rattle.rule_keys.specs.Entries.{Meaning, number, name, chosen, nothing}
use Rattle.rule_keys.specs.Words.{words, Means}
use Rattle.rule_keys.specs.Values.{ValueOrCause, AtLeast, ReadsWithin, ReadsWhole, ReadsScaledWhole, ReadsScaledText, ReadsScaled, ReadsTime, ReadsInteger, ReadsMoment, IsMeaningOf, ReadsChosen, ReadsWord, ReadsNumber, ReadsName, AsNumber, ReadsValue}

-- what is proved of number texts and of time texts
abbrev pub NumbersAreOne : Type 0
NumbersAreOne = (text : List ℕ) (d : ℕ) (extra : ExtraWay) (most : ℤ) (one other : Result ℤ NumFault) → Scaled.Reads text d extra most one → Scaled.Reads text d extra most other → one ≡ other

abbrev pub TimesAreOne : Type 0
TimesAreOne = (form : TimeForm) (text : List ℕ) (one other : Result ℤ TimeFault) → Ticks.Reads form text one → Ticks.Reads form text other → one ≡ other

-- ---- answers

same_value : {A : Type 0} (one other : A) → ◌≡◌ {A = Result A KeyCause} (Ok one) (Ok other) → one ≡ other
same_value one other e = cc

no_cause : {A : Type 0} (one : A) (found : KeyCause) → Ok one ≡ Err found → ⊥
no_cause one found e = absurd cc

answers_one : {A : Type 0} (Good : A → Type 0) (cause : KeyCause) (Bad : Type 0) → ((one other : A) → Good one → Good other → one ≡ other) → ((one : A) → Good one → Bad → ⊥) → HasOne (ValueOrCause Good cause Bad)
answers_one Good cause Bad same apart (Ok one) (Ok other) p q = ap Ok (same one other p q)
answers_one Good cause Bad same apart (Ok one) (Err found) p q = absurd (apart one p q.1)
answers_one Good cause Bad same apart (Err found) (Ok other) p q = absurd (apart other q p.1)
answers_one Good cause Bad same apart (Err found) (Err other) p q = ap Err (p.0 ∙ sym q.0)

refused_one : {A : Type 0} (cause : KeyCause) (one other : Result A KeyCause) → one ≡ Err cause → other ≡ Err cause → one ≡ other
refused_one cause one other p q = p ∙ sym q

not_less : (Reads : Result ℤ KeyCause → Type 0) → HasOne Reads → (least z : ℤ) (found : KeyCause) → AtLeast least Reads (Ok z) → AtLeast least Reads (Err found) → ⊥
not_less Reads one least z found p (inl q) = no_cause z found (one (Ok z) (Err found) p.0 q)
not_less Reads one least z found p (inr q) =
    let same = same_value z q.1 (one (Ok z) (Ok q.1) p.0 q.2) in
    let enough = p.1 in
    let less = q.3 in
    omega (arith, ints, same, enough, less)

one_less : (Reads : Result ℤ KeyCause → Type 0) → HasOne Reads → (least : ℤ) (found other : KeyCause) → AtLeast least Reads (Err found) → AtLeast least Reads (Err other) → found ≡ other
one_less Reads one least found other (inl p) (inl q) = let same = one (Err found) (Err other) p q in cc
one_less Reads one least found other (inl p) (inr q) = absurd (no_cause q.1 found (one (Ok q.1) (Err found) q.2 p))
one_less Reads one least found other (inr p) (inl q) = absurd (no_cause p.1 other (one (Ok p.1) (Err other) p.2 q))
one_less Reads one least found other (inr p) (inr q) = p.0 ∙ sym q.0

at_least_one : (Reads : Result ℤ KeyCause → Type 0) → HasOne Reads → (least : ℤ) → HasOne (AtLeast least Reads)
at_least_one Reads one least (Ok z) (Ok w) p q = one (Ok z) (Ok w) p.0 q.0
at_least_one Reads one least (Ok z) (Err found) p q = absurd (not_less Reads one least z found p q)
at_least_one Reads one least (Err found) (Ok w) p q = absurd (not_less Reads one least w found q p)
at_least_one Reads one least (Err found) (Err other) p q = ap Err (one_less Reads one least found other p q)

-- ---- wholes

outside : (least most z : ℤ) → least ≤ℤ z → z ≤ℤ most → (z <ℤ least) ⊎ (most <ℤ z) → ⊥
outside least most z above below (inl low) = omega (arith, ints, above, low)
outside least most z above below (inr high) = omega (arith, ints, below, high)

within_one : (least most z : ℤ) → HasOne (ReadsWithin least most z)
within_one least most z one other p q = answers_one (λ w. (w ≡ z) × (least ≤ℤ z) × (z ≤ℤ most)) OutOfLimit ((z <ℤ least) ⊎ (most <ℤ z)) (λ one other p q. p.0 ∙ sym q.0) (λ one p q. outside least most z p.1 p.2 q) one other p q

whole_one : (least most : ℕ) (found : Data) → HasOne (ReadsWhole least most found)
whole_one least most (integer z) = within_one (pos least) (pos most) z
whole_one least most (string text) = refused_one WrongKind
whole_one least most (float x) = refused_one WrongKind
whole_one least most (boolean b) = refused_one WrongKind
whole_one least most (datetime moment) = refused_one WrongKind
whole_one least most (array items) = refused_one WrongKind
whole_one least most (table found) = refused_one WrongKind

-- ---- numbers with decimals

beyond : (most : ℕ) (z w : ℤ) → w ≡ z → unsigned_abs w ≤ most → most < unsigned_abs z → ⊥
beyond most z w same small large = omega (arith, ap unsigned_abs same, small, large)

scaled_whole_one : (d most : ℕ) (z : ℤ) → HasOne (ReadsScaledWhole d most z)
scaled_whole_one d most z one other p q = answers_one (λ w. (w ≡ z *ℤ pos (10 ^ d)) × (unsigned_abs w ≤ most)) BadNumber (most < unsigned_abs (z *ℤ pos (10 ^ d))) (λ one other p q. p.0 ∙ sym q.0) (λ one p q. beyond most (z *ℤ pos (10 ^ d)) one p.0 p.1 q) one other p q

scaled_text_one : NumbersAreOne → (d most : ℕ) (text : List ℕ) → HasOne (ReadsScaledText d most text)
scaled_text_one numbers d most text one other p q =
    answers_one (Scaled.Spells text d Refuse (pos most)) BadNumber ((fault : NumFault) × Scaled.Refuses text d Refuse (pos most) fault)
    (λ one other p q. let same = numbers text d Refuse (pos most) (Ok one) (Ok other) p q in cc)
    (λ one p q. let same = numbers text d Refuse (pos most) (Ok one) (Err q.0) p q.1 in absurd cc)
    one other p q

scaled_one : NumbersAreOne → (d most : ℕ) (found : Data) → HasOne (ReadsScaled d most found)
scaled_one numbers d most (integer z) = scaled_whole_one d most z
scaled_one numbers d most (string text) = scaled_text_one numbers d most text
scaled_one numbers d most (float x) = refused_one WrongKind
scaled_one numbers d most (boolean b) = refused_one WrongKind
scaled_one numbers d most (datetime moment) = refused_one WrongKind
scaled_one numbers d most (array items) = refused_one WrongKind
scaled_one numbers d most (table found) = refused_one WrongKind

-- ---- times

time_one : TimesAreOne → (form : TimeForm) (text : List ℕ) → HasOne (ReadsTime form text)
time_one times form text one other p q =
    answers_one (Ticks.Spells form text) BadNumber ((fault : TimeFault) × Ticks.Refuses form text fault)
    (λ one other p q. let same = times form text (Ok one) (Ok other) p q in cc)
    (λ one p q. let same = times form text (Ok one) (Err q.0) p q.1 in absurd cc)
    one other p q

integer_one : TimesAreOne → (form : TimeForm) (z : ℤ) → HasOne (ReadsInteger form z)
integer_one times Sec z = time_one times Sec (signed_decimal z)
integer_one times Milli z = time_one times Milli (signed_decimal z)
integer_one times Micro z = time_one times Micro (signed_decimal z)
integer_one times Nano z = time_one times Nano (signed_decimal z)
integer_one times Instant z = refused_one WrongKind
integer_one times Civil z = refused_one WrongKind

moment_one : TimesAreOne → (form : TimeForm) (found : Data) → HasOne (ReadsMoment form found)
moment_one times form (string text) = time_one times form text
moment_one times form (integer z) = integer_one times form z
moment_one times form (float x) = refused_one WrongKind
moment_one times form (boolean b) = refused_one WrongKind
moment_one times form (datetime moment) = refused_one WrongKind
moment_one times form (array items) = refused_one WrongKind
moment_one times form (table found) = refused_one WrongKind

-- ---- words

-- no word stands twice
Differ : List ℕ → List (List ℕ × Chosen) → Type 0
Differ text [] = Unit {0}
Differ text (word ∷ others) = (text ≢ word.0) × Differ text others

AreApart : List (List ℕ × Chosen) → Type 0
AreApart [] = Unit {0}
AreApart (word ∷ others) = Differ word.0 others × AreApart others

not_among : (others : List (List ℕ × Chosen)) (text : List ℕ) (c : Chosen) → Differ text others → Means others text c → ⊥
unfolding Differ
not_among [] text c apart means = means
not_among (word ∷ others) text c apart (inl means) = apart.0 means.0
not_among (word ∷ others) text c apart (inr means) = not_among others text c apart.1 means

one_meaning : (list : List (List ℕ × Chosen)) (text : List ℕ) (one other : Chosen) → AreApart list → Means list text one → Means list text other → one ≡ other
unfolding AreApart
one_meaning [] text one other apart p q = absurd p
one_meaning (word ∷ others) text one other apart (inl p) (inl q) = p.1 ∙ sym q.1
one_meaning (word ∷ others) text one other apart (inl p) (inr q) = absurd (not_among others word.0 other apart.0 (subst (λ given. Means others given other) p.0 q))
one_meaning (word ∷ others) text one other apart (inr p) (inl q) = absurd (not_among others word.0 one apart.0 (subst (λ given. Means others given one) q.0 p))
one_meaning (word ∷ others) text one other apart (inr p) (inr q) = one_meaning others text one other apart.1 p q

-- told apart by a byte
byte_differs : (i : ℕ) (v w : List ℕ) (c d : ℕ) → slice_index v i ≡ c → slice_index w i ≡ d → (c ≡ d → ⊥) → v ≢ w
byte_differs i v w c d p q apart e = apart (sym p ∙ (ap (λ word. slice_index word i) e ∙ q))

-- told apart by how long they are
length_differs : (v w : List ℕ) (m n : ℕ) → length v ≡ m → length w ≡ n → (m ≡ n → ⊥) → v ≢ w
length_differs v w m n p q apart e = apart (sym p ∙ (ap length e ∙ q))

form_apart_0 : Differ (codes "s") ((codes "ms", Form Milli) ∷ (codes "us", Form Micro) ∷ (codes "ns", Form Nano) ∷ (codes "instant", Form Instant) ∷ (codes "civil", Form Civil) ∷ [])
unfolding Differ
form_apart_0 = (length_differs (codes "s") (codes "ms") 1 2 refl refl (λ e. omega (arith, e)), (length_differs (codes "s") (codes "us") 1 2 refl refl (λ e. omega (arith, e)), (length_differs (codes "s") (codes "ns") 1 2 refl refl (λ e. omega (arith, e)), (length_differs (codes "s") (codes "instant") 1 7 refl refl (λ e. omega (arith, e)), (length_differs (codes "s") (codes "civil") 1 5 refl refl (λ e. omega (arith, e)), tt)))))

form_apart_1 : Differ (codes "ms") ((codes "us", Form Micro) ∷ (codes "ns", Form Nano) ∷ (codes "instant", Form Instant) ∷ (codes "civil", Form Civil) ∷ [])
unfolding Differ
form_apart_1 = (byte_differs 0 (codes "ms") (codes "us") 109 117 refl refl (λ e. omega (arith, e)), (byte_differs 0 (codes "ms") (codes "ns") 109 110 refl refl (λ e. omega (arith, e)), (length_differs (codes "ms") (codes "instant") 2 7 refl refl (λ e. omega (arith, e)), (length_differs (codes "ms") (codes "civil") 2 5 refl refl (λ e. omega (arith, e)), tt))))

form_apart_2 : Differ (codes "us") ((codes "ns", Form Nano) ∷ (codes "instant", Form Instant) ∷ (codes "civil", Form Civil) ∷ [])
unfolding Differ
form_apart_2 = (byte_differs 0 (codes "us") (codes "ns") 117 110 refl refl (λ e. omega (arith, e)), (length_differs (codes "us") (codes "instant") 2 7 refl refl (λ e. omega (arith, e)), (length_differs (codes "us") (codes "civil") 2 5 refl refl (λ e. omega (arith, e)), tt)))

form_apart_3 : Differ (codes "ns") ((codes "instant", Form Instant) ∷ (codes "civil", Form Civil) ∷ [])
unfolding Differ
form_apart_3 = (length_differs (codes "ns") (codes "instant") 2 7 refl refl (λ e. omega (arith, e)), (length_differs (codes "ns") (codes "civil") 2 5 refl refl (λ e. omega (arith, e)), tt))

form_apart_4 : Differ (codes "instant") ((codes "civil", Form Civil) ∷ [])
unfolding Differ
form_apart_4 = (length_differs (codes "instant") (codes "civil") 7 5 refl refl (λ e. omega (arith, e)), tt)

separator_apart_0 : Differ (codes ",") ((codes ";", Separator 59) ∷ (9 ∷ [], Separator 9) ∷ (codes "|", Separator 124) ∷ [])
unfolding Differ
separator_apart_0 = (byte_differs 0 (codes ",") (codes ";") 44 59 refl refl (λ e. omega (arith, e)), (byte_differs 0 (codes ",") (9 ∷ []) 44 9 refl refl (λ e. omega (arith, e)), (byte_differs 0 (codes ",") (codes "|") 44 124 refl refl (λ e. omega (arith, e)), tt)))

separator_apart_1 : Differ (codes ";") ((9 ∷ [], Separator 9) ∷ (codes "|", Separator 124) ∷ [])
unfolding Differ
separator_apart_1 = (byte_differs 0 (codes ";") (9 ∷ []) 59 9 refl refl (λ e. omega (arith, e)), (byte_differs 0 (codes ";") (codes "|") 59 124 refl refl (λ e. omega (arith, e)), tt))

separator_apart_2 : Differ (9 ∷ []) ((codes "|", Separator 124) ∷ [])
unfolding Differ
separator_apart_2 = (byte_differs 0 (9 ∷ []) (codes "|") 9 124 refl refl (λ e. omega (arith, e)), tt)

extra_apart_0 : Differ (codes "refuse") ((codes "round", Extra Round) ∷ [])
unfolding Differ
extra_apart_0 = (length_differs (codes "refuse") (codes "round") 6 5 refl refl (λ e. omega (arith, e)), tt)

words_apart : (given : Choice) → AreApart (words given)
unfolding AreApart Differ
words_apart choice.Form = (form_apart_0, (form_apart_1, (form_apart_2, (form_apart_3, (form_apart_4, (tt, tt))))))
words_apart choice.Separator = (separator_apart_0, (separator_apart_1, (separator_apart_2, (tt, tt))))
words_apart choice.Extra = (extra_apart_0, (tt, tt))

meaning_one : (given : Choice) (word : List ℕ) (one other : Meaning) → IsMeaningOf (words given) word one → IsMeaningOf (words given) word other → one ≡ other
meaning_one given word (chosen c) (chosen d) p q = ap chosen (one_meaning (words given) word c d (words_apart given) p q)
meaning_one given word (chosen c) (number z) p q = absurd q
meaning_one given word (chosen c) (name s) p q = absurd q
meaning_one given word (chosen c) nothing p q = absurd q
meaning_one given word (number z) other p q = absurd p
meaning_one given word (name s) other p q = absurd p
meaning_one given word nothing other p q = absurd p

no_meaning : (given : Choice) (word : List ℕ) (m : Meaning) → IsMeaningOf (words given) word m → ((c : Chosen) → Means (words given) word c → ⊥) → ⊥
no_meaning given word (chosen c) p q = q c p
no_meaning given word (number z) p q = p
no_meaning given word (name s) p q = p
no_meaning given word nothing p q = p

chosen_one : (given : Choice) (word : List ℕ) → HasOne (ReadsChosen given word)
chosen_one given word one other p q =
    answers_one (IsMeaningOf (words given) word) OutOfLimit ((c : Chosen) → Means (words given) word c → ⊥)
    (meaning_one given word) (no_meaning given word)
    one other p q

word_one : (given : Choice) (found : Data) → HasOne (ReadsWord given found)
word_one given (string word) = chosen_one given word
word_one given (integer z) = refused_one WrongKind
word_one given (float x) = refused_one WrongKind
word_one given (boolean b) = refused_one WrongKind
word_one given (datetime moment) = refused_one WrongKind
word_one given (array items) = refused_one WrongKind
word_one given (table found) = refused_one WrongKind

-- ---- values

number_one : NumbersAreOne → TimesAreOne → (scale : Scale) (kind : Kind) (found : Data) → HasOne (ReadsNumber scale kind found)
number_one numbers times scale (Whole least most) found = whole_one least most found
number_one numbers times scale Value found = scaled_one numbers scale.decimals (unsigned_abs MOST_UNITS) found
number_one numbers times scale Amount found = at_least_one (ReadsScaled scale.decimals (unsigned_abs MOST_UNITS) found) (scaled_one numbers scale.decimals (unsigned_abs MOST_UNITS) found) (pos 0)
number_one numbers times scale Rate found = scaled_one numbers 6 MOST_MILLIONTHS found
number_one numbers times scale Span found = at_least_one (ReadsScaled 9 MOST_SPAN found) (scaled_one numbers 9 MOST_SPAN found) (pos 1)
number_one numbers times scale Moment found = moment_one times scale.form found
number_one numbers times scale (Word given) found = λ one other p q. absurd p
number_one numbers times scale Name found = λ one other p q. absurd p

name_one : (found : Data) → HasOne (ReadsName found)
name_one (string text) one other p q = p ∙ sym q
name_one (integer z) one other p q = p ∙ sym q
name_one (float x) one other p q = p ∙ sym q
name_one (boolean b) one other p q = p ∙ sym q
name_one (datetime moment) one other p q = p ∙ sym q
name_one (array items) one other p q = p ∙ sym q
name_one (table found) one other p q = p ∙ sym q

as_number_one : (Reads : Result ℤ KeyCause → Type 0) → HasOne Reads → HasOne (AsNumber Reads)
as_number_one Reads same (Ok (number z)) (Ok (number w)) p q = ap (λ n. Ok (number n)) (same_value z w (same (Ok z) (Ok w) p q))
as_number_one Reads same (Ok (number z)) (Ok (name s)) p q = absurd q
as_number_one Reads same (Ok (number z)) (Ok (chosen c)) p q = absurd q
as_number_one Reads same (Ok (number z)) (Ok nothing) p q = absurd q
as_number_one Reads same (Ok (number z)) (Err found) p q = absurd (no_cause z found (same (Ok z) (Err found) p q))
as_number_one Reads same (Ok (name s)) other p q = absurd p
as_number_one Reads same (Ok (chosen c)) other p q = absurd p
as_number_one Reads same (Ok nothing) other p q = absurd p
as_number_one Reads same (Err found) (Ok (number w)) p q = absurd (no_cause w found (same (Ok w) (Err found) q p))
as_number_one Reads same (Err found) (Ok (name s)) p q = absurd q
as_number_one Reads same (Err found) (Ok (chosen c)) p q = absurd q
as_number_one Reads same (Err found) (Ok nothing) p q = absurd q
as_number_one Reads same (Err found) (Err other) p q = let e = same (Err found) (Err other) p q in cc

pub value_one : NumbersAreOne → TimesAreOne → (scale : Scale) (kind : Kind) (found : Data) → HasOne (ReadsValue scale kind found)
value_one numbers times scale Name found = name_one found
value_one numbers times scale (Whole least most) found = as_number_one (ReadsNumber scale (Whole least most) found) (number_one numbers times scale (Whole least most) found)
value_one numbers times scale Value found = as_number_one (ReadsNumber scale Value found) (number_one numbers times scale Value found)
value_one numbers times scale Amount found = as_number_one (ReadsNumber scale Amount found) (number_one numbers times scale Amount found)
value_one numbers times scale Rate found = as_number_one (ReadsNumber scale Rate found) (number_one numbers times scale Rate found)
value_one numbers times scale Span found = as_number_one (ReadsNumber scale Span found) (number_one numbers times scale Span found)
value_one numbers times scale Moment found = as_number_one (ReadsNumber scale Moment found) (number_one numbers times scale Moment found)
value_one numbers times scale (Word given) found = word_one given found
