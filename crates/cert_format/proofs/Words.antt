-- Words, and the lines that are made of them.
use Rattle.std.proofs.Common.{◌≡◌, ◌≢◌, ℕ, ◌<◌, ◌≤◌, Bool, true, cond, eqb, ne_eqb, ltb, ltb-true, List, [], ◌∷◌, ◌++◌, refl, ap, ◌∙◌, arith}
use Rattle.std.specs.List.{AllByRecursion, list_all}
use Rattle.std.specs.Str.Parse.{AllDigits}
use Rattle.std.proofs.lemmas.Bool.{and_parts}
use Rattle.std.proofs.lemmas.Str.Parse.{digit_from_value}
use Rattle.words.proofs.Lists.{all_append, all_weaker}
use Rattle.cert_format.specs.Words.{space, line_feed, line_of_words}
use Rattle.cert_format.specs.Fields.{Lacks}

-- each byte is above a space, so that none is a space or a line feed
abbrev pub IsWord : List ℕ → Type 0
IsWord word = AllByRecursion (λ byte. 32 < byte) word

abbrev pub is_word : List ℕ → Bool
is_word word = list_all (λ byte. ltb 32 byte) word

pub word_by_test : (word : List ℕ) → is_word word ≡ true → IsWord word
word_by_test [] test = tt
word_by_test (byte ∷ word) test =
    let parts = and_parts (ltb 32 byte) (is_word word) test in
    (ltb-true 32 byte parts.0, word_by_test word parts.1)

pub word_of_digits : (digits : List ℕ) → AllDigits 10 digits → IsWord digits
word_of_digits [] all = tt
word_of_digits (byte ∷ digits) all =
    let range = digit_from_value byte all.0 in
    (omega (arith, range.0), word_of_digits digits all.1)

pub word_lacks : (byte : ℕ) (word : List ℕ) → byte ≤ 32 → IsWord word → Lacks byte word
word_lacks byte word low is = all_weaker (λ other. 32 < other) (λ other. other ≢ byte) (λ other h e. omega arith) word is

-- ---- the line feeds of a line of words

pub line_lacks_feed : (words : List (List ℕ)) → AllByRecursion IsWord words → Lacks line_feed (line_of_words words)
line_lacks_feed [] are = tt
line_lacks_feed (word ∷ []) are = word_lacks line_feed word (omega arith) are.0
line_lacks_feed (word ∷ next ∷ words) are =
    all_append (λ other. other ≢ line_feed) word (space ∷ line_of_words (next ∷ words)) (word_lacks line_feed word (omega arith) are.0) (λ e. omega arith, line_lacks_feed (next ∷ words) are.1)

-- ---- the words of a line

abbrev pub with_byte : ℕ → List (List ℕ) → List (List ℕ)
with_byte byte [] = (byte ∷ []) ∷ []
with_byte byte (word ∷ words) = (byte ∷ word) ∷ words

-- the parts between spaces
abbrev pub words_in : List ℕ → List (List ℕ)
words_in [] = [] ∷ []
words_in (byte ∷ bytes) = cond (eqb byte space) ([] ∷ words_in bytes) (with_byte byte (words_in bytes))

word_then : (word rest : List ℕ) → Lacks space word → words_in (word ++ space ∷ rest) ≡ word ∷ words_in rest
word_then [] rest lacks = refl
word_then (byte ∷ word) rest lacks =
    ap (λ b. cond b ([] ∷ words_in (word ++ space ∷ rest)) (with_byte byte (words_in (word ++ space ∷ rest)))) (ne_eqb byte space lacks.0)
    ∙ ap (with_byte byte) (word_then word rest lacks.1)

last_word : (word : List ℕ) → Lacks space word → words_in word ≡ word ∷ []
last_word [] lacks = refl
last_word (byte ∷ word) lacks =
    ap (λ b. cond b ([] ∷ words_in word) (with_byte byte (words_in word))) (ne_eqb byte space lacks.0)
    ∙ ap (with_byte byte) (last_word word lacks.1)

pub words_in-line : (word : List ℕ) (words : List (List ℕ)) → AllByRecursion IsWord (word ∷ words) → words_in (line_of_words (word ∷ words)) ≡ word ∷ words
words_in-line word [] are = last_word word (word_lacks space word (omega arith) are.0)
words_in-line word (next ∷ words) are =
    word_then word (line_of_words (next ∷ words)) (word_lacks space word (omega arith) are.0) ∙ ap (λ others. word ∷ others) (words_in-line next words are.1)
