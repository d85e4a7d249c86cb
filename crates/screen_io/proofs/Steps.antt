-- How the steps of a loop over a source or a sink add up.
use Rattle.std.proofs.Common.{ℕ, ◌+◌, ◌-◌, ◌<◌, ◌≤◌, List, [], ◌++◌, length, take, drop, refl, sym, ◌∙◌, ap, append_assoc, append-nil, arith, length-drop, length-append}
use Rattle.std.proofs.Math.Seq.{take-add}
use Rattle.std.proofs.lemmas.List.{take_all, take-append-le, take-append-drop, length-take-le, nil_from_length, drop-drop}
use Rattle.std.specs.Prelude.{◌≡◌, min}
use Rattle.std.specs.Prelude.{Option, Some, None}
use Rattle.screen_io.specs.Source.{Takes, IsAtEnd, TakesInto}
use Rattle.screen_io.specs.Sink.{Gains}
use Rattle.std.specs.Io.KnownBytes.{Keeps}

-- no byte was taken
pub Takes-nothing : (left : Option (List ℕ)) → Takes left [] left
Takes-nothing None = refl
Takes-nothing (Some left) = (left, refl, refl)

-- some bytes were taken, and then some more
pub Takes-more : (a b c : Option (List ℕ)) (xs ys : List ℕ) → Takes a xs b → Takes b ys c → Takes a (xs ++ ys) c
Takes-more None b c xs ys s t = rw s at t
Takes-more (Some left) b c xs ys s t =
    let u : Takes (Some s.0) ys c = rw s.2 at t in
    (u.0, s.1 ∙ ap (λ rest. xs ++ rest) u.1 ∙ sym (append_assoc xs ys u.0), u.2)

-- some bytes were taken, and then the bytes of a read, whose buffer may stand in a larger one
pub TakesInto-more :
    (a b c : Option (List ℕ)) (bytes buffer after : List ℕ) (count : ℕ) →
    Takes a bytes b →
    count ≤ length buffer →
    TakesInto b c buffer count →
    Takes a (bytes ++ take count (buffer ++ after)) c
TakesInto-more a b c bytes buffer after count s bound read =
    rw take-append-le (Takes-more a b c bytes (take count buffer) s read.taken)

-- where nothing is left, a call that takes nothing leaves nothing
pub IsAtEnd-stays : (a b : Option (List ℕ)) → Takes a [] b → IsAtEnd a → IsAtEnd b
IsAtEnd-stays None b t e = rw t tt
IsAtEnd-stays (Some left) b t e = rw t.2 (sym t.1 ∙ e)

-- no byte was gained
pub Gains-nothing : (held : Option (List ℕ)) → Gains held [] held
Gains-nothing None = refl
Gains-nothing (Some held) = simp append-nil

-- some bytes were gained, and then some more
pub Gains-more : (a b c : Option (List ℕ)) (xs ys : List ℕ) → Gains a xs b → Gains b ys c → Gains a (xs ++ ys) c
Gains-more None b c xs ys s t = rw s at t
Gains-more (Some held) b c xs ys s t =
    let u : Gains (Some (held ++ xs)) ys c = rw s at t in u ∙ ap Some (append_assoc held xs ys)

-- the bytes up to a place were gained, and then some of the rest
pub Gains-step :
    (a b c : Option (List ℕ)) (bytes : List ℕ) (done count : ℕ) →
    Gains a (take done bytes) b →
    Gains b (take count (take (length bytes - done) (drop done bytes))) c →
    Gains a (take (done + count) bytes) c
Gains-step a b c bytes done count s t =
    let short : length (drop done bytes) ≤ length bytes - done = omega (arith, length-drop done bytes) in
    let u : Gains b (take count (drop done bytes)) c = rw (take_all (length bytes - done) (drop done bytes) short) at t in
    rw take-add (Gains-more a b c (take done bytes) (take count (drop done bytes)) s u)

-- a read gives the front of what is left, as much as fits, and goes on after it
pub TakesInto-front :
    (bytes shown copied buffer : List ℕ) (position count : ℕ) →
    shown ≡ bytes →
    copied ≡ take count (take (length shown - position) (drop position shown)) →
    count ≡ min (length (take (length shown - position) (drop position shown))) (length buffer) →
    TakesInto (Some (drop position bytes)) (Some (drop (position + count) bytes)) (copied ++ drop count buffer) count
TakesInto-front bytes shown copied buffer position count same copies counts =
    let left : List ℕ = drop position bytes in
    let whole : take (length shown - position) (drop position shown) ≡ left =
    rw same (take_all (length bytes - position) left (omega (arith, length-drop position bytes))) in
    let copied_is : copied ≡ take count left = copies ∙ ap (take count) whole in
    let count_is : count ≡ min (length left) (length buffer) = counts ∙ ap (λ xs. min (length xs) (length buffer)) whole in
    let fits : count ≤ length left = omega arith in
    let copied_length : length copied ≡ count = rw copied_is (length-take-le count left fits) in
    let short : count ≤ length copied = omega arith in
    let front : take count (copied ++ drop count buffer) ≡ take count left =
    take-append-le count copied (drop count buffer) short ∙ take_all count copied (omega arith) ∙ copied_is in
    record {
      taken = (drop count left, rw front (sym (take-append-drop count left)), ap Some (sym (drop-drop count position bytes)));
      at_end = λ none wanted. nil_from_length left (omega (arith, length-append copied (drop count buffer), length-drop count buffer));
    }

-- a read into the front of a buffer, which has room where the buffer has, is a read into the buffer
pub TakesInto-within :
    (before now : Option (List ℕ)) (front after : List ℕ) (count : ℕ) →
    count ≤ length front →
    (0 < length (front ++ after) → 0 < length front) →
    TakesInto before now front count →
    TakesInto before now (front ++ after) count
TakesInto-within before now front after count bound room read = record {
  taken = rw take-append-le read.taken;
  at_end = λ none wanted. read.at_end none (room wanted);
}

-- what is known stays known where nothing was called
pub Keeps-nothing : (known : Option (List ℕ)) → Keeps known known
Keeps-nothing None = tt
Keeps-nothing (Some xs) = refl
