-- Texts that grow line by line.
use Rattle.std.proofs.Common.{◌≡◌, ℕ, List, [], ◌∷◌, ◌++◌, map, append_assoc, Result, Ok, Err, OnOk, sym, ap, ◌∙◌}
use Rattle.screen_model.specs.declared.bound.FlowItem.{FlowItem}
use Rattle.cert_format.specs.declared.cert.SetLine.{SetLine}
use Rattle.cert_format.specs.declared.line.Line.{Line}
use Rattle.cert_format.specs.declared.line.Line.TheVariants.{Set, Flow}
use Rattle.cert_format.specs.Words.{line_feed}
use Rattle.cert_format.proofs.Refusals.{text_of, text_of-append}

pub on_ok : {A E P Q : Type 0} (result : Result A E) → (P → Q) → OnOk result P → OnOk result Q
on_ok (Ok x) to p = to p
on_ok (Err e) to p = tt

-- a line, and then the rest
pub pushed_line : (line before middle after rest : List ℕ) → middle ≡ before ++ (line ++ line_feed ∷ []) → after ≡ middle ++ rest → after ≡ before ++ (line ++ line_feed ∷ rest)
pushed_line line before middle after rest first second =
    second ∙ ap (λ s. s ++ rest) first ∙ append_assoc before (line ++ line_feed ∷ []) rest ∙ ap (λ s. before ++ s) (append_assoc line (line_feed ∷ []) rest)

-- the lines of one list, and then those of another
pub pushed_both : (lines more : List Line) (before middle after : List ℕ) → middle ≡ before ++ text_of lines → after ≡ middle ++ text_of more → after ≡ before ++ text_of (lines ++ more)
pushed_both lines more before middle after first second =
    second ∙ ap (λ s. s ++ text_of more) first ∙ append_assoc before (text_of lines) (text_of more) ∙ ap (λ s. before ++ s) (sym (text_of-append lines more))

pub pushed_lists : (sets given : List SetLine) (flow given_flow : List FlowItem) (before middle after : List ℕ) → given ≡ sets → given_flow ≡ flow
    → middle ≡ before ++ text_of (map Set given) → after ≡ middle ++ text_of (map Flow given_flow) → after ≡ before ++ text_of (map Set sets ++ map Flow flow)
pushed_lists sets given flow given_flow before middle after e e_flow first second =
    pushed_both (map Set sets) (map Flow flow) before middle after
    (first ∙ ap (λ xs. before ++ text_of (map Set xs)) e)
    (second ∙ ap (λ xs. middle ++ text_of (map Flow xs)) e_flow)
