-- To be believed: the lines of a certificate, and which certificates have a text.
use Rattle.std.specs.Prelude.{ℕ, ◌≤◌, List, [], ◌∷◌, ◌++◌, length, map}
use Rattle.std.specs.List.{AllByRecursion}
use Rattle.screen_model.specs.declared.bound.FlowItem.{FlowItem}
use Rattle.cert_format.specs.declared.cert.SetLine.{SetLine}
use Rattle.cert_format.specs.declared.cert.Cert.{Cert}
use Rattle.cert_format.specs.declared.cert.Cert.TheVariants.{Repair, Priced, NoSeries}
use Rattle.cert_format.specs.declared.line.Version.TheVariants.{One, Two}
use Rattle.cert_format.specs.declared.line.Line.{Line}
use Rattle.cert_format.specs.declared.line.Line.TheVariants.{Header, ClaimRepair, ClaimNone, Total, Paid, Set, Flow, Step, End}
use Rattle.cert_format.specs.Words.{text_of_lines}
use Rattle.cert_format.specs.Line.{IsTotal, IsSet, IsItem, IsName, text_of_line}
use Rattle.screen_model.specs.Order.{Rises, item_key}
use Rattle.cert_format.specs.Order.{set_key}

-- the lines of a certificate, up to the last line `end`
abbrev pub lines_before_end : Cert → List Line
lines_before_end (Repair total sets flow) = Header One ∷ ClaimRepair ∷ Total total ∷ map Set sets ++ map Flow flow
lines_before_end (Priced total paid sets flow) = Header Two ∷ ClaimRepair ∷ Total total ∷ Paid paid ∷ map Set sets ++ map Flow flow
lines_before_end (NoSeries steps) = Header One ∷ ClaimNone ∷ map Step steps

abbrev pub lines_of_cert : Cert → List Line
lines_of_cert cert = lines_before_end cert ++ End ∷ []

-- the text of a certificate
abbrev pub text_of_cert : Cert → List ℕ
text_of_cert cert = text_of_lines (map text_of_line (lines_of_cert cert))

-- the set lines rise strictly by place, and the flow lines by name
pub record AreLists (sets : List SetLine) (flow : List FlowItem) : Type 0 where
  pub each_set : AllByRecursion IsSet sets
  pub sets_rise : Rises set_key sets
  pub each_item : AllByRecursion IsItem flow
  pub flow_rises : Rises item_key flow

-- The certificate has a text of the form: its numbers are within their limits, its lists rise, and a cycle has a step.
abbrev pub HasText : Cert → Type 0
HasText (Repair total sets flow) = IsTotal total × AreLists sets flow
HasText (Priced total paid sets flow) = IsTotal total × IsTotal paid × AreLists sets flow
HasText (NoSeries steps) = (1 ≤ length steps) × AllByRecursion IsName steps
