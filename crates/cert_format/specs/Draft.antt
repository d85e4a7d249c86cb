-- For proofs: a certificate of which some lines have been read, and the line that may come next.
use Rattle.std.specs.Prelude.{ℕ, Bool, true, ◌&&◌, ◌==◌, if◌then◌else◌, ℤ, List, [], ◌∷◌, ◌++◌, length, Option, Some, None, option_map}
use Rattle.screen_model.specs.declared.bound.BoundName.{BoundName}
use Rattle.screen_model.specs.declared.bound.FlowItem.{FlowItem}
use Rattle.cert_format.specs.declared.cert.SetLine.{SetLine}
use Rattle.cert_format.specs.declared.cert.Cert.{Cert}
use Rattle.cert_format.specs.declared.cert.Cert.TheVariants.{Repair, Priced, NoSeries}
use Rattle.cert_format.specs.declared.draft.Draft.{Draft}
use Rattle.cert_format.specs.declared.draft.Draft.TheVariants.{Empty, Headed, Claimed, Totalled, Listed, Ended}
use Rattle.cert_format.specs.declared.line.Version.{Version}
use Rattle.cert_format.specs.declared.line.Version.TheVariants.{One, Two}
use Rattle.cert_format.specs.declared.line.Line.{Line}
use Rattle.cert_format.specs.declared.line.Line.TheVariants.{Header, ClaimRepair, ClaimNone, Total, Paid, Set, Flow, Step, End}
use Rattle.screen_model.specs.Order.{is_before, item_key}
use Rattle.cert_format.specs.Order.{set_key}

-- it is the first, or it comes after the last of these
abbrev pub follows : {A : Type 0} → (A → List ℕ) → List A → A → Bool
follows key [] x = true
follows key (y ∷ []) x = is_before (key y) (key x)
follows key (y ∷ z ∷ ys) x = follows key (z ∷ ys) x

abbrev pub lists_with : List SetLine → List FlowItem → Line → Option (List SetLine × List FlowItem)
lists_with sets flow (Set line) = if (length flow == 0) && follows set_key sets line then Some (sets ++ line ∷ [], flow) else None
lists_with sets flow (Flow item) = if follows item_key flow item then Some (sets, flow ++ item ∷ []) else None
lists_with sets flow _ = None

abbrev pub steps_with : List BoundName → Line → Option Cert
steps_with steps (Step name) = Some (NoSeries (steps ++ name ∷ []))
steps_with steps _ = None

-- the certificate with one more member of its lists
abbrev pub with_line : Cert → Line → Option Cert
with_line (Repair total sets flow) line = option_map (λ lists. Repair total lists.0 lists.1) (lists_with sets flow line)
with_line (Priced total paid sets flow) line = option_map (λ lists. Priced total paid lists.0 lists.1) (lists_with sets flow line)
with_line (NoSeries steps) line = steps_with steps line

abbrev pub after_nothing : Line → Option Draft
after_nothing (Header version) = Some (Headed version)
after_nothing _ = None

abbrev pub after_header : Version → Line → Option Draft
after_header version ClaimRepair = Some (Claimed version)
after_header One ClaimNone = Some (Listed (NoSeries []))
after_header version _ = None

abbrev pub after_claim : Version → Line → Option Draft
after_claim One (Total total) = Some (Listed (Repair total [] []))
after_claim Two (Total total) = Some (Totalled total)
after_claim version _ = None

abbrev pub after_total : ℤ → Line → Option Draft
after_total total (Paid paid) = Some (Listed (Priced total paid [] []))
after_total total _ = None

-- a cycle ends after a step
abbrev pub ended : Cert → Option Draft
ended (NoSeries []) = None
ended cert = Some (Ended cert)

abbrev pub after_lists : Cert → Line → Option Draft
after_lists cert End = ended cert
after_lists cert line = option_map Listed (with_line cert line)

-- the draft with one more line, if that may come next
abbrev pub next : Draft → Line → Option Draft
next Empty line = after_nothing line
next (Headed version) line = after_header version line
next (Claimed version) line = after_claim version line
next (Totalled total) line = after_total total line
next (Listed cert) line = after_lists cert line
next (Ended cert) line = None

-- the certificate, if all its lines have been read
abbrev pub whole : Draft → Option Cert
whole (Ended cert) = Some cert
whole _ = None
