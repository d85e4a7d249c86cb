use Rattle.std.proofs.Common.{◌≡◌, ℕ, Bool, true, false, IsTrue, List, Option, Some, None, Result, Ok, refl, not}
use Rattle.std.specs.Prelude.{is_some}
use Rattle.record_cut.specs.declared.fault.CutFault.{CutFault}
use Rattle.record_cut.proofs.taken.Taken.goes_on.Goals as goal

none_told : (answer : Result (Option (List (List ℕ))) CutFault) (found : Option (List (List ℕ))) (none : Bool) → answer ≡ Ok found → is_some found ≡ not none → (IsTrue none → answer ≡ Ok None) × (answer ≡ Ok None → IsTrue none)
none_told answer None true e f = (λ h. e, λ h. refl)
none_told answer None false e f = let never : ⊥ = cc in absurd never
none_told answer (Some fields) true e f = let never : ⊥ = cc in absurd never
none_told answer (Some fields) false e f = (λ h. let never : ⊥ = cc in absurd never, λ h. let never : ⊥ = cc in absurd never)

pub returns-in-Ok : goal.returns-in-Ok
returns-in-Ok c = none_told c.args.self.now.answer c.in-Ok.found c.is_none.result c.in-Ok.is c.is_none.ensures
