-- The first of the faults that are there.
use Rattle.std.proofs.Common.{◌≡◌, List, [], ◌∷◌, ◌++◌, Option, Some, None, Result, Ok, Err, refl, ap, ◌∙◌}
use Rattle.std.specs.Prelude.{ℤ, IfErr, IfOk}
use Rattle.screen_model.specs.declared.bound.FlowItem.{FlowItem}
use Rattle.cert_check.specs.declared.accepted.Accepted.{Accepted}
use Rattle.cert_check.specs.declared.accepted.Accepted.TheVariants.{Repair}
use Rattle.cert_check.specs.declared.fault.CertFault.{CertFault}
use Rattle.cert_check.specs.Claims.{first_fault}
use Rattle.cert_check.specs.Judges.{answer_by}

pub fault_1 : {a : Option CertFault} (rest : List (Option CertFault)) (fault : CertFault) → a ≡ Some fault → first_fault (a ∷ rest) ≡ Some fault
fault_1 rest fault h = ap (λ (o : Option CertFault). first_fault (o ∷ rest)) h

pub fault_next : {a : Option CertFault} (rest : List (Option CertFault)) → a ≡ None → first_fault (a ∷ rest) ≡ first_fault rest
fault_next rest h = ap (λ (o : Option CertFault). first_fault (o ∷ rest)) h

pub fault_2 : {a b : Option CertFault} (rest : List (Option CertFault)) (fault : CertFault) → a ≡ None → b ≡ Some fault → first_fault (a ∷ b ∷ rest) ≡ Some fault
fault_2 {b = b} rest fault h k = fault_next (b ∷ rest) h ∙ fault_1 rest fault k

pub fault_3 : {a b c : Option CertFault} (rest : List (Option CertFault)) (fault : CertFault) → a ≡ None → b ≡ None → c ≡ Some fault → first_fault (a ∷ b ∷ c ∷ rest) ≡ Some fault
fault_3 {b = b} {c = c} rest fault h k l = fault_next (b ∷ c ∷ rest) h ∙ fault_2 rest fault k l

-- all that come first are not there
pub faults_2 : {a b : Option CertFault} (rest : List (Option CertFault)) → a ≡ None → b ≡ None → first_fault (a ∷ b ∷ rest) ≡ first_fault rest
faults_2 {b = b} rest h k = fault_next (b ∷ rest) h ∙ fault_next rest k

pub faults_3 : {a b c : Option CertFault} (rest : List (Option CertFault)) → a ≡ None → b ≡ None → c ≡ None → first_fault (a ∷ b ∷ c ∷ rest) ≡ first_fault rest
faults_3 {b = b} {c = c} rest h k l = fault_next (b ∷ c ∷ rest) h ∙ faults_2 rest k l

-- ---- lists in two parts

pub fault_of_first : (faults more : List (Option CertFault)) (fault : CertFault) → first_fault faults ≡ Some fault → first_fault (faults ++ more) ≡ Some fault
fault_of_first [] more fault h = cc
fault_of_first (Some f ∷ faults) more fault h = h
fault_of_first (None ∷ faults) more fault h = fault_of_first faults more fault h

pub fault_of_second : (faults more : List (Option CertFault)) → first_fault faults ≡ None → first_fault (faults ++ more) ≡ first_fault more
fault_of_second [] more h = refl
fault_of_second (Some f ∷ faults) more h = cc
fault_of_second (None ∷ faults) more h = fault_of_second faults more h

-- ---- answers

pub answer_fault : (faults : List (Option CertFault)) (accepted : Accepted) (fault : CertFault) → first_fault faults ≡ Some fault → Err fault ≡ answer_by faults accepted
answer_fault [] accepted fault h = cc
answer_fault (Some f ∷ faults) accepted fault h = let same : fault ≡ f = cc in ap Err same
answer_fault (None ∷ faults) accepted fault h = answer_fault faults accepted fault h

pub answer_none : (faults : List (Option CertFault)) (accepted : Accepted) → first_fault faults ≡ None → Ok accepted ≡ answer_by faults accepted
answer_none [] accepted h = refl
answer_none (Some f ∷ faults) accepted h = cc
answer_none (None ∷ faults) accepted h = answer_none faults accepted h

-- ---- what holds of results

pub ok_more : {A E : Type 0} (P Q : A → Type 0) (r : Result A E) → ((x : A) → P x → Q x) → IfOk r P → IfOk r Q
ok_more P Q (Ok x) f h = f x h
ok_more P Q (Err e) f h = tt

pub err_more : {A E : Type 0} (P Q : E → Type 0) (r : Result A E) → ((e : E) → P e → Q e) → IfErr r P → IfErr r Q
err_more P Q (Ok x) f h = tt
err_more P Q (Err e) f h = f e h

-- an accepted repair by equal parts
pub same_repair : (series other : List ℤ) (flow : List FlowItem) (total given part truth : ℤ) → series ≡ other → total ≡ given → part ≡ truth
    → ◌≡◌ {A = Result Accepted CertFault} (Ok (Repair series flow total part)) (Ok (Repair other flow given truth))
same_repair series other flow total given part truth s t p = cc
