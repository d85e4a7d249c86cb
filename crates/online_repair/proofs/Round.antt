-- Rows are written one after the other.
use Rattle.std.proofs.Common.{◌≡◌, ℕ, ◌<◌, ◌==◌, Bool, true, false, cond, inl, inr, ℤ, ◌-ℤ◌, List, [], ◌∷◌, ◌++◌, length, refl, sym, ap, ◌∙◌, subst, arith, append-nil, eq-eqb}
use Rattle.std.proofs.lemmas.List.{nil_from_length}
use Rattle.std.proofs.lemmas.Bool.{eqb-true}
use Rattle.std.specs.Prelude.{Result, Ok, Err, int_lt}
use Rattle.rule_file.specs.declared.rules.Rules.{Rules}
use Rattle.series_rows.specs.Header.{HeaderView}
use Rattle.series_rows.specs.Row.{RowView}
use Rattle.online_repair.specs.Engines.{CanWrite, IsSame, IsStopped, IsWritten, Stands, WritesOldest, WritesRows, due_part, first_due, rest_part}
use Rattle.online_repair.specs.declared.engine.Engine.{Engine}
use Rattle.online_repair.specs.declared.fault.OnlineFault.{OnlineFault}

-- What was written so far leads to what is written in the end, whichever it is; `due` and `rest` are the parts of the rows
-- that are held.
pub record GoesFrom (rules : Rules) (header : HeaderView) (before : List RowView) (due rest : List RowView → List RowView) (start now : Engine) (text so_far : List ℕ) : Type 0 where
  pub written : List RowView
  pub stands : Stands rules header written now
  pub same : IsSame start now
  pub leads : (result : Result Unit OnlineFault) (final : Engine) (end : List ℕ) → WritesRows rules header written (due now.held.items) (rest now.held.items) result now final so_far end
      → WritesRows rules header before (due start.held.items) (rest start.held.items) result start final text end

abbrev pub Goes : Rules → (List RowView → List RowView) → (List RowView → List RowView) → Engine → Engine → List ℕ → List ℕ → Type 0
Goes rules due rest start now text so_far = (header : HeaderView) (before : List RowView) → Stands rules header before start → GoesFrom rules header before due rest start now text so_far

pub begun : (rules : Rules) (due rest : List RowView → List RowView) (start : Engine) (text : List ℕ) → Goes rules due rest start start text text
begun rules due rest start text header before stands = record {
  written = before;
  stands = stands;
  same = record { most = refl; capacity = refl };
  leads = λ result final end writes. writes;
}

-- the oldest row that is held is due
pub record ArePartsAt (due rest : List RowView → List RowView) (row : RowView) (rows : List RowView) : Type 0 where
  pub due_is : due (row ∷ rows) ≡ row ∷ due rows
  pub rest_is : rest (row ∷ rows) ≡ rest rows
  pub whole : due rows ++ rest rows ≡ rows

go_on : (rules : Rules) (header : HeaderView) (before written : List RowView) (due rest : List RowView → List RowView) (start now next : Engine) (text so_far more : List ℕ) (row : RowView) (rows : List RowView) → now.held.items ≡ row ∷ rows → ArePartsAt due rest row rows → IsSame start now
    → ((result : Result Unit OnlineFault) (final : Engine) (end : List ℕ) → WritesRows rules header written (due now.held.items) (rest now.held.items) result now final so_far end → WritesRows rules header before (due start.held.items) (rest start.held.items) result start final text end)
    → IsWritten rules header written row rows now next so_far more → GoesFrom rules header before due rest start next text more
go_on rules header before written due rest start now next text so_far more row rows e parts same leads is = record {
  written = row ∷ written;
  stands = is.stands;
  same = record { most = is.same.most ∙ same.most; capacity = is.same.capacity ∙ same.capacity };
  leads = λ result final end writes.
      let D : List RowView → Type 0 = λ ds. WritesRows rules header (row ∷ written) (due ds) (rest ds) result next final more end in
      let I : List RowView → Type 0 = λ rs. IsWritten rules header written row rs now next so_far more in
      let P : List RowView → Type 0 = λ ds. WritesRows rules header written ds (rest rows) result now final so_far end in
      let Q : List RowView → Type 0 = λ rs. WritesRows rules header written (due (row ∷ rows)) rs result now final so_far end in
      let H : List RowView → Type 0 = λ held. WritesRows rules header written (due held) (rest held) result now final so_far end in
      leads result final end (subst H (sym e) (subst Q (sym parts.rest_is) (subst P (sym parts.due_is) (inl (next, more, subst I (sym parts.whole) is, subst D is.held writes)))));
}

on_by : (rules : Rules) (header : HeaderView) (before written : List RowView) (due rest : List RowView → List RowView) (start now next : Engine) (text so_far more : List ℕ) (done : Unit) (held : List RowView) → now.held.items ≡ held → (held ≡ [] → ⊥) → ((row : RowView) (rows : List RowView) → held ≡ row ∷ rows → ArePartsAt due rest row rows) → IsSame start now
    → ((result : Result Unit OnlineFault) (final : Engine) (end : List ℕ) → WritesRows rules header written (due now.held.items) (rest now.held.items) result now final so_far end → WritesRows rules header before (due start.held.items) (rest start.held.items) result start final text end)
    → WritesOldest rules header written held (Ok done) now next so_far more → GoesFrom rules header before due rest start next text more
on_by rules header before written due rest start now next text so_far more done [] e some parts same leads writes = absurd (some refl)
on_by rules header before written due rest start now next text so_far more done (row ∷ rows) e some parts same leads writes =
    go_on rules header before written due rest start now next text so_far more row rows e (parts row rows refl) same leads writes

pub goes_on : (rules : Rules) (due rest : List RowView → List RowView) (start now next : Engine) (text so_far more : List ℕ) (done : Unit) → (now.held.items ≡ [] → ⊥) → ((row : RowView) (rows : List RowView) → now.held.items ≡ row ∷ rows → ArePartsAt due rest row rows)
    → Goes rules due rest start now text so_far → ((header : HeaderView) (before : List RowView) → Stands rules header before now → WritesOldest rules header before now.held.items (Ok done) now next so_far more) → Goes rules due rest start next text more
goes_on rules due rest start now next text so_far more done some parts goes writes header before stands =
    let from = goes header before stands in
    on_by rules header before from.written due rest start now next text so_far more done now.held.items refl some parts from.same from.leads (writes header from.written from.stands)

can_by : (rules : Rules) (header : HeaderView) (before : List RowView) (now next : Engine) (text more : List ℕ) (done : Unit) (held : List RowView) → (held ≡ [] → ⊥) → WritesOldest rules header before held (Ok done) now next text more → CanWrite rules next × (length next.held.items < length held)
can_by rules header before now next text more done [] some writes = absurd (some refl)
can_by rules header before now next text more done (row ∷ rows) some writes =
    (record { header = header; before = row ∷ before; stands = writes.stands }, omega (arith, ap length writes.held))

pub can_go_on : (rules : Rules) (now next : Engine) (text more : List ℕ) (done : Unit) → (now.held.items ≡ [] → ⊥) → CanWrite rules now → ((header : HeaderView) (before : List RowView) → Stands rules header before now → WritesOldest rules header before now.held.items (Ok done) now next text more)
    → CanWrite rules next × (length next.held.items < length now.held.items)
can_go_on rules now next text more done some can writes = can_by rules can.header can.before now next text more done now.held.items some (writes can.header can.before can.stands)

-- ---- where it stops

stop_by : (rules : Rules) (header : HeaderView) (written : List RowView) (due rest : List RowView → List RowView) (now next : Engine) (so_far end : List ℕ) (fault : OnlineFault) (held : List RowView) → (held ≡ [] → ⊥) → ((row : RowView) (rows : List RowView) → held ≡ row ∷ rows → ArePartsAt due rest row rows)
    → WritesOldest rules header written held (Err fault) now next so_far end → WritesRows rules header written (due held) (rest held) (Err fault) now next so_far end
stop_by rules header written due rest now next so_far end fault [] some parts writes = absurd (some refl)
stop_by rules header written due rest now next so_far end fault (row ∷ rows) some parts writes =
    let at = parts row rows refl in
    let P : List RowView → Type 0 = λ ds. WritesRows rules header written ds (rest rows) (Err fault) now next so_far end in
    let Q : List RowView → Type 0 = λ rs. WritesRows rules header written (due (row ∷ rows)) rs (Err fault) now next so_far end in
    let L : List RowView → Type 0 = λ rs. IsStopped rules header written row rs (Err fault) so_far end in
    let stopped : IsStopped rules header written row rows (Err fault) so_far end = record { fault = fault; result_is = refl; text_is = writes.0; refused = writes.1 } in
    subst Q (sym at.rest_is) (subst P (sym at.due_is) (inr (subst L (sym at.whole) stopped)))

pub stops : (rules : Rules) (due rest : List RowView → List RowView) (start now next : Engine) (text so_far end : List ℕ) (fault : OnlineFault) → (now.held.items ≡ [] → ⊥) → ((row : RowView) (rows : List RowView) → now.held.items ≡ row ∷ rows → ArePartsAt due rest row rows)
    → Goes rules due rest start now text so_far → ((header : HeaderView) (before : List RowView) → Stands rules header before now → WritesOldest rules header before now.held.items (Err fault) now next so_far end)
    → (header : HeaderView) (before : List RowView) → Stands rules header before start → WritesRows rules header before (due start.held.items) (rest start.held.items) (Err fault) start next text end
stops rules due rest start now next text so_far end fault some parts goes writes header before stands =
    let from = goes header before stands in
    from.leads (Err fault) next end (stop_by rules header from.written due rest now next so_far end fault now.held.items some parts (writes header from.written from.stands))

-- ---- where nothing is due any more

pub through : (rules : Rules) (due rest : List RowView → List RowView) (start now : Engine) (text so_far : List ℕ) → due now.held.items ≡ [] → rest now.held.items ≡ now.held.items → Goes rules due rest start now text so_far
    → (header : HeaderView) (before : List RowView) → Stands rules header before start → WritesRows rules header before (due start.held.items) (rest start.held.items) (Ok tt) start now text so_far
through rules due rest start now text so_far none all goes header before stands =
    let from = goes header before stands in
    let D : List RowView → Type 0 = λ ds. WritesRows rules header from.written ds (rest now.held.items) (Ok tt) now now so_far so_far in
    from.leads (Ok tt) now so_far (subst D (sym none) (record { result_is = refl; stands = from.stands; held = sym all; text_is = refl; same = record { most = refl; capacity = refl }; seen = λ rows seen. seen }))

-- ---- the parts

pub all_parts : (row : RowView) (rows : List RowView) → ArePartsAt (λ items. items) (λ items. []) row rows
all_parts row rows = record { due_is = refl; rest_is = refl; whole = append-nil rows }

whole_by : (b : Bool) (row : RowView) (due rest rows : List RowView) → due ++ rest ≡ rows → cond b (row ∷ due) [] ++ cond b rest (row ∷ rows) ≡ row ∷ rows
whole_by true row due rest rows e = ap (λ (rs : List RowView). row ∷ rs) e
whole_by false row due rest rows e = refl

pub due_whole : (most now : ℤ) (rows : List RowView) → due_part most now rows ++ rest_part most now rows ≡ rows
due_whole most now [] = refl
due_whole most now (row ∷ rows) = whole_by (int_lt most (now -ℤ row.ticks)) row (due_part most now rows) (rest_part most now rows) rows (due_whole most now rows)

pub due_parts : (most now : ℤ) (items : List RowView) (row : RowView) (rows : List RowView) → first_due most now items ≡ true → items ≡ row ∷ rows → ArePartsAt (due_part most now) (rest_part most now) row rows
due_parts most now items row rows due e =
    let first = sym (ap (first_due most now) e) ∙ due in
    record {
      due_is = ap (λ (b : Bool). cond b (row ∷ due_part most now rows) []) first;
      rest_is = ap (λ (b : Bool). cond b (rest_part most now rows) (row ∷ rows)) first;
      whole = due_whole most now rows;
    }

false_true : false ≡ true → ⊥
false_true e = cc

pub due_some : (most now : ℤ) (items : List RowView) → first_due most now items ≡ true → items ≡ [] → ⊥
due_some most now items due e = false_true (sym (ap (first_due most now) e) ∙ due)

pub none_due : (most now : ℤ) (items : List RowView) → first_due most now items ≡ false → due_part most now items ≡ []
none_due most now [] e = refl
none_due most now (row ∷ rows) e = ap (λ (b : Bool). cond b (row ∷ due_part most now rows) []) e

pub all_rest : (most now : ℤ) (items : List RowView) → first_due most now items ≡ false → rest_part most now items ≡ items
all_rest most now [] e = refl
all_rest most now (row ∷ rows) e = ap (λ (b : Bool). cond b (rest_part most now rows) (row ∷ rows)) e

pub some_held : (items : List RowView) (empty : Bool) → empty ≡ (length items == 0) → empty ≡ false → items ≡ [] → ⊥
some_held items empty is some none = false_true (sym some ∙ is ∙ eq-eqb (length items) 0 (ap length none))

pub none_held : (items : List RowView) (empty : Bool) → empty ≡ (length items == 0) → empty ≡ true → items ≡ []
none_held items empty is none = nil_from_length items (eqb-true (length items) 0 (sym is ∙ none))
