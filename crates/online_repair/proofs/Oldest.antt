-- The oldest row leaves those that are held, and is written.
use Rattle.std.proofs.Common.{◌≡◌, ℕ, List, [], ◌∷◌, length, drop, sym, ap, ◌∙◌, subst, arith}
use Rattle.std.specs.Prelude.{Some, None, Result, Ok, Err, slice_get}
use Rattle.circular_buffer.specs.Buffer.{Buffer, buffer}
use Rattle.rule_file.specs.declared.rules.Rules.{Rules}
use Rattle.series_rows.specs.Header.{HeaderView}
use Rattle.series_rows.specs.Row.{RowView}
use Rattle.online_repair.specs.Engines.{AreRows, IsTooLarge, IsWritten, Leaves, Stands, WritesOldest, WritesRow}
use Rattle.online_repair.specs.Sensors.{HaveSeen}
use Rattle.online_repair.specs.Standing.{AreStanding}
use Rattle.online_repair.specs.declared.engine.Engine.{Engine}
use Rattle.online_repair.specs.declared.track.Track.{Track}
use Rattle.online_repair.specs.declared.fault.OnlineFault.{OnlineFault}

none_some : (row : RowView) → Some row ≡ None → ⊥
none_some row e = cc

same_row : (a b : RowView) → Some a ≡ Some b → a ≡ b
same_row a b e = cc

-- what is left of an engine without its oldest row
pub record IsPopped (old popped : Engine) (rest : List RowView) : Type 0 where
  pub most : popped.most ≡ old.most
  pub tracks : popped.tracks.items ≡ old.tracks.items
  pub held : popped.held ≡ buffer rest old.held.capacity
  pub written : popped.written ≡ old.written

leaves : (rules : Rules) (header : HeaderView) (before rest : List RowView) (row : RowView) (old popped : Engine) → old.held.items ≡ row ∷ rest → IsPopped old popped rest → Stands rules header before old → Leaves rules header before row popped
leaves rules header before rest row old popped e pop stands =
    let items : popped.held.items ≡ rest = ap (λ (h : Buffer RowView). h.items) pop.held in
    let T : List RowView → Type 0 = λ held. AreStanding rules header before held old.tracks.items in
    let U : List RowView → Type 0 = λ held. AreStanding rules header before (row ∷ held) popped.tracks.items in
    let K : List Track → Type 0 = λ ts. AreStanding rules header before (row ∷ rest) ts in
    let R : List RowView → Type 0 = λ held. AreRows rules.format.hold before held in
    let A : List RowView → Type 0 = λ held. AreRows rules.format.hold before (row ∷ held) in
    record {
      tracks = subst U (sym items) (subst K (sym pop.tracks) (subst T e stands.tracks));
      about = subst A (sym items) (subst R e stands.rows);
      written_is = pop.written ∙ stands.written_is;
      few = omega (arith, stands.few, ap length e, ap length items);
    }

as_old : (rules : Rules) (header : HeaderView) (before rest : List RowView) (row : RowView) (result : Result Unit OnlineFault) (old popped new : Engine) (text now : List ℕ) → IsPopped old popped rest → WritesRow rules header before row popped.held.items result popped new text now → WritesRow rules header before row rest result old new text now
as_old rules header before rest row (Ok done) old popped new text now pop writes =
    let items : popped.held.items ≡ rest = ap (λ (h : Buffer RowView). h.items) pop.held in
    let W : List RowView → Type 0 = λ held. IsWritten rules header before row held popped new text now in
    let written = subst W items writes in
    record {
      stands = written.stands;
      held = written.held;
      small = written.small;
      text_is = written.text_is;
      same = record {
        most = written.same.most ∙ pop.most;
        capacity = written.same.capacity ∙ ap (λ (h : Buffer RowView). h.capacity) pop.held;
      };
      seen = λ rows seen.
          let H : List Track → Type 0 = λ ts. HaveSeen rows ts in
          written.seen rows (subst H (sym pop.tracks) seen);
    }
as_old rules header before rest row (Err fault) old popped new text now pop writes =
    let items : popped.held.items ≡ rest = ap (λ (h : Buffer RowView). h.items) pop.held in
    let L : List RowView → Type 0 = λ held. IsTooLarge rules header before row held fault in
    (writes.0, λ other. subst L items (writes.1 other))

pub oldest_written : (rules : Rules) (header : HeaderView) (before held : List RowView) (row : RowView) (result : Result Unit OnlineFault) (old popped new : Engine) (text now : List ℕ) → old.held.items ≡ held → Some row ≡ slice_get held 0 → IsPopped old popped (drop 1 held)
    → (Leaves rules header before row popped → WritesRow rules header before row popped.held.items result popped new text now) → Stands rules header before old → WritesOldest rules header before held result old new text now
oldest_written rules header before [] row result old popped new text now e at pop writes stands = absurd (none_some row at)
oldest_written rules header before (first ∷ rest) row result old popped new text now e at pop writes stands =
    let same = same_row row first at in
    let W : RowView → Type 0 = λ r. WritesRow rules header before r rest result old new text now in
    let here = leaves rules header before rest row old popped (e ∙ ap (λ (r : RowView). r ∷ rest) (sym same)) pop stands in
    subst W same (as_old rules header before rest row result old popped new text now pop (writes here))
