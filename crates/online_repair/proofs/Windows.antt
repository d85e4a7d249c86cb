-- The rows that are held and the windows, while a repair stands for bytes.
use Rattle.std.proofs.Common.{◌≡◌, ℕ, ◌-◌, ◌≤◌, Bool, true, false, List, [], ◌∷◌, ◌++◌, length, reverse, take, refl, sym, ap, ◌∙◌, subst, arith, append-nil, length-append}
use Rattle.std.specs.Prelude.{Option, Some, None, min, option_map}
use Rattle.std.proofs.lemmas.List.{reverse-reverse}
use Rattle.rule_file.specs.declared.rules.Rules.{Rules}
use Rattle.series_rows.specs.Header.{HeaderView}
use Rattle.series_rows.specs.Row.{RowView}
use Rattle.series_rows.specs.declared.fault.TableFault.{TableFault}
use Rattle.series_rows.specs.declared.limits.Limits.TheVariants.{Endless}
use Rattle.series_csv.specs.Read.{Read}
use Rattle.series_csv.specs.Stays.{FilesHaveOneAnswer}
use Rattle.order_window.specs.declared.key.Key.{Key}
use Rattle.order_window.specs.Window.{Window}
use Rattle.online_values.specs.Results.{Speed}
use Rattle.online_values.specs.Sensor.{speed_of}
use Rattle.online_repair.specs.Accepted.{Accepted}
use Rattle.online_repair.specs.Feeds.{HasWindow, IsWindow, LacksWindow, rule_of_column, successors_of_last}
use Rattle.online_repair.specs.Output.{IsOutput, Output, Reads, output, output_of, output_with}
use Rattle.online_repair.specs.Rows.{keys_in}
use Rattle.online_repair.specs.Sensors.{IsTrackOf, IsWindowOf, place_in}
use Rattle.online_repair.specs.Standing.{AreStanding, IsWindowed}
use Rattle.online_repair.specs.Held.{held_by, held_rows}
use Rattle.online_repair.specs.StandsFor.{EngineEnded, EngineKeeps, OnlineView, StandsFor, StreamStands}
use Rattle.online_repair.specs.declared.engine.Engine.{Engine}
use Rattle.online_repair.specs.declared.fault.OnlineFault.TheVariants.{Table}
use Rattle.online_repair.specs.declared.stream.Stream.{Stream}
use Rattle.online_repair.proofs.Outputs as outputs
use Rattle.online_repair.proofs.Pieces.{same_output}
use Rattle.online_repair.proofs.Repairing.{successors_are}
use Rattle.online_repair.proofs.Rules.{no_rule, rule_at, rule_of_track}

-- ---- what was read, by whether the file has ended

abbrev KeptOf : Bool → Rules → Option HeaderView → List RowView → Option Engine → Type 0
KeptOf false rules header rows engine = EngineKeeps rules header rows engine
KeptOf true rules header rows engine = EngineEnded rules header rows engine

record IsKeptOf (ended : Bool) (rules : Rules) (bytes : List ℕ) (engine : Option Engine) : Type 0 where
  read : Read
  reads : Reads rules ended bytes read
  not_refused : read.fault ≡ None
  kept : KeptOf ended rules read.header read.rows engine

kept_of : (ended : Bool) (stream : Stream) (rules : Rules) (bytes : List ℕ) → StreamStands ended stream rules bytes → IsKeptOf ended rules bytes stream.engine
kept_of false stream rules bytes goes = record { read = goes.read; reads = goes.reads; not_refused = goes.not_refused; kept = goes.engine }
kept_of true stream rules bytes over = record { read = over.read; reads = over.reads; not_refused = over.not_refused; kept = over.engine }

same_read : FilesHaveOneAnswer → (rules : Rules) (ended : Bool) (bytes : List ℕ) (one other : Read) → Reads rules ended bytes one → Reads rules ended bytes other → one ≡ other
same_read law rules false bytes one other p q = (law rules Endless bytes).so_far one other p q
same_read law rules true bytes one other p q = (law rules Endless bytes).ended one other p q

-- ---- the rows that are held

held_open : (rules : Rules) (header : Option HeaderView) (rows : List RowView) (engine : Option Engine) → EngineKeeps rules header rows engine → (output_with rules false header rows None).held ≡ held_by engine
held_open rules None rows None keeps = refl
held_open rules None rows (Some engine) keeps = absurd keeps
held_open rules (Some header) rows None keeps = absurd keeps
held_open rules (Some header) rows (Some engine) keeps =
    ap (λ (a : Accepted). (output_of rules header false a).held) keeps.1 ∙ ap (λ (o : Output). o.held) (outputs.output_kept rules header rows engine keeps.0)

held_over : (rules : Rules) (header : Option HeaderView) (rows : List RowView) (engine : Option Engine) → EngineEnded rules header rows engine → (output_with rules true header rows None).held ≡ held_by engine
held_over rules None rows engine ended = absurd ended
held_over rules (Some header) rows None ended = absurd ended
held_over rules (Some header) rows (Some engine) ended = ap (λ (a : Accepted). (output_of rules header true a).held) ended.2 ∙ sym ended.1

held_kept : (ended : Bool) (rules : Rules) (header : Option HeaderView) (rows : List RowView) (engine : Option Engine) → KeptOf ended rules header rows engine → (output_with rules ended header rows None).held ≡ held_by engine
held_kept false rules header rows engine keeps = held_open rules header rows engine keeps
held_kept true rules header rows engine ended = held_over rules header rows engine ended

held_read : (ended : Bool) (rules : Rules) (read : Read) (engine : Option Engine) → read.fault ≡ None → KeptOf ended rules read.header read.rows engine → (output rules ended read).held ≡ held_by engine
held_read ended rules read engine none kept =
    ap (λ (f : Option TableFault). (output_with rules ended read.header read.rows (option_map Table f)).held) none ∙ held_kept ended rules read.header read.rows engine kept

pub held_is : FilesHaveOneAnswer → (rules : Rules) (ended : Bool) (bytes : List ℕ) (out : Output) (stream : Stream) → StreamStands ended stream rules bytes → IsOutput rules ended bytes out → out.held ≡ held_by stream.engine
held_is law rules ended bytes out stream stands is =
    let kept = kept_of ended stream rules bytes stands in
    ap (λ (o : Output). o.held) (same_output law rules ended bytes kept.read out kept.reads is) ∙ held_read ended rules kept.read stream.engine kept.not_refused kept.kept

pub held_rows_are : FilesHaveOneAnswer → (rules : Rules) (ended : Bool) (bytes : List ℕ) (out : Output) (online : OnlineView) → StandsFor online rules ended bytes → IsOutput rules ended bytes out → held_rows online ≡ out.held
held_rows_are law rules ended bytes out online stands is = sym (held_is law rules ended bytes out online.stream stands.stream is)

few_open : (rules : Rules) (header : Option HeaderView) (rows : List RowView) (engine : Option Engine) → EngineKeeps rules header rows engine → length (held_by engine) ≤ rules.format.hold
few_open rules header rows None keeps = omega arith
few_open rules None rows (Some engine) keeps = absurd keeps
few_open rules (Some header) rows (Some engine) keeps = keeps.0.held_fits

few_over : (rules : Rules) (header : Option HeaderView) (rows : List RowView) (engine : Option Engine) → EngineEnded rules header rows engine → length (held_by engine) ≤ rules.format.hold
few_over rules header rows None ended = omega arith
few_over rules None rows (Some engine) ended = absurd ended
few_over rules (Some header) rows (Some engine) ended = omega (arith, ap length ended.1)

few_kept : (ended : Bool) (rules : Rules) (header : Option HeaderView) (rows : List RowView) (engine : Option Engine) → KeptOf ended rules header rows engine → length (held_by engine) ≤ rules.format.hold
few_kept false rules header rows engine keeps = few_open rules header rows engine keeps
few_kept true rules header rows engine ended = few_over rules header rows engine ended

pub held_few : (rules : Rules) (ended : Bool) (bytes : List ℕ) (stream : Stream) → StreamStands ended stream rules bytes → length (held_by stream.engine) ≤ rules.format.hold
held_few rules ended bytes stream stands =
    let kept = kept_of ended stream rules bytes stands in
    few_kept ended rules kept.read.header kept.read.rows stream.engine kept.kept

-- ---- the keys of a window

window_by : (speed : Speed) (col : ℕ) (keys : List Key) (next : ℕ) (held : List RowView) → IsWindowed speed.span keys next held → keys_in col (take next held) ≡ successors_of_last speed keys (keys_in col held)
window_by speed col [] next held windowed = ap (λ (n : ℕ). keys_in col (take n held)) windowed
window_by speed col (last ∷ earlier) next held windowed = successors_are speed speed.span last col held next refl windowed.0 windowed.1

-- the rows that were written and those that are held, by which the tracks stand
record IsSeen (ended : Bool) (rules : Rules) (read : Read) (engine : Engine) : Type 0 where
  header : HeaderView
  header_is : read.header ≡ Some header
  before : List RowView
  joined : read.rows ≡ reverse before ++ engine.held.items
  stands : AreStanding rules header before engine.held.items engine.tracks.items

seen_by : (ended : Bool) (rules : Rules) (header : Option HeaderView) (read : Read) (engine : Engine) → read.header ≡ header → KeptOf ended rules header read.rows (Some engine) → IsSeen ended rules read engine
seen_by false rules None read engine e keeps = absurd keeps
seen_by false rules (Some header) read engine e keeps = record { header = header; header_is = e; before = keeps.0.before; joined = keeps.0.joined; stands = keeps.0.stands.tracks }
seen_by true rules None read engine e ended = absurd ended
seen_by true rules (Some header) read engine e ended = record {
  header = header;
  header_is = e;
  before = reverse read.rows;
  joined = sym (reverse-reverse read.rows) ∙ sym (append-nil (reverse (reverse read.rows))) ∙ ap (λ (rs : List RowView). reverse (reverse read.rows) ++ rs) (sym ended.1);
  stands = ended.0.tracks;
}

seen : (ended : Bool) (rules : Rules) (read : Read) (engine : Engine) → KeptOf ended rules read.header read.rows (Some engine) → IsSeen ended rules read engine
seen ended rules read engine kept = seen_by ended rules read.header read engine refl kept

take_front : (rows more : List RowView) → take (length rows) (rows ++ more) ≡ rows
take_front [] more = refl
take_front (row ∷ rows) more = ap (λ (rs : List RowView). row ∷ rs) (take_front rows more)

written_are : (rows before held : List RowView) → rows ≡ reverse before ++ held → reverse (take (length rows - length held) rows) ≡ before
written_are rows before held joined =
    let many : length rows - length held ≡ length (reverse before) = omega (arith, ap length joined, length-append (reverse before) held) in
    ap (λ (n : ℕ). reverse (take n rows)) many
    ∙ ap (λ (rs : List RowView). reverse (take (length (reverse before)) rs)) joined
    ∙ ap reverse (take_front (reverse before) held)
    ∙ reverse-reverse before

window_seen : (ended : Bool) (rules : Rules) (read : Read) (engine : Engine) (col : ℕ) (window : Window) → IsSeen ended rules read engine → (output rules ended read).held ≡ engine.held.items → IsWindowOf col engine.tracks.items window → IsWindow rules read (output rules ended read).held col window
window_seen ended rules read engine col window all held is =
    let found = rule_of_track (IsTrackOf rules all.header) rules.speeds engine.tracks.items is.place is.track all.stands.of_rules is.track_is in
    let stands = all.stands.stands col is.place found.rule is.track is.place_is found.at is.track_is in
    let speed = speed_of found.rule rules.format.decimals in
    let W : List RowView → Type 0 = λ hs. IsWindow rules read hs col window in
    subst W (sym held) (record {
      rule = found.rule;
      names = ap (λ (h : Option HeaderView). rule_of_column rules h col) all.header_is ∙ rule_at rules all.header col is.place engine.tracks.items all.stands.of_rules is.place_is ∙ found.at;
      keys = ap (λ (w : Window). w.keys) is.window_is ∙ stands.keys_are ∙ window_by speed col (keys_in col all.before) is.track.next engine.held.items stands.windowed
          ∙ ap (λ (rs : List RowView). successors_of_last speed (keys_in col rs) (keys_in col engine.held.items)) (sym (written_are read.rows all.before engine.held.items all.joined));
      room = ap (λ (w : Window). w.room) is.window_is ∙ found.is.room;
      rates = ap (λ (w : Window). w.rates) is.window_is ∙ ap (λ (s : Speed). s.rates) found.is.speed;
      span = ap (λ (w : Window). w.span) is.window_is ∙ ap (λ (s : Speed). s.span) found.is.speed;
    })

pub has_window : FilesHaveOneAnswer → (rules : Rules) (ended : Bool) (bytes : List ℕ) (col : ℕ) (stream : Stream) (engine : Engine) (window : Window) → StreamStands ended stream rules bytes → stream.engine ≡ Some engine → IsWindowOf col engine.tracks.items window → HasWindow rules ended bytes col window
has_window law rules ended bytes col stream engine window stands same is = λ read reads.
    let kept = kept_of ended stream rules bytes stands in
    let K : Option Engine → Type 0 = λ e. KeptOf ended rules kept.read.header kept.read.rows e in
    let H : Option Engine → Type 0 = λ e. (output rules ended kept.read).held ≡ held_by e in
    let R : Read → Type 0 = λ r. IsWindow rules r (output rules ended r).held col window in
    subst R (same_read law rules ended bytes kept.read read kept.reads reads)
    (window_seen ended rules kept.read engine col window (seen ended rules kept.read engine (subst K same kept.kept)) (subst H same (held_read ended rules kept.read stream.engine kept.not_refused kept.kept)) is)

-- ---- no window

lacks_by : (ended : Bool) (rules : Rules) (header : Option HeaderView) (rows : List RowView) (col : ℕ) → KeptOf ended rules header rows None → rule_of_column rules header col ≡ None
lacks_by false rules None rows col keeps = refl
lacks_by false rules (Some header) rows col keeps = absurd keeps
lacks_by true rules None rows col ended = absurd ended
lacks_by true rules (Some header) rows col ended = absurd ended

pub no_header : FilesHaveOneAnswer → (rules : Rules) (ended : Bool) (bytes : List ℕ) (col : ℕ) (stream : Stream) → StreamStands ended stream rules bytes → stream.engine ≡ None → LacksWindow rules ended bytes col
no_header law rules ended bytes col stream stands same = λ read reads.
    let kept = kept_of ended stream rules bytes stands in
    let K : Option Engine → Type 0 = λ e. KeptOf ended rules kept.read.header kept.read.rows e in
    let R : Read → Type 0 = λ r. rule_of_column rules r.header col ≡ None in
    subst R (same_read law rules ended bytes kept.read read kept.reads reads) (lacks_by ended rules kept.read.header kept.read.rows col (subst K same kept.kept))

pub no_window : FilesHaveOneAnswer → (rules : Rules) (ended : Bool) (bytes : List ℕ) (col : ℕ) (stream : Stream) (engine : Engine) → StreamStands ended stream rules bytes → stream.engine ≡ Some engine → place_in col engine.tracks.items ≡ None → LacksWindow rules ended bytes col
no_window law rules ended bytes col stream engine stands same none = λ read reads.
    let kept = kept_of ended stream rules bytes stands in
    let K : Option Engine → Type 0 = λ e. KeptOf ended rules kept.read.header kept.read.rows e in
    let R : Read → Type 0 = λ r. rule_of_column rules r.header col ≡ None in
    let all = seen ended rules kept.read engine (subst K same kept.kept) in
    subst R (same_read law rules ended bytes kept.read read kept.reads reads)
    (ap (λ (h : Option HeaderView). rule_of_column rules h col) all.header_is ∙ no_rule rules all.header col engine.tracks.items all.stands.of_rules none)

-- ---- as many rows as may be held are fewer than 2^32

pub held_count : FilesHaveOneAnswer → (rules : Rules) (ended : Bool) (bytes : List ℕ) (out : Output) (stream : Stream) (count : ℕ) → StreamStands ended stream rules bytes → IsOutput rules ended bytes out → count ≡ min (length (held_by stream.engine)) 4294967295 → count ≡ length out.held
held_count law rules ended bytes out stream count stands is e =
    let few = held_few rules ended bytes stream stands in
    let most = rules.format.limits.hold_most in
    let same = ap length (held_is law rules ended bytes out stream stands is) in
    omega (arith, e, few, most, same)
