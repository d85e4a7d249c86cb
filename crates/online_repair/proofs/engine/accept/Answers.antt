use Rattle.std.proofs.Common.{◌≡◌, suc, ◌+◌, ℤ, Bool, true, false, length, FitsSigned, to_z, of_z, rules, refl, sym, ◌∙◌, subst, arith}
use Rattle.std.specs.Int.{w64}
use Rattle.std.proofs.lemmas.Int.{to_z-of_z}
use Rattle.online_repair.specs.Engines.{is_full_at}
use Rattle.online_repair.specs.declared.engine.Engine.{Engine}
use Rattle.online_repair.proofs.Accepting.{IsLikeEngine, full_refused, length_kept, may_store, seen_before, step_refused}
use Rattle.online_repair.proofs.Kept.{row_accepted}
use Rattle.online_repair.proofs.engine.accept.Goals as goal

read_full : (b : Bool) (engine : Engine) (most read now : ℤ) → FitsSigned w64 engine.most → FitsSigned w64 read → read ≡ now → b ≡ is_full_at engine.held.capacity (to_z w64 (of_z w64 engine.most)) engine.held.items (to_z w64 (of_z w64 read)) → is_full_at engine.held.capacity engine.most engine.held.items now ≡ b
read_full b engine most read now fits time_fits e is =
    let F : ℤ → Type 0 = λ m. b ≡ is_full_at engine.held.capacity m engine.held.items (to_z w64 (of_z w64 read)) in
    let G : ℤ → Type 0 = λ t. b ≡ is_full_at engine.held.capacity engine.most engine.held.items t in
    sym (subst G (to_z-of_z w64 read time_fits ∙ e) (subst F (to_z-of_z w64 engine.most fits) is))

pub without_step-requires : goal.without_step-requires
without_step-requires c = seen_before c.args.row.ticks c.requires.accepted c.args.engine.now.tracks.items c.requires.keeps.seen c.requires.next.later

pub returns-then-is_full : goal.returns-then-is_full
returns-then-is_full c = λ header accepted keeps next.
    let fits : FitsSigned w64 c.args.engine.now.most = search rules in
    let time_fits : FitsSigned w64 c.ticks.result = search rules in
    let number : c.args.engine.now.written + c.len.result + 1 ≡ suc (length accepted) = omega (arith, length_kept c.args.rules.now header accepted c.args.engine.now keeps, c.len.ensures.len) in
    full_refused c.args.rules.now header accepted c.args.row c.args.engine.now _ c.args.out.now.items (c.args.engine.now.written + c.len.result + 1) keeps
    (read_full true c.args.engine.now c.args.engine.now.most c.ticks.result c.args.row.ticks fits time_fits c.ticks.ensures c.if-is_full.ensures) number

pub returns-in-Some : goal.returns-in-Some
returns-in-Some c = λ header accepted keeps next.
    let fits : FitsSigned w64 c.args.engine.now.most = search rules in
    let time_fits : FitsSigned w64 c.ticks.result = search rules in
    let number : c.args.engine.now.written + c.len.result + 1 ≡ suc (length accepted) = omega (arith, length_kept c.args.rules.now header accepted c.args.engine.now keeps, c.len.ensures.len) in
    step_refused c.args.rules.now header accepted c.args.row c.args.engine.now _ c.args.out.now.items (c.args.engine.now.written + c.len.result + 1) c.in-Some.col keeps
    (read_full false c.args.engine.now c.args.engine.now.most c.ticks.result c.args.row.ticks fits time_fits c.ticks.ensures c.if-is_full.ensures) c.in-Some.ensures.step number

pub store-requires : goal.store-requires
store-requires c =
    let same : Engine = record c.args.engine.now { tracks = c.without_step.new.tracks } in
    let fits : FitsSigned w64 c.args.engine.now.most = search rules in
    let time_fits : FitsSigned w64 c.ticks.result = search rules in
    let full = read_full false c.args.engine.now c.args.engine.now.most c.ticks.result c.args.row.ticks fits time_fits c.ticks.ensures c.if-is_full.ensures in
    record {
      header = c.requires.header;
      before = c.requires.keeps.before;
      may = may_store c.args.rules.now c.requires.header c.requires.accepted c.args.row c.args.engine.now same c.requires.keeps c.requires.next full (record { tracks = c.without_step.ensures.kept; most = refl; items = refl; capacity = refl; written = refl });
    }

pub returns : goal.returns
returns c = λ header accepted keeps next.
    let same : Engine = record c.args.engine.now { tracks = c.without_step.new.tracks } in
    let fits : FitsSigned w64 c.args.engine.now.most = search rules in
    let time_fits : FitsSigned w64 c.ticks.result = search rules in
    let full = read_full false c.args.engine.now c.args.engine.now.most c.ticks.result c.args.row.ticks fits time_fits c.ticks.ensures c.if-is_full.ensures in
    let like : IsLikeEngine c.args.engine.now same = record { tracks = c.without_step.ensures.kept; most = refl; items = refl; capacity = refl; written = refl } in
    row_accepted c.args.rules.now header accepted c.args.row c.args.engine.now same c.store.new.engine c.args.out.now.items c.store.new.out.items c.store.result keeps next full c.in_default.ensures.step like
    (c.store.ensures header keeps.before (may_store c.args.rules.now header accepted c.args.row c.args.engine.now same keeps next full like))
