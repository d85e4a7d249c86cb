use Rattle.std.proofs.Common.{◌≡◌, ℤ, List, FitsSigned, to_z, of_z, rules, sym, ap, ◌∙◌, subst}
use Rattle.std.specs.Prelude.{slice_set}
use Rattle.std.specs.Int.{w64}
use Rattle.std.proofs.lemmas.Int.{to_z-of_z}
use Rattle.order_window.specs.declared.key.Key.{Key}
use Rattle.online_repair.specs.Sensors.{Repairs, key_of, place_in}
use Rattle.online_repair.specs.declared.track.Track.{Track}
use Rattle.online_repair.proofs.Columns.{ready_at, repairs_at, track_at}
use Rattle.online_repair.proofs.sensors.value_of.Goals as goal

abbrev key_is : ℤ → ℤ → Key
key_is value ticks = record { value = value; ticks = ticks }

pub repair-requires-clause-rows : goal.repair-requires-clause-rows
repair-requires-clause-rows c =
    let value : FitsSigned w64 c.args.reading.value = search rules in
    let key : key_is (to_z w64 (of_z w64 c.args.reading.value)) (to_z w64 (of_z w64 c.args.ticks)) ≡ key_of c.args.reading c.args.ticks = ap (λ (v : ℤ). key_is v (to_z w64 (of_z w64 c.args.ticks))) (to_z-of_z w64 c.args.reading.value value) ∙ ap (λ (t : ℤ). key_is c.args.reading.value t) (to_z-of_z w64 c.args.ticks c.ranges.ticks) in
    let P : List Track → Type 0 = λ ts. c.place_of.result ≡ place_in c.args.reading.col ts in
    let place = sym (subst P c.as_slice.ensures.value c.place_of.ensures) ∙ c.in-Some.is in
    let at = track_at c.args.reading.col c.in-Some.i c.args.tracks.now.items c.index_mut.result.now place c.index_mut.ensures.value in
    let may = ready_at c.args.reading.col c.in-Some.i c.args.tracks.now.items c.index_mut.result.now (key_of c.args.reading c.args.ticks) _ c.args.held.now.items key place at c.requires in
    may.rows

pub repair-requires-clause-leaving : goal.repair-requires-clause-leaving
repair-requires-clause-leaving c =
    let value : FitsSigned w64 c.args.reading.value = search rules in
    let key : key_is (to_z w64 (of_z w64 c.args.reading.value)) (to_z w64 (of_z w64 c.args.ticks)) ≡ key_of c.args.reading c.args.ticks = ap (λ (v : ℤ). key_is v (to_z w64 (of_z w64 c.args.ticks))) (to_z-of_z w64 c.args.reading.value value) ∙ ap (λ (t : ℤ). key_is c.args.reading.value t) (to_z-of_z w64 c.args.ticks c.ranges.ticks) in
    let P : List Track → Type 0 = λ ts. c.place_of.result ≡ place_in c.args.reading.col ts in
    let place = sym (subst P c.as_slice.ensures.value c.place_of.ensures) ∙ c.in-Some.is in
    let at = track_at c.args.reading.col c.in-Some.i c.args.tracks.now.items c.index_mut.result.now place c.index_mut.ensures.value in
    let may = ready_at c.args.reading.col c.in-Some.i c.args.tracks.now.items c.index_mut.result.now (key_of c.args.reading c.args.ticks) _ c.args.held.now.items key place at c.requires in
    may.leaving

pub returns : goal.returns
returns c =
    let value : FitsSigned w64 c.args.reading.value = search rules in
    let key : key_is (to_z w64 (of_z w64 c.args.reading.value)) (to_z w64 (of_z w64 c.args.ticks)) ≡ key_of c.args.reading c.args.ticks = ap (λ (v : ℤ). key_is v (to_z w64 (of_z w64 c.args.ticks))) (to_z-of_z w64 c.args.reading.value value) ∙ ap (λ (t : ℤ). key_is c.args.reading.value t) (to_z-of_z w64 c.args.ticks c.ranges.ticks) in
    let P : List Track → Type 0 = λ ts. c.place_of.result ≡ place_in c.args.reading.col ts in
    let place = sym (subst P c.as_slice.ensures.value c.place_of.ensures) ∙ c.in-Some.is in
    let at = track_at c.args.reading.col c.in-Some.i c.args.tracks.now.items c.index_mut.result.now place c.index_mut.ensures.value in
    let fits : FitsSigned w64 c.repair.result = search rules in
    let V : ℤ → Type 0 = λ v. Repairs (place_in c.args.reading.col c.args.tracks.now.items) c.args.tracks.now.items (slice_set c.args.tracks.now.items c.in-Some.i c.repair.new.track) c.args.reading.col (key_of c.args.reading c.args.ticks) c.args.held.now.items v in
    subst V (sym (to_z-of_z w64 c.repair.result fits))
    (repairs_at c.args.reading.col c.in-Some.i c.args.tracks.now.items c.index_mut.result.now c.repair.new.track (key_of c.args.reading c.args.ticks) _ c.args.held.now.items c.repair.result key place at c.repair.ensures.value c.repair.ensures.looked c.repair.ensures.kept)
