use Rattle.std.proofs.Common.{◌≡◌, ℕ, true, List, [], ◌∷◌, length, refl, sym, ◌∙◌, arith}
use Rattle.std.proofs.lemmas.Bool.{eqb-true}
use Rattle.std.specs.Prelude.{◌==◌}
use Rattle.std.proofs.lemmas.Result.{err_from_is_err_and}
use Rattle.online_repair.proofs.Left.{left_all, left_goes, left_none, left_some, left_stops}
use Rattle.online_repair.proofs.stream.Stream.feed.Goals as goal

pub loop-rest-init : goal.loop-rest-init
loop-rest-init c = left_all c.one_answer.ensures c.args.self.now c.args.bytes.now c.args.out.now.items

pub feed_some-requires : goal.feed_some-requires
feed_some-requires c = left_goes c.args.self.now c.loop-rest.self c.args.bytes.now c.loop-rest.rest.now c.args.out.now.items c.loop-rest.out.items c.loop-rest.invariant c.requires

pub returns-in_err-count : goal.returns-in_err-count
returns-in_err-count c =
    let given = err_from_is_err_and c.from_residual.result c.from_residual.ensures.1 in
    rw (given.1, given.2)
    (left_stops c.args.self.now c.loop-rest.self c.feed_some.new.self c.args.bytes.now c.loop-rest.rest.now c.in_err-count.field-0.0 c.args.out.now.items c.loop-rest.out.items c.feed_some.new.out.items c.loop-rest.invariant c.in_err-count.ensures.fed)

pub split_at-requires : goal.split_at-requires
split_at-requires c = c.in_ok-count.ensures.within

pub loop-rest-preserved : goal.loop-rest-preserved
loop-rest-preserved c =
    rw c.split_at.ensures.back
    (left_some c.args.self.now c.loop-rest.self c.feed_some.new.self c.args.bytes.now c.loop-rest.rest.now c.in_ok-count.count c.args.out.now.items c.loop-rest.out.items c.feed_some.new.out.items c.loop-rest.invariant c.in_ok-count.ensures.fed)

empty_is : (xs : List ℕ) → (length xs == 0) ≡ true → xs ≡ []
empty_is [] e = refl
empty_is (x ∷ xs) e = absurd (let none : length (x ∷ xs) ≡ 0 = eqb-true (length (x ∷ xs)) 0 e in omega (arith, none))

pub returns : goal.returns
returns c =
    left_none c.args.self.now c.loop-rest.self c.args.bytes.now c.loop-rest.rest.now c.args.out.now.items c.loop-rest.out.items (empty_is c.loop-rest.rest.now (sym c.is_empty.ensures ∙ c.loop-rest-test.false)) c.loop-rest.invariant
