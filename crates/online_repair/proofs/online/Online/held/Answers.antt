use Rattle.std.proofs.Common.{ap, ◌∙◌}
use Rattle.std.specs.Prelude.{ℕ, min}
use Rattle.online_repair.proofs.Public.{stands_at}
use Rattle.online_repair.proofs.Windows.{held_count, held_rows_are}
use Rattle.online_repair.proofs.online.Online.held.Goals as goal

pub returns-clause-held : goal.returns-clause-held
returns-clause-held c = λ rules ended bytes out stands is.
    held_count c.one_answer.ensures rules ended bytes out c.self.inside.stream c.min.result (stands_at c.args.self.now c.self.inside.stream c.self.inside.stage rules ended bytes c.self.view_is stands) is (c.min.ensures ∙ ap (λ (n : ℕ). min n 4294967295) c.held.ensures)

pub returns-clause-rows : goal.returns-clause-rows
returns-clause-rows c = λ rules ended bytes out stands is. held_rows_are c.one_answer.ensures rules ended bytes out c.args.self.now stands is
