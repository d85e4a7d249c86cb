use Rattle.std.specs.Prelude.{MatchOption, Option, Some, None}
use Rattle.online_repair.proofs.Public.{stands_at}
use Rattle.online_repair.proofs.Windows.{has_window, no_header, no_window}
use Rattle.online_repair.proofs.online.Online.window.Goals as goal

match_option : {A : Type 0} (o : Option A) (P Q : Type 0) (R S : A → Type 0) → (P → Q) → ((x : A) → R x → S x) → MatchOption o P R → MatchOption o Q S
match_option None P Q R S f g is = f is
match_option (Some x) P Q R S f g is = g x is

pub returns-in-Some : goal.returns-in-Some
returns-in-Some c = λ rules ended bytes stands.
    let here = stands_at c.args.self.now c.self.inside.stream c.self.inside.stage rules ended bytes c.self.view_is stands in
    match_option c.window_of.result _ _ _ _ (λ none. no_window c.one_answer.ensures rules ended bytes c.args.col c.self.inside.stream c.in-Some.engine here c.in-Some.is none)
    (λ window is. has_window c.one_answer.ensures rules ended bytes c.args.col c.self.inside.stream c.in-Some.engine window.now here c.in-Some.is is) c.window_of.ensures

pub returns-in-None : goal.returns-in-None
returns-in-None c = λ rules ended bytes stands.
    no_header c.one_answer.ensures rules ended bytes c.args.col c.self.inside.stream (stands_at c.args.self.now c.self.inside.stream c.self.inside.stage rules ended bytes c.self.view_is stands) c.in-None.is
