-- After the potentials are changed the path to the end is tight.
use Rattle.std.proofs.Common.{◌≡◌, ℕ, ◌/◌, ℤ, List, Option, None, Some, IfSome, refl, ap, ◌∙◌, arith}
use Rattle.std.proofs.lemmas.Int.{ints}
use Rattle.bound_graph.specs.Reverses.{is_back}
use Rattle.flow_core.specs.Layout.{nodes_of}
use Rattle.flow_core.specs.State.{NetworkState, IsNetwork}
use Rattle.path_flow.specs.declared.search.Task.{Task}
use Rattle.path_flow.specs.declared.search.Label.{Label}
use Rattle.path_flow.specs.Flow.{IsTightPath}
use Rattle.path_flow.specs.Search.{AreSmall, IsShifted, IsTree, label_at}
use Rattle.path_flow.specs.Steps.{ChangesPotentials, HasNoNegatives}
use Rattle.path_flow.proofs.Shifting.{lengths_not_negative, shifted_tight}
use Rattle.path_flow.proofs.Trees.{distance_small, reached_at, same_label}

pub tight_path : (net new : NetworkState) (task : Task) (labels : List (Option Label)) (end : ℕ) (far : ℤ) → IsNetwork net → HasNoNegatives net → IsTree net task labels → ChangesPotentials net new
    → IsShifted task.direction labels far (nodes_of net.network) net.potentials new.potentials → (label : Label) → label_at labels end ≡ Some label → label.distance ≡ far → IsTightPath new task labels end
tight_path net new task labels end far is all tree changes shifted label at_end far_is x here last inner at_x is_last near =
    let reached = reached_at net task labels x here tree inner at_x in
    let long = lengths_not_negative net task.direction (here.number / 2) (is_back here.number) all reached.step in
    let same = ap (λ (l : Label). l.distance) (same_label (label_at labels end) last label is_last at_end) in
    shifted_tight net new task.direction labels far (here.number / 2) (is_back here.number) reached.before here is.layout reached.step.below changes.network shifted
    reached.from (ap (label_at labels) reached.head ∙ at_x) reached.distance long (omega (arith, ints, near, same, far_is))

small_if : (option : Option Label) (P : Label → Type 0) → ((label : Label) → option ≡ Some label → P label) → IfSome option P
small_if None P each = tt
small_if (Some label) P each = each label refl

pub all_small : (net : NetworkState) (task : Task) (labels : List (Option Label)) → IsNetwork net → HasNoNegatives net → IsTree net task labels → AreSmall labels
all_small net task labels is all tree node = small_if (label_at labels node) _ (λ label there. distance_small net task labels node label is all tree there)
