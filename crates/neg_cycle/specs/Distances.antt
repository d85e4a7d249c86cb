-- To be believed: distances of nodes, and which are the greatest and the least that respect arcs.
use Rattle.std.specs.Prelude.{◌≡◌, ℕ, ◌<◌, ℤ, ◌≤ℤ◌, List, length, Option}
use Rattle.bound_graph.specs.declared.arc.Arc.{Arc}
use Rattle.bound_graph.specs.Values.{value_of, RespectsArcs}

-- what a room holds: a distance for each node, and the numbers of the arcs of a cycle, if one was found
pub record Found : Type 0 where
  pub distances : List ℤ
  pub cycle : List ℕ

-- node by node, the first list is at most the second
pub record AreAtMost (lows highs : List ℤ) : Type 0 where
  pub nodes : length lows ≡ length highs
  pub each : (node : ℕ) → node < length highs → value_of lows node ≤ℤ value_of highs node

-- Of all lists that are at most the starts and respect the arcs, it is the greatest at every node.
pub record IsGreatest (arcs : List (Option Arc)) (starts distances : List ℤ) : Type 0 where
  pub below : AreAtMost distances starts
  pub respects : RespectsArcs distances arcs
  pub greatest : (other : List ℤ) → AreAtMost other starts → RespectsArcs other arcs → AreAtMost other distances

-- Of all lists that are at least the starts and respect the arcs, it is the least at every node.
pub record IsLeast (arcs : List (Option Arc)) (starts distances : List ℤ) : Type 0 where
  pub above : AreAtMost starts distances
  pub respects : RespectsArcs distances arcs
  pub least : (other : List ℤ) → AreAtMost starts other → RespectsArcs other arcs → AreAtMost distances other

-- Only one list is the greatest, and only one the least.
abbrev pub GreatestIsOne : Type 0
GreatestIsOne = (arcs : List (Option Arc)) (starts distances others : List ℤ) → IsGreatest arcs starts distances → IsGreatest arcs starts others → distances ≡ others

abbrev pub LeastIsOne : Type 0
LeastIsOne = (arcs : List (Option Arc)) (starts distances others : List ℤ) → IsLeast arcs starts distances → IsLeast arcs starts others → distances ≡ others
