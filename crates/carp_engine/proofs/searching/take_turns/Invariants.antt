use Rattle.std.proofs.Common.{◌≡◌, ◌≤◌, ◌-◌}
use Rattle.task_tours.specs.Shorts.{IsShortPlan}
use Rattle.branch_tree.specs.Counts.{IsLight}
use Rattle.branch_tree.specs.Searches.{IsSearch, state_of}
use Rattle.carp_engine.proofs.searching.take_turns.Given as goal

abbrev pub invariant-loop-search : goal.invariant-loop-search
invariant-loop-search g l = IsSearch l.inst l.search × (l.search.turns ≡ l.turns) × (l.search.cost ≤ l.fn.search.cost) × (l.search.least ≡ l.fn.search.least) × (IsShortPlan l.inst l.fn.search.best → IsShortPlan l.inst l.search.best) × (IsLight (state_of l.fn.search) → IsLight (state_of l.search))

abbrev pub decreases-loop-search : goal.decreases-loop-search
decreases-loop-search g l = l.turns - l.search.done
