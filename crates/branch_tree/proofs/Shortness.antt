-- A short best plan stays short.
use Rattle.std.proofs.Common.{sym, subst, inl, inr, Result, Ok, Err}
use Rattle.carp_base.specs.declared.fail.Memory.{Memory}
use Rattle.carp_base.specs.Problem.{Problem}
use Rattle.branch_rules.specs.declared.node.Node.{Node}
use Rattle.branch_rules.specs.declared.node.Node.TheVariants as nodes
use Rattle.task_tours.specs.Shorts.{IsShortPlan}
use Rattle.branch_tree.specs.Leaves.{IsTurn}
use Rattle.branch_tree.specs.Searches.{State, state_of}
use Rattle.branch_tree.specs.Steps.{IsClosedBy, IsStep}
use Rattle.branch_tree.specs.declared.search.Search.{Search}
use Rattle.branch_tree.specs.declared.search.Turn.{Turn}
use Rattle.branch_tree.specs.declared.search.Turn.TheVariants.{Done, Closed, Split}

step_keeps : (p : Problem) (before after : State) (turn : Turn) → IsStep p before after turn → IsShortPlan p before.plan → IsShortPlan p after.plan
step_keeps p before after Done step short = subst (IsShortPlan p) (sym step.does.1.plan) short
step_keeps p before after Split step short = subst (IsShortPlan p) (sym step.does.plan) short
step_keeps p before after Closed step short = by step.does.leaf.node step.does.by where
  by : (node : Node) → IsClosedBy p before after step.does.branch step.does.old step.does.leaf node → IsShortPlan p after.plan
  by (nodes.Pair a b) closed = absurd closed
  by (nodes.Cut shore k) closed = absurd closed
  by (nodes.Price set) closed = subst (IsShortPlan p) (sym closed.4) short
  by nodes.Void closed = subst (IsShortPlan p) (sym closed.2) short
  by nodes.Fixed (fixed, sets, inl same) = subst (IsShortPlan p) (sym same) short
  by nodes.Fixed (fixed, sets, inr other) = other.0

pub turn_keeps : (p : Problem) (before after : Search) (answer : Result Turn Memory) → IsTurn p before after answer → IsShortPlan p before.best → IsShortPlan p after.best
turn_keeps p before after (Ok turn) is short = step_keeps p (state_of before) (state_of after) turn is.step short
turn_keeps p before after (Err fail) is short = subst (IsShortPlan p) (sym is.err.plan) short
