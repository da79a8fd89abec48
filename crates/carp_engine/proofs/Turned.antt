-- A turn after which a plan was offered.
use Rattle.std.proofs.Common.{ℕ, ◌≡◌, ◌<◌, ◌≤◌, ◌⊎◌, Bool, true, false, sym, subst, arith, inl, inr}
use Rattle.carp_base.specs.Problem.{Problem}
use Rattle.branch_rules.specs.declared.node.Node.TheVariants.{Void}
use Rattle.grown_trees.specs.Growth.{IsLeastOpen}
use Rattle.grown_trees.specs.declared.growing.GrowingNode.{GrowingNode}
use Rattle.branch_tree.specs.Searches.{State}
use Rattle.branch_tree.specs.Steps.{AreClosed, HasTaken, IsOffered, IsStep}
use Rattle.branch_tree.specs.declared.search.Turn.{Turn}
use Rattle.branch_tree.specs.declared.search.Turn.TheVariants.{Closed, Split}
use Rattle.carp_engine.specs.Turns.{HasTurned}

no_entry : GrowingNode
no_entry = record { node = Void; shows = 0 }

-- where a leaf was open, the turns rose
risen : (before middle after : State) (place : ℕ) → IsLeastOpen before.cost before.nodes place → AreClosed before ⊎ (before.done < middle.done) → middle.done ≤ after.done → before.done < after.done
risen before middle after place least (inl closed) no_fewer = absurd (omega (arith, closed place no_entry least.inside, least.not_shown no_entry))
risen before middle after place least (inr more) no_fewer = omega (arith, more, no_fewer)

dearer_never : (p : Problem) (middle after : State) (taken : Bool) → HasTaken p middle after taken → after.cost ≤ middle.cost
dearer_never p middle after true is = omega (arith, is.1)
dearer_never p middle after false is = omega (arith, is.1)

module _ (p : Problem) (before middle after : State) (taken : Bool) (offered : IsOffered p middle after taken) where
  closed : IsStep p before middle Closed → HasTurned before after Closed
  closed step = risen before middle after step.does.taken.place step.does.taken.least step.more_done offered.no_fewer

  split : IsStep p before middle Split → HasTurned before after Split
  split step = risen before middle after step.does.taken.place step.does.taken.least step.more_done offered.no_fewer

  pub turned : (turn : Turn) → (turn ≡ Closed) ⊎ (turn ≡ Split) → IsStep p before middle turn → HasTurned before after turn
  turned turn (inl is) step = subst (λ (t : Turn). HasTurned before after t) (sym is) (closed (subst (λ (t : Turn). IsStep p before middle t) is step))
  turned turn (inr is) step = subst (λ (t : Turn). HasTurned before after t) (sym is) (split (subst (λ (t : Turn). IsStep p before middle t) is step))

  by_closed : IsStep p before middle Closed → after.cost ≤ before.cost
  by_closed step = omega (arith, step.does.no_dearer, dearer_never p middle after taken offered.plan)

  by_split : IsStep p before middle Split → after.cost ≤ before.cost
  by_split step = omega (arith, step.does.cost, dearer_never p middle after taken offered.plan)

  pub no_dearer : (turn : Turn) → (turn ≡ Closed) ⊎ (turn ≡ Split) → IsStep p before middle turn → after.cost ≤ before.cost
  no_dearer turn (inl is) step = by_closed (subst (λ (t : Turn). IsStep p before middle t) is step)
  no_dearer turn (inr is) step = by_split (subst (λ (t : Turn). IsStep p before middle t) is step)
