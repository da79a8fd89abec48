-- What a certificate that was made of another one shows.
use Rattle.std.specs.Prelude.{◌≡◌, ◌⊎◌, ℕ, ◌+◌, ◌≤◌, min, List, [], Some}
use Rattle.carp_base.specs.Problem.{Problem}
use Rattle.plan_model.specs.Laws.{IsLowerBound}
use Rattle.branch_rules.specs.Trees.{Tree, preorder, HasTurns, Shows, Support}
use Rattle.branch_rules.specs.declared.node.Node.{Node}
use Rattle.cert_lines.specs.Certificates.{Certificate}
use Rattle.cert_lines.specs.Spelling.{IsSpellable}
use Rattle.cert_format.specs.Good.{IsGood, counts_in, support_of}
use Rattle.task_tours.specs.Shorts.{IsShortPlan}

-- the nodes are those of a tree that has so many turns for a cost
pub record HaveTurns (c : Support) (nodes : List Node) (cost turns : ℕ) : Type 0 where
  pub tree : Tree
  pub in_preorder : preorder tree ≡ nodes
  pub turns_are : HasTurns c [] cost tree turns

-- A good certificate that can be spelled, with the numbers of the instance. Its plan is short and costs no more than that of the old one.
-- Its bound is no lower than the old one's, and is the greatest up to the cost that the tree shows; the turns are those of the tree. If the
-- bound is below the cost, they are at least those of the old tree for the old cost and so many more as were asked for, or 1,048,576.
pub record IsImproved (p : Problem) (old new : Certificate) (asked turns : ℕ) : Type 0 where
  pub good : IsGood p new
  pub bounds : IsLowerBound p new.bound
  pub spellable : IsSpellable new
  pub counts : new.counts ≡ Some (counts_in p)
  pub plan : IsShortPlan p new.plan
  pub no_dearer : new.cost ≤ old.cost
  pub no_lower : old.bound ≤ new.bound
  pub not_above : new.bound ≤ new.cost
  pub greatest : (bound : ℕ) → bound ≤ new.cost → Shows (support_of p new) [] bound good.tree → bound ≤ new.bound
  pub turns_are : HasTurns (support_of p new) [] new.cost good.tree turns
  pub before : ℕ
  pub had : HaveTurns (support_of p old) old.nodes old.cost before
  pub went_on : (new.bound ≡ new.cost) ⊎ (min (before + asked) 1048576 ≤ turns)
