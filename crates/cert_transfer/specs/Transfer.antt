-- A certificate that is carried over to an edited instance.
use Rattle.std.specs.Prelude.{◌≡◌, ℕ, ◌≤◌, [], Some}
use Rattle.carp_base.specs.Problem.{Problem}
use Rattle.task_tours.specs.Tours.{PlanGoesByLeastPaths, plan_tours}
use Rattle.cert_transfer.specs.Cutting.{cut_tours}
use Rattle.branch_rules.specs.Trees.{Tree, preorder, Shows}
use Rattle.tree_transfer.specs.Shown.{AreCarried}
use Rattle.cert_lines.specs.Certificates.{Certificate}
use Rattle.cert_lines.specs.Spelling.{IsSpellable}
use Rattle.cert_format.specs.Good.{IsGood, counts_in, support_of}

-- The certificate can be spelled, is good for the instance, and has its numbers. Its shores and price sets are the old ones, and its tree is the
-- old one carried over. Its bound is no lower than the old one, and is the greatest, up to the cost, that its tree shows. Its tours are the old
-- ones, cut if a vehicle would be too full, and joined by least paths.
pub record IsCarriedOver (p : Problem) (old new : Certificate) : Type 0 where
  pub spellable : IsSpellable new
  pub good : IsGood p new
  pub counts : new.counts ≡ Some (counts_in p)
  pub shores : new.shores ≡ old.shores
  pub sets : new.sets ≡ old.sets
  pub nodes : AreCarried p old.shores old.nodes new.nodes
  pub no_lower : old.bound ≤ new.bound
  pub at_most : new.bound ≤ new.cost
  pub greatest : (tree : Tree) (b : ℕ) → preorder tree ≡ new.nodes → b ≤ new.cost → Shows (support_of p new) [] b tree → b ≤ new.bound
  pub tours : plan_tours new.plan ≡ cut_tours p (plan_tours old.plan)
  pub paths : PlanGoesByLeastPaths p new.plan
