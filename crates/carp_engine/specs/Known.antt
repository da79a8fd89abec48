-- The laws that certificates and searches stand on, for the proofs of private functions. No public contract speaks of this.
use Rattle.branch_rules.specs.Laws.{LeanIsSmall, TreeBounds}
use Rattle.branch_tree.specs.Resumes.{ResumedTreesHaveTurns}
use Rattle.cert_format.specs.Good.{CountsAreInRange, GoodIsProof, PlansAreOnEdges}
use Rattle.cert_lines.specs.Lengths.{LightTextsAreShort}
use Rattle.cert_lines.specs.Laws.{FineIsSpellable, ShoreIsFine, SpellableIsFine}
use Rattle.decision_chains.specs.PlanLaws.{FixedValueIsUnique}
use Rattle.task_tours.specs.ShortLaws.{ShortPlansAreAllowed, ShortPlansCostLittle}
use Rattle.tree_transfer.specs.NamedLaws.{NamedSetsSuffice}

pub record Known : Type 0 where
  pub trees : TreeBounds
  pub lean : LeanIsSmall
  pub counts : CountsAreInRange
  pub spelled : FineIsSpellable
  pub fine : SpellableIsFine
  pub shores : ShoreIsFine
  pub costs : ShortPlansCostLittle
  pub allowed : ShortPlansAreAllowed
  pub edges : PlansAreOnEdges
  pub proof : GoodIsProof
  pub once : FixedValueIsUnique
  pub named : NamedSetsSuffice
  pub turns : ResumedTreesHaveTurns
  pub texts : LightTextsAreShort
