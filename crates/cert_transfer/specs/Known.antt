-- The laws that a carried certificate stands on, for the proofs of private functions. No public contract speaks of this.
use Rattle.branch_rules.specs.Laws.{TreeBounds}
use Rattle.tree_transfer.specs.CarriedLaws.{CarriedTreesShow}
use Rattle.cert_format.specs.Good.{CountsAreInRange, PlansAreOnEdges}
use Rattle.cert_lines.specs.Laws.{FineIsSpellable, SpellableIsFine}
use Rattle.tree_transfer.specs.Laws.{DeadheadsStayLight, EditsRaise}
use Rattle.task_tours.specs.ShortLaws.{ShortPlansCostLittle}
use Rattle.task_tours.specs.Laws.{LawfulPlansHaveLawfulTours}

pub record Known : Type 0 where
  pub raise : EditsRaise
  pub light : DeadheadsStayLight
  pub trees : CarriedTreesShow
  pub tours : LawfulPlansHaveLawfulTours
  pub edges : PlansAreOnEdges
  pub costs : ShortPlansCostLittle
  pub bounds : TreeBounds
  pub spelled : FineIsSpellable
  pub fine : SpellableIsFine
  pub counts : CountsAreInRange
