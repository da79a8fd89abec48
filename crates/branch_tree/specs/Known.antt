-- What is known of grown trees, of branches, of price sets and of plans, for the proofs of private functions.
use Rattle.decision_chains.specs.PlanLaws.{FixedValueIsUnique}
use Rattle.dual_master.specs.Growth.{GrowthKeepsSets}
use Rattle.grown_trees.specs.Laws.{DecisionsKeepSets, GrownIsSound, MoreSetsKeepSound, MoreShoresKeepSound, SoundAtPlace, SoundIsTree, UnshownIsLeaf}
use Rattle.task_tours.specs.ShortLaws.{ShortPlansCostLittle}

pub record Known : Type 0 where
  pub grown : GrownIsSound
  pub more_sets : MoreSetsKeepSound
  pub more_shores : MoreShoresKeepSound
  pub tree : SoundIsTree
  pub place : SoundAtPlace
  pub leaf : UnshownIsLeaf
  pub kept : DecisionsKeepSets
  pub growth : GrowthKeepsSets
  pub fixed_once : FixedValueIsUnique
  pub costs : ShortPlansCostLittle
