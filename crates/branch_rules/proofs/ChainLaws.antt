-- What is known of yes pairs, chains and different edges.
use Rattle.decision_chains.specs.Laws.{YesPairsJoin, DistinctSumToNoMore}

pub record ChainLaws : Type 0 where
  pub joins : YesPairsJoin
  pub distinct : DistinctSumToNoMore
