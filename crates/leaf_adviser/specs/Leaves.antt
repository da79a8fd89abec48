-- What is asked for, and with what.
use Rattle.std.specs.Prelude.{◌≡◌, ℕ, List}
use Rattle.std.specs.List.{All}
use Rattle.carp_base.specs.Problem.{Problem, IsValid}
use Rattle.cut_pool.specs.Shores.{Belongs}
use Rattle.decision_chains.specs.Pairs.{ArePairsIn}
use Rattle.route_pricing.specs.Tables.{IsRoom}
use Rattle.route_pricing.specs.declared.table.Table.{Table}
use Rattle.leaf_adviser.specs.declared.leaf.Leaf.{Leaf}

-- the instance is valid, the network is of it, and so are the pairs of the branch
pub record IsLeaf (leaf : Leaf) : Type 0 where
  pub valid : IsValid leaf.inst.now
  pub net : leaf.net.now ≡ leaf.inst.now
  pub pairs : ArePairsIn leaf.inst.now leaf.branch.now

-- the table was made for the instance, and all shores of the pool belong to it
pub record AreOf (p : Problem) (table : Table) (pool : List (List ℕ)) : Type 0 where
  pub room : IsRoom p table
  pub belong : All (Belongs p) pool
