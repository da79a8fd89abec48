-- What a search begins with. No public contract speaks of this.
use Rattle.std.specs.Prelude.{◌≡◌, ℕ, ◌+◌, ◌*◌, [], ◌∷◌}
use Rattle.std.specs.List.{All}
use Rattle.carp_base.specs.Problem.{Problem, IsValid}
use Rattle.cut_pool.specs.Shores.{Belongs}
use Rattle.deadhead_paths.specs.Prices.{costs_of}
use Rattle.route_pricing.specs.Tables.{IsRoom}
use Rattle.branch_rules.specs.Limits.{IsPriceSet, IsShoreOf}
use Rattle.branch_rules.specs.declared.node.Node.TheVariants.{Price}
use Rattle.dual_master.specs.Singles.{IsFloorPool}
use Rattle.dual_master.specs.Floors.{FitsAlways, plain_value}
use Rattle.grown_trees.specs.Growth.{Fraction, Growth}
use Rattle.branch_tree.specs.declared.beginning.Floor.{Floor}
use Rattle.branch_tree.specs.declared.beginning.Tools.{Tools}
use Rattle.grown_trees.specs.Values.{IsMostShown}
use Rattle.branch_tree.specs.Values.{ReachesFloors}

-- the network, the distances by cost and the table of an instance
pub record AreTools (p : Problem) (tools : Tools) : Type 0 where
  pub net : tools.net ≡ p
  pub problem : tools.dist.problem ≡ p
  pub costs : tools.dist.prices ≡ costs_of p
  pub table : IsRoom p tools.table

-- the value of a set without decisions, as a fraction
abbrev pub fraction_of : Problem → Floor → Fraction
fraction_of p floor = record { unit = floor.set.unit; value = plain_value p floor.pool floor.set }

-- the best set of the floors, and the pool as they leave it
pub record IsFloor (p : Problem) (floor : Floor) : Type 0 where
  pub valid : IsValid p
  pub fine : IsPriceSet floor.set
  pub fits : FitsAlways p floor.pool floor.set
  pub floors : ReachesFloors p (fraction_of p floor)
  pub shores : All (λ w. IsShoreOf p floor.pool w.shore) floor.set.weights
  pub no_groups : floor.set.groups ≡ []
  pub held : IsFloorPool p floor.pool floor.set
  pub belong : All (Belongs p) floor.pool

-- one leaf that names the first set, with the greatest bound that this set shows, and memory for all nodes that so many turns can make
pub record IsRoot (p : Problem) (turns : ℕ) (floor : Floor) (tree : Growth) : Type 0 where
  pub shows : ℕ
  pub leaf : tree ≡ record { nodes = record { node = Price 1; shows = shows } ∷ []; room = 2 * turns + 1 }
  pub shown : IsMostShown floor.set.unit (plain_value p floor.pool floor.set) shows
