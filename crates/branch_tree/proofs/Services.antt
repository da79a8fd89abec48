-- A value that reaches the Shell floor reaches the service costs.
use Rattle.std.proofs.Common.{ℕ, ◌+◌, ◌*◌, ◌≤◌, pos, ◌≤ℤ◌, List, arith}
use Rattle.std.proofs.Math.Nat.{mul-le-mul_left}
use Rattle.std.proofs.lemmas.Int.{ints}
use Rattle.carp_base.specs.Problem.{Problem, IsValid, required_cost}
use Rattle.branch_rules.specs.Prices.{Prices}
use Rattle.capacity_cuts.specs.Levels.{needs_below}
use Rattle.dual_master.specs.Floors.{ReachesShell, plain_value}
use Rattle.dual_master.specs.Laws.{LevelSetsAreThere}

pub services_reached : LevelSetsAreThere → (p : Problem) → IsValid p → (pool : List (List ℕ)) (set : Prices) → ReachesShell p pool set → pos (set.unit * required_cost p) ≤ℤ plain_value p pool set
services_reached there p valid pool set reaches = by 1000000000 (omega arith) where
  by : (k : ℕ) → 1000000000 ≤ k → pos (set.unit * required_cost p) ≤ℤ plain_value p pool set
  by k far =
      let levels = there p valid in
      let reached = reaches levels.0 k levels.1 far in
      let less : set.unit * required_cost p ≤ set.unit * (required_cost p + needs_below p levels.0 k) = mul-le-mul_left set.unit (omega arith) in
      omega (arith, ints, reached, less)
