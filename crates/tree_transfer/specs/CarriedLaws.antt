-- What a carried tree shows.
use Rattle.std.specs.Prelude.{ℕ, List, []}
use Rattle.carp_base.specs.Problem.{Problem, IsValid}
use Rattle.branch_rules.specs.Prices.{Prices}
use Rattle.branch_rules.specs.Trees.{Tree, Support, PairsIn, IsLean, Shows}
use Rattle.tree_transfer.specs.Raised.{IsRaised}
use Rattle.tree_transfer.specs.Carried.{IsCarried, WouldShow}

-- a lean tree of pairs of required edges that shows the bound
pub record IsShowing (c : Support) (bound : ℕ) (tree : Tree) : Type 0 where
  pub pairs : PairsIn c.problem tree
  pub lean : IsLean c [] 4 tree
  pub shows : Shows c [] bound tree

-- a lean tree of pairs of required edges that shows the bound, if fixed branches have values
pub record WouldBeShowing (c : Support) (bound : ℕ) (tree : Tree) : Type 0 where
  pub pairs : PairsIn c.problem tree
  pub lean : IsLean c [] 4 tree
  pub shows : WouldShow c [] bound tree

-- if numbers rise, a carried tree shows what the tree showed
abbrev pub CarriedTreesShow : Type 0
CarriedTreesShow = (old new : Problem) (pool : List (List ℕ)) (sets : List Prices) (bound : ℕ) (tree carried : Tree) → IsValid old → IsValid new → IsRaised old new →
    IsShowing (record { problem = old; pool = pool; sets = sets }) bound tree → IsCarried new pool [] tree carried →
    WouldBeShowing (record { problem = new; pool = pool; sets = sets }) bound carried
