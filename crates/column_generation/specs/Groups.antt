-- Groups that are offered. No public contract speaks of this.
use Rattle.std.specs.Prelude.{ℕ, ◌≤◌, List, length}
use Rattle.std.specs.List.{All}
use Rattle.carp_base.specs.Problem.{Problem}
use Rattle.branch_rules.specs.Bonds.{GroupWeight, IsGroup}
use Rattle.branch_rules.specs.Limits.{IsFineGroup}

-- so many groups have a weight at most
abbrev pub most_groups : ℕ
most_groups = 500

-- so many edges a group has at most
abbrev pub most_edges : ℕ
most_edges = 120

-- weights on at most 500 groups of required edges, of at most 120 edges each
pub record AreOffered (p : Problem) (groups : List GroupWeight) : Type 0 where
  pub few : length groups ≤ most_groups
  pub small : All (λ w. length w.edges ≤ most_edges) groups
  pub fine : All IsFineGroup groups
  pub required : All (λ w. IsGroup p w.edges) groups
