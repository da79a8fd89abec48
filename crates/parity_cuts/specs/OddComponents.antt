-- Components with an odd number of required edges at their borders.
use Rattle.std.specs.Prelude.{◌≡◌, ℕ, ◌%◌, ◌==◌, Bool, List}
use Rattle.carp_base.specs.Problem.{Problem}
use Rattle.cut_pool.specs.Shores.{is_in, required_crossings, Belongs}
use Rattle.edge_components.specs.Components.{IsComponent}

-- a component, without the depot, of the edges with some parts, which an odd number of required edges cross
pub record IsOddComponent (p : Problem) (x shore : List ℕ) : Type 0 where
  pub component : IsComponent p x 1 shore
  pub belongs : Belongs p shore
  pub odd : required_crossings p (is_in shore) % 2 ≡ 1

-- the same as a test of what lies at a border
abbrev pub is_odd_border : ℕ → ℕ → ℕ → Bool
is_odd_border crossings demand parts = crossings % 2 == 1
