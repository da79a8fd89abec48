-- Components whose need is above the parts over them.
use Rattle.std.specs.Prelude.{ℕ, ◌-◌, ◌*◌, ◌%◌, ◌<◌, max, Bool, nat_lt, List}
use Rattle.carp_base.specs.Problem.{Problem}
use Rattle.cut_pool.specs.Shores.{is_in, need, vehicles, Belongs}
use Rattle.edge_components.specs.Parts.{parts_over}
use Rattle.edge_components.specs.Components.{IsComponent}

-- a component, without the depot, of the edges with at least a unit, and its need times the unit is above the parts over it
pub record IsNeedyComponent (p : Problem) (unit : ℕ) (x shore : List ℕ) : Type 0 where
  pub component : IsComponent p x unit shore
  pub belongs : Belongs p shore
  pub needs : parts_over p x (is_in shore) < need p (is_in shore) * unit

-- the same as a test of what lies at a border
abbrev pub is_needy_border : Problem → ℕ → ℕ → ℕ → ℕ → Bool
is_needy_border p unit crossings demand parts = nat_lt parts (max (crossings % 2) (2 * vehicles p demand - crossings) * unit)
