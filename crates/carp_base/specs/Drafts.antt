-- A description, a draft and a table of pairs, as the code sees them. No public contract speaks of this.
use Rattle.std.specs.Prelude.{ℕ, ◌+◌, ◌-◌, ◌*◌}
use Rattle.carp_base.specs.declared.description.Description.{Description}
use Rattle.carp_base.specs.declared.draft.Draft.{Draft}
use Rattle.carp_base.specs.Problem.{Problem, described}

-- the instance that is described
abbrev pub stated : Description → Problem
stated d = described d.vertices d.depot d.capacity d.required.now d.others.now

-- the instance that a draft stands for
abbrev pub drafted : Draft → Problem
drafted d = record { vertices = d.vertices; depot = d.depot; capacity = d.capacity; required = d.required; edges = d.edges.items }

-- the place of a pair's entry in a table of so many rows
abbrev pub entry_place : ℕ → ℕ → ℕ → ℕ
entry_place size a b = (a - 1) * size + (b - 1)
