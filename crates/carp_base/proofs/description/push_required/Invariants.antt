use Rattle.std.proofs.Common.{◌≡◌, ◌++◌, map, take}
use Rattle.carp_base.specs.Problem.{required_edge}
use Rattle.carp_base.proofs.description.push_required.Given as goal

-- the edges so far are added
abbrev pub invariant-loop-x : goal.invariant-loop-x
invariant-loop-x l = l.edges.items ≡ l.initial.edges.items ++ map required_edge (take l.x-index l.required)
