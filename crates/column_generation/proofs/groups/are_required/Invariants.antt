use Rattle.std.proofs.Common.{All, take}
use Rattle.carp_base.specs.Problem.{IsRequired}
use Rattle.column_generation.proofs.groups.are_required.Given as goal

abbrev pub invariant-loop-e : goal.invariant-loop-e
invariant-loop-e l = All (IsRequired l.inst) (take l.e-index l.edges)
