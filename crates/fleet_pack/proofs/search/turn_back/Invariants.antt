use Rattle.std.proofs.Common.{◌≡◌, length}
use Rattle.fleet_pack.specs.States.{aparts_of}
use Rattle.fleet_pack.proofs.search.turn_back.Given as goal

abbrev pub invariant-loop-choice : goal.invariant-loop-choice
invariant-loop-choice l = aparts_of l.path.items ≡ aparts_of l.fn.path.items

abbrev pub decreases-loop-choice : goal.decreases-loop-choice
decreases-loop-choice l = length l.path.items
