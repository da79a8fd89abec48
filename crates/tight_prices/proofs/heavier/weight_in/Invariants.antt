use Rattle.std.proofs.Common.{◌≡◌, drop}
use Rattle.tight_prices.specs.Tight.{weight_on}
use Rattle.tight_prices.proofs.heavier.weight_in.Given as goal

abbrev pub invariant-loop-i : goal.invariant-loop-i
invariant-loop-i l = weight_on (drop l.i l.set.weights) l.shore ≡ weight_on l.set.weights l.shore
