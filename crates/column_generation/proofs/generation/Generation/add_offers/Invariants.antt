use Rattle.std.proofs.Common.{◌≡◌}
use Rattle.column_generation.proofs.generation.Generation.add_offers.Given as goal

abbrev pub invariant-loop-offer : goal.invariant-loop-offer
invariant-loop-offer l = l.self.best ≡ l.initial.self.best
