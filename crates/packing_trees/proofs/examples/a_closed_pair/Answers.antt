use Rattle.std.proofs.Common.{arith, inl, inr, refl}
use Rattle.packing_trees.proofs.examples.a_closed_pair.Goals as goal

pub returns-clause-apart : goal.returns-clause-apart
returns-clause-apart c = inr (inl (record { c = 1; d = 2; apart = (0, omega arith, refl); between = inl (refl, refl) }))

pub returns-clause-by_bundle : goal.returns-clause-by_bundle
returns-clause-by_bundle c = record { c = 1; d = 3; apart = (1, omega arith, refl); between = inl (refl, refl) }
