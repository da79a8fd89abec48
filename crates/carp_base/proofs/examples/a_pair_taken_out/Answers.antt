use Rattle.std.proofs.Common.{inl, refl}
use Rattle.carp_base.proofs.examples.a_pair_taken_out.Goals as goal

pub returns-clause-stays : goal.returns-clause-stays
returns-clause-stays c = λ taken. let out = taken.out 1 2 (inl (refl, refl)) in cc

pub returns-clause-one_order : goal.returns-clause-one_order
returns-clause-one_order c = λ taken. let out = taken.out 1 2 (inl (refl, refl)) in cc
