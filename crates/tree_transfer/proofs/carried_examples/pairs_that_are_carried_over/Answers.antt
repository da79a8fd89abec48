use Rattle.std.proofs.Common.{[], refl, inl, inr}
use Rattle.branch_rules.specs.Trees.{price}
use Rattle.tree_transfer.specs.Carried.{IsCarried}
use Rattle.tree_transfer.specs.CarriedExamples.{paired, star}
use Rattle.tree_transfer.proofs.Small.{free, with_second, with_third}
use Rattle.tree_transfer.proofs.carried_examples.pairs_that_are_carried_over.Goals as goal

pub returns-clause-gone : goal.returns-clause-gone
returns-clause-gone c = inl (with_second, refl)

stays_not : IsCarried (star 3) [] [] paired paired → ⊥
stays_not (inl gone) = cc gone.1
stays_not (inr stays) = stays.0 with_second

pub returns-clause-not_kept : goal.returns-clause-not_kept
returns-clause-not_kept c = stays_not

pub returns-clause-both_gone : goal.returns-clause-both_gone
returns-clause-both_gone c = inl (with_third, inl (with_second, refl))

pub returns-clause-kept : goal.returns-clause-kept
returns-clause-kept c = inr (free c.distinct_edges_sum_to_no_more.ensures, (price 1, price 2, refl, refl, refl))

pub returns-clause-not_gone : goal.returns-clause-not_gone
returns-clause-not_gone c = λ carried. elim carried [ inl gone ↦ free c.distinct_edges_sum_to_no_more.ensures gone.0 | inr stays ↦ cc stays.1.4 ]
