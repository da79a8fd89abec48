use Rattle.capacity_cuts.proofs.Packing.{pack_law, weigh_law}
use Rattle.capacity_cuts.proofs.laws.shells_are_duals.Goals as goal

pub returns-clause-pack : goal.returns-clause-pack
returns-clause-pack c = pack_law c.least_prices_are_there.ensures.found

pub returns-clause-weigh : goal.returns-clause-weigh
returns-clause-weigh c = λ p shells level k valid are sets far.
    weigh_law c.equal_sets_have_one_border.ensures c.least_prices_are_there.ensures.few_steps p level valid sets shells k are far
