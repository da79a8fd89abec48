use Rattle.rand_pcg.specs.Lcg.{started, increment_of}
use Rattle.rand_pcg.specs.Pcg.{multiplier_64}
use Rattle.town_maker.proofs.Soundness.{town_valid}
use Rattle.town_maker.proofs.laws.towns_are_valid.Goals as goal

pub returns : goal.returns
returns c = λ seed. town_valid c.valid_where_no_fault.ensures (started 64 multiplier_64 seed (increment_of 64 1))
