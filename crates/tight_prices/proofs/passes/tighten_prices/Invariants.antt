use Rattle.std.proofs.Common.{ℕ, ◌<◌}
use Rattle.carp_base.specs.Problem.{IsRequired}
use Rattle.route_pricing.specs.Tables.{IsRoom}
use Rattle.tight_prices.specs.Fillings.{IsFilledFor}
use Rattle.tight_prices.specs.Probes.{ground_of}
use Rattle.tight_prices.specs.Places.{Rises}
use Rattle.tight_prices.specs.Searches.{HaveSameWeights, IsFitting}
use Rattle.tight_prices.specs.Tight.{IsPriceTight}
use Rattle.tight_prices.proofs.passes.tighten_prices.Given as goal

abbrev pub invariant-loop-e : goal.invariant-loop-e
invariant-loop-e l = record {
  room : IsRoom l.setting.inst.now l.table;
  fitting : IsFitting (ground_of l.setting) l.higher;
  rises : Rises l.setting.inst.now l.setting.pool.now l.setting.branch.now l.fn.set l.higher;
  weights : HaveSameWeights l.fn.set l.higher;
  filled : IsFilledFor l.setting.inst.now l.setting.pool.now l.setting.branch.now l.higher l.table;
  tight : (f : ℕ) → IsRequired l.setting.inst.now f → f < l.e → IsPriceTight l.setting.inst.now l.setting.pool.now l.setting.branch.now l.higher f;
}
