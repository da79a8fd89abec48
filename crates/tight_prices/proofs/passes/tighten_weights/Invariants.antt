use Rattle.std.proofs.Common.{ℕ, ◌<◌}
use Rattle.route_pricing.specs.Tables.{IsRoom}
use Rattle.tight_prices.specs.Probes.{ground_of}
use Rattle.tight_prices.specs.Places.{Rises}
use Rattle.tight_prices.specs.Searches.{ArePriced, IsKnownSingle, IsShoreTight}
use Rattle.tight_prices.specs.Tight.{AreKept}
use Rattle.tight_prices.proofs.passes.tighten_weights.Given as goal

abbrev pub invariant-loop-shore : goal.invariant-loop-shore
invariant-loop-shore l = record {
  room : IsRoom l.setting.inst.now l.table;
  priced : ArePriced (ground_of l.setting) l.priced;
  rises : Rises l.setting.inst.now l.setting.pool.now l.setting.branch.now l.fn.set l.priced.set;
  kept : AreKept (IsKnownSingle (ground_of l.setting) l.known) l.fn.set l.priced.set;
  tight : (s : ℕ) → s < l.shore → IsShoreTight (ground_of l.setting) l.priced.set s;
}
