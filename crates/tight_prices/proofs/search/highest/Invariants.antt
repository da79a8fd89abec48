use Rattle.route_pricing.specs.Tables.{IsRoom}
use Rattle.tight_prices.specs.Probes.{ground_of}
use Rattle.tight_prices.specs.Places.{IsOnShore, Rises}
use Rattle.tight_prices.specs.Searches.{IsSearch}
use Rattle.tight_prices.specs.Tight.{AreKept}
use Rattle.tight_prices.proofs.search.highest.Given as goal

abbrev pub invariant-loop-search : goal.invariant-loop-search
invariant-loop-search l = record {
  room : IsRoom l.setting.inst.now l.table;
  search : IsSearch (ground_of l.setting) l.place l.table l.search;
  kept : AreKept (IsOnShore l.place) l.fn.start.set l.search.set;
  rises : Rises l.setting.inst.now l.setting.pool.now l.setting.branch.now l.fn.start.set l.search.set;
}

abbrev pub decreases-loop-search : goal.decreases-loop-search
decreases-loop-search l = l.search.most
