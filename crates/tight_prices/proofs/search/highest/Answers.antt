use Rattle.std.proofs.Common.{refl}
use Rattle.tight_prices.specs.Places.{IsOnShore}
use Rattle.tight_prices.proofs.Keeping.{kept_on}
use Rattle.tight_prices.proofs.Rising.{rises_none, rises_on}
use Rattle.tight_prices.proofs.search.highest.Goals as goal

pub loop-search-init : goal.loop-search-init
loop-search-init c = record {
  room = c.requires.room;
  search = c.requires.start;
  kept = λ shore other. refl;
  rises = rises_none c.args.setting.now.inst.now c.args.setting.now.pool.now c.args.setting.now.branch.now c.args.start.set;
}

pub loop-search-preserved : goal.loop-search-preserved
loop-search-preserved c = record {
  room = c.step.ensures.room;
  search = c.in_ok-search.ensures.search;
  kept = kept_on (IsOnShore c.args.place) c.args.start.set c.loop-search.search.set c.in_ok-search.search.set c.loop-search.invariant.kept c.in_ok-search.ensures.kept;
  rises = rises_on c.loop-search.invariant.rises c.in_ok-search.ensures.rises;
}
