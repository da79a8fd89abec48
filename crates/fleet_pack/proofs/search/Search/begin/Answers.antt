use Rattle.fleet_pack.proofs.Stepping.{begun}
use Rattle.fleet_pack.proofs.search.Search.begin.Goals as goal

pub returns-clause-search : goal.returns-clause-search
returns-clause-search c = record {
  best = c.requires;
  state = begun c.args.inst.now c.args.best.count c.new.result.items c.new-2.result.items c.new-shares.result.items c.push.new.self.items c.in_ok-share.share c.validity.ensures
      c.new.ensures.items c.new-2.ensures.items c.new-shares.ensures.items c.in_ok-push.ensures.items c.in_ok-share.ensures;
}
