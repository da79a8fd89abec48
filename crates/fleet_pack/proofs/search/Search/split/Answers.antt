use Rattle.std.proofs.Common.{subst}
use Rattle.fleet_pack.specs.States.{IsShare}
use Rattle.fleet_pack.proofs.Stepping.{split_state}
use Rattle.fleet_pack.proofs.search.Search.split.Goals as goal

pub returns-clause-search : goal.returns-clause-search
returns-clause-search c = record {
  best = c.requires.at_hand.best;
  state = split_state c.args.inst.now c.args.self.now.best.count c.args.self.now.nodes.items c.push.new.self.items c.args.self.now.path.items c.put_together.new.path.items c.args.share c.in_ok-together.together
      c.args.self.now.shares.items c.push-2.new.self.items c.push-3.new.self.items c.args.a c.args.b c.requires.at_hand.state c.requires.pair c.requires.stays
      c.in_ok-push.ensures.items c.in_ok-put_together.ensures (subst (λ xs. IsShare c.args.inst.now xs c.in_ok-together.together) c.deref.ensures.value c.in_ok-together.ensures)
      c.in_ok-push-2.ensures.items c.in_ok-push-3.ensures.items;
}
