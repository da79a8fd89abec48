use Rattle.std.proofs.Common.{reverse}
use Rattle.fleet_pack.proofs.Stepping.{closed_state}
use Rattle.fleet_pack.proofs.search.Search.close.Goals as goal

pub returns-clause-search : goal.returns-clause-search
returns-clause-search c p leaf done = record {
  best = leaf.at_hand.best;
  state = closed_state p c.args.self.now.best.count c.args.self.now.nodes.items c.push.new.self.items c.args.self.now.path.items c.turn_back.new.path.items leaf.share (reverse c.args.self.now.shares.items) c.args.node
      c.in_ok-push.ensures.items leaf.at_hand.state c.requires done c.in_ok-turn_back.ensures;
}
