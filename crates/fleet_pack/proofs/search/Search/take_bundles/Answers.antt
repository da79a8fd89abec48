use Rattle.std.proofs.Common.{◌≡◌, ap, ◌≤◌, reverse, ◌∷◌, arith}
use Rattle.packing_trees.specs.Bundles.{bundle_count}
use Rattle.fleet_pack.proofs.State.{falls}
use Rattle.fleet_pack.proofs.search.Search.take_bundles.Goals as goal

pub returns-in_ok-self-clause-at_hand : goal.returns-in_ok-self-clause-at_hand
returns-in_ok-self-clause-at_hand c =
    let same : bundle_count c.args.inst.now c.deref.result.now ≡ bundle_count c.args.inst.now c.args.self.now.path.items = ap (bundle_count c.args.inst.now) c.deref.ensures.value in
    let fewer : c.in_ok-self.field-0.count ≤ c.args.self.now.best.count =
    omega (arith, same, c.in_ok-self.ensures.count, c.bundle_count.ensures c.args.self.now.path.items c.requires.bundles, c.if-bundle_count-self.true) in record {
      share = c.requires.at_hand.share;
      at_hand = record {
        best = c.in_ok-self.ensures.grouping;
        state = falls c.args.inst.now c.args.self.now.best.count c.in_ok-self.field-0.count c.args.self.now.nodes.items c.args.self.now.path.items (c.requires.at_hand.share ∷ reverse c.args.self.now.shares.items) fewer c.requires.at_hand.at_hand.state;
      };
    }
