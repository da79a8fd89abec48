use Rattle.std.proofs.Common.{arith}
use Rattle.fleet_pack.proofs.Ranking.{name_within}
use Rattle.fleet_pack.proofs.pairs.heavier.Goals as goal

pub weight_of-first-requires-clause-weight : goal.weight_of-first-requires-clause-weight
weight_of-first-requires-clause-weight c =
    let are = c.requires.bundles in
    omega (
      arith,
      are.label_each,
      are.weight_each,
      name_within c.args.inst.now c.args.branch.now c.args.bundles.now.labels.items c.args.bundles.now.weights.items are c.args.a c.requires.pair.0
          (omega (arith, are.label_each, c.requires.pair.1, c.requires.pair.2)),
    )

pub weight_of-requires-clause-weight : goal.weight_of-requires-clause-weight
weight_of-requires-clause-weight c =
    let are = c.requires.bundles in
    omega (
      arith,
      are.label_each,
      are.weight_each,
      name_within c.args.inst.now c.args.branch.now c.args.bundles.now.labels.items c.args.bundles.now.weights.items are c.args.b
          (omega (arith, c.requires.pair.0, c.requires.pair.1)) (omega (arith, are.label_each, c.requires.pair.2)),
    )
