use Rattle.std.proofs.Common.{arith}
use Rattle.route_pricing.proofs.Succeeding.{pair_within, may_is}
use Rattle.route_pricing.proofs.grid.Grid.may_precede.Goals as goal

pub index-requires : goal.index-requires
index-requires c = omega (arith, c.requires.grid.may_long, pair_within c.args.self.now c.requires.grid c.args.next.now c.requires.next c.args.before c.requires.before)

pub returns : goal.returns
returns c = may_is c.args.self.now c.requires.grid c.args.next.now c.requires.next c.args.before c.requires.before c.index.result.now c.index.ensures
