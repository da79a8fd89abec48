use Rattle.std.proofs.Common.{◌+◌, ◌*◌, ◌/◌, ap}
use Rattle.route_pricing.proofs.PartialTours.{pair_read}
use Rattle.route_pricing.proofs.grid.Grid.may_follow.Goals as goal

pub returns : goal.returns
returns c =
    pair_read c.args.self.now c.requires.grid c.args.before c.args.column (c.args.before / 2 * c.required.result + c.args.column / 2) c.index.result.now c.requires.before c.requires.column
    (ap (λ n. c.args.before / 2 * n + c.args.column / 2) c.required.ensures.value) c.index.ensures
