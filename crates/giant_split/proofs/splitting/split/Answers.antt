use Rattle.std.proofs.Common.{arith}
use Rattle.giant_split.proofs.splitting.split.Goals as goal

pub new-requires : goal.new-requires
new-requires c = omega (arith, c.served_once_are_as_many.ensures c.args.inst.now c.args.order.now c.requires.order, c.validity.ensures.few_required)
