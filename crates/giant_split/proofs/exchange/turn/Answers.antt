use Rattle.std.proofs.Common.{refl}
use Rattle.giant_split.proofs.Exchanging.{turned_edges}
use Rattle.giant_split.proofs.exchange.turn.Goals as goal

pub returns : goal.returns
returns c = turned_edges c.args.order.now c.args.at _ c.requires refl
