use Rattle.std.proofs.Common.{sym, subst}
use Rattle.std.specs.List.Sorted.{IsPermutation}
use Rattle.std.proofs.lemmas.List.Sorted.{IsPermutation-map}
use Rattle.carp_base.specs.declared.edge.Task.{Task}
use Rattle.giant_split.specs.Exchanges.{task_edges}
use Rattle.giant_split.proofs.exchange.Exchange.apply.Goals as goal

pub returns : goal.returns
returns c = record {
  edges = subst (IsPermutation (task_edges c.args.order.now)) (sym c.turn.ensures) (IsPermutation-map (λ (t : Task). t.edge) c.args.order.now c.swap.new.self c.swap.ensures.permutation);
}
