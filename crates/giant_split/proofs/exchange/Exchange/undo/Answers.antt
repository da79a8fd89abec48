use Rattle.std.proofs.Common.{subst}
use Rattle.std.specs.List.Sorted.{IsPermutation}
use Rattle.std.proofs.lemmas.List.Sorted.{IsPermutation-map}
use Rattle.carp_base.specs.declared.edge.Task.{Task}
use Rattle.giant_split.specs.Exchanges.{task_edges}
use Rattle.giant_split.proofs.exchange.Exchange.undo.Goals as goal

pub returns : goal.returns
returns c = record {
  edges = subst (λ es. IsPermutation es (task_edges c.swap.new.self)) c.turn.ensures (IsPermutation-map (λ (t : Task). t.edge) c.turn.new.order c.swap.new.self c.swap.ensures.permutation);
}
