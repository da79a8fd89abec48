use Rattle.column_generation.proofs.Offered.{few_edges}
use Rattle.column_generation.proofs.proposal.offer.Goals as goal

pub with_groups-requires-clause-few_edges : goal.with_groups-requires-clause-few_edges
with_groups-requires-clause-few_edges c = few_edges c.args.inst.now c.in_ok-groups.groups.items c.in_ok-groups.ensures
