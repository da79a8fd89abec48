use Rattle.std.proofs.Common.{ap, subst}
use Rattle.carp_base.specs.Problem.{edge_at, head_of}
use Rattle.deadhead_paths.specs.Prices.{IsLeastPrice, price_of, costs_of}
use Rattle.path_scanning.proofs.nearest.measure.Goals as goal

pub returns-clause-measured : goal.returns-clause-measured
returns-clause-measured c =
    let p = c.args.inst.now in
    let q = price_of (costs_of p) in
    let t = c.args.task in
    record {
      near = subst (λ v. IsLeastPrice p q c.args.at v c.least_cost.result) c.ends-tail.ensures.tail c.least_cost.ensures.least;
      home = subst (λ v. IsLeastPrice p q (head_of (edge_at p t.edge) t.forward) v c.least_cost-2.result) c.depot-depot.ensures.value
          (subst (λ v. IsLeastPrice p q v c.depot-depot.result c.least_cost-2.result) c.ends-tail.ensures.head c.least_cost-2.ensures.least);
      service = ap (λ y. y.service) c.edge-edge.ensures;
      demand = ap (λ y. y.demand) c.edge-edge.ensures;
    }
