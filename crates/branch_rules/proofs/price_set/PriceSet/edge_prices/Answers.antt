use Rattle.std.proofs.Common.{◌≤◌, ◌≤ℤ◌, pos, get_or}
use Rattle.carp_base.specs.Problem.{no_edge}
use Rattle.branch_rules.specs.Prices.{deadhead_price}
use Rattle.branch_rules.proofs.EdgeCosts.{cost_in}
use Rattle.branch_rules.proofs.Places.{one_more}
use Rattle.branch_rules.proofs.Priced.{all_more, made_more, none_below}
use Rattle.branch_rules.proofs.price_set.PriceSet.edge_prices.Goals as goal

pub edge_price-requires-clause-cost : goal.edge_price-requires-clause-cost
edge_price-requires-clause-cost c = cost_in c.args.inst.now c.edges-edges.result.now c.loop-edge.edge-index c.edges-edges.ensures.valid c.edges-edges.ensures.value c.loop-edge-test.true

pub loop-edge-preserved : goal.loop-edge-preserved
loop-edge-preserved c =
    let edges = c.edges-edges.result.now in
    let i = c.loop-edge.edge-index in
    let so_far = c.loop-edge.invariant in
    let pushed = c.in_ok-push-in-Ok.ensures.items in
    let price_of = deadhead_price c.args.pool.now c.args.self.now in
    record {
      made = made_more price_of edges i no_edge _ _ c.in-Ok.price c.loop-edge-test.true pushed so_far.made c.in-Ok.ensures.value;
      small = all_more (λ n. n ≤ 4000000000000000000) _ _ c.in-Ok.price pushed so_far.small c.in-Ok.ensures.small;
      none = one_more (λ k. pos 0 ≤ℤ price_of (get_or edges k no_edge)) i so_far.none (none_below _ _ c.in-Ok.ensures.value);
    }
