use Rattle.std.proofs.Common.{◌≡◌, ℕ, ◌<◌, ◌≤◌, take, map, pos, ◌≤ℤ◌, nat_abs}
use Rattle.carp_base.specs.Problem.{no_edge}
use Rattle.std.specs.Prelude.{slice_index_or, All}
use Rattle.branch_rules.specs.Prices.{deadhead_price}
use Rattle.branch_rules.proofs.price_set.PriceSet.edge_prices.Given as goal

abbrev pub invariant-loop-edge : goal.invariant-loop-edge
invariant-loop-edge l = record {
  made : l.prices.items ≡ map (λ x. nat_abs (deadhead_price l.pool l.self x)) (take l.edge-index l.edges);
  small : All (λ n. n ≤ 4000000000000000000) l.prices.items;
  none : (k : ℕ) → k < l.edge-index → pos 0 ≤ℤ deadhead_price l.pool l.self (slice_index_or l.edges k no_edge);
}
