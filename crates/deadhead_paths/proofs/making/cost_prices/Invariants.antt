use Rattle.std.proofs.Common.{◌≡◌, take, map}
use Rattle.deadhead_paths.proofs.making.cost_prices.Given as goal

abbrev pub invariant-loop-edge : goal.invariant-loop-edge
invariant-loop-edge l = l.prices.items ≡ map (λ x. x.cost) (take l.edge-index l.edges)
