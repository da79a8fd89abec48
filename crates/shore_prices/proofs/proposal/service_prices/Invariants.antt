use Rattle.std.proofs.Common.{◌≡◌, ◌*◌, take, map, pos}
use Rattle.price_points.specs.Limits.{denominator}
use Rattle.shore_prices.proofs.proposal.service_prices.Given as goal

-- the prices so far
abbrev pub invariant-loop-edge : goal.invariant-loop-edge
invariant-loop-edge l = l.prices.items ≡ map (λ x. pos (denominator * x.service)) (take l.edge-index l.required)
