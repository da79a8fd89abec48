use Rattle.std.proofs.Common.{◌≡◌, ◌+◌, ◌*◌, take, map, pos}
use Rattle.dual_master.proofs.services.service_prices.Given as goal

-- the prices so far
abbrev pub invariant-loop-edge : goal.invariant-loop-edge
invariant-loop-edge l = l.prices.items ≡ map (λ x. pos (l.unit * x.service + l.share * x.demand)) (take l.edge-index l.required)
