use Rattle.std.proofs.Common.{◌≡◌, length, arith}
use Rattle.edge_components.proofs.Tallying.{parts_from, parts_to}
use Rattle.edge_components.proofs.tallies.are_parts.Goals as goal

pub returns-then-x-edge_count : goal.returns-then-x-edge_count
returns-then-x-edge_count c =
    let p = c.args.inst.now in
    let x = c.args.x.now in
    let long : length x ≡ length p.edges = omega (arith, c.if-x-edge_count.true, c.edge_count.ensures.value) in
    (λ small. parts_from p x long (c.are_small.ensures.0 small), λ are. c.are_small.ensures.1 (parts_to p x are))
