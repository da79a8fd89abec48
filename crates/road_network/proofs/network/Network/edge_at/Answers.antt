use Rattle.std.proofs.Common.{subst}
use Rattle.road_network.specs.Lists.{IsLaidOut}
use Rattle.road_network.proofs.Making.{edge_there}
use Rattle.road_network.proofs.network.Network.edge_at.Goals as goal

pub returns-clause-number : goal.returns-clause-number
returns-clause-number c =
    let p = c.args.self.now in
    let parts = c.self.inside in
    let network = subst (λ q. IsLaidOut q parts.starts.items parts.incident.items parts.required_degrees.items parts.reached.items) c.self.view_is c.self.invariant in
    (edge_there p parts.starts.items parts.incident.items network.lists c.args.v c.args.i c.index.result.now c.index-2.result.now c.requires.vertex.in_range c.requires.below
    c.index.ensures c.index-2.ensures).0

pub returns-clause-there : goal.returns-clause-there
returns-clause-there c =
    let p = c.args.self.now in
    let parts = c.self.inside in
    let network = subst (λ q. IsLaidOut q parts.starts.items parts.incident.items parts.required_degrees.items parts.reached.items) c.self.view_is c.self.invariant in
    (edge_there p parts.starts.items parts.incident.items network.lists c.args.v c.args.i c.index.result.now c.index-2.result.now c.requires.vertex.in_range c.requires.below
    c.index.ensures c.index-2.ensures).1
