use Rattle.road_network.proofs.Incident.{incident_has}
use Rattle.std.proofs.Common.{length}
use Rattle.road_network.proofs.network.Network.degree.Goals as goal

pub returns-clause-complete : goal.returns-clause-complete
returns-clause-complete c = λ e number there.
    let p = c.args.self.now in incident_has p c.args.v e (length p.edges) number.from_one number.in_range there
