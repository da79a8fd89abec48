use Rattle.std.proofs.Common.{arith, subst, sym}
use Rattle.std.proofs.lemmas.List.Elements.{All-take}
use Rattle.road_network.specs.Lists.{AreJoining, IsLaidOut}
use Rattle.road_network.proofs.Incident.{joining_in}
use Rattle.road_network.proofs.Making.{lists_same, degrees_are}
use Rattle.road_network.proofs.network.Network.new.Goals as goal

pub starts_of-requires-clause-joining : goal.starts_of-requires-clause-joining
starts_of-requires-clause-joining c =
    joining_in c.args.inst.now c.vertices-vertices.ensures.valid c.vertices-vertices.result c.edges-edges.result.now c.vertices-vertices.ensures.value c.edges-edges.ensures.value

pub lay_out-requires-clause-joining : goal.lay_out-requires-clause-joining
lay_out-requires-clause-joining c =
    joining_in c.args.inst.now c.vertices-vertices.ensures.valid c.vertices-vertices.result c.edges-edges.result.now c.vertices-vertices.ensures.value c.edges-edges.ensures.value

pub count_ends-requires-clause-joining : goal.count_ends-requires-clause-joining
count_ends-requires-clause-joining c =
    All-take (AreJoining c.vertices-vertices.result) c.required.result c.edges-edges.result.now
    (joining_in c.args.inst.now c.vertices-vertices.ensures.valid c.vertices-vertices.result c.edges-edges.result.now c.vertices-vertices.ensures.value c.edges-edges.ensures.value)

pub invariant_of-result : goal.invariant_of-result
invariant_of-result c =
    let p = c.args.inst.now in
    let valid = c.vertices-vertices.ensures.valid in
    let vertices = c.vertices-vertices.ensures.value in
    let starts = c.in_ok-starts.starts.items in
    let incident = c.in_ok-incident.incident.items in
    let degrees = c.in_ok-required_degrees.required_degrees.items in
    subst (λ q. IsLaidOut q starts incident degrees c.in_ok-reached.reached.items) (sym c.in_ok-copy.ensures)
    (record {
      valid = valid;
      lists = lists_same _ p.vertices _ p.edges _ starts incident vertices c.edges-edges.ensures.value c.deref.ensures.value c.in_ok-incident.ensures;
      degrees_long = omega (arith, vertices, c.in_ok-required_degrees.ensures.long);
      degrees = degrees_are p valid c.required.result c.edges-edges.result.now degrees c.required.ensures.value c.edges-edges.ensures.value
          (λ v within. c.in_ok-required_degrees.ensures.counted v (omega (arith, within, vertices)));
      reached_long = c.in_ok-reached.ensures.long;
      reaches = c.in_ok-reached.ensures.reaches;
    })
