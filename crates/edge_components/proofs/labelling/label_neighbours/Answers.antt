use Rattle.std.proofs.Common.{◌≡◌, ℕ, ◌≤◌, true, length, arith, subst}
use Rattle.std.specs.List.{Contains}
use Rattle.carp_base.specs.Problem.{Problem, IsEdgeNumber, edge_at}
use Rattle.road_network.specs.Incidence.{has_end, incident}
use Rattle.edge_components.proofs.Searching.{all_through}
use Rattle.edge_components.proofs.labelling.label_neighbours.Goals as goal

pub returns-clause-search : goal.returns-clause-search
returns-clause-search c =
    let p = c.args.inst.now in
    let loop = c.loop-i.invariant in
    let complete = subst (λ (q : Problem). (e : ℕ) → IsEdgeNumber q e → has_end c.args.v (edge_at q e) ≡ true → Contains (incident q c.args.v) e) c.requires.net c.degree-i-end.ensures.complete in
    let all : length (incident p c.args.v) ≤ c.loop-i.i =
    subst (λ (q : Problem). length (incident q c.args.v) ≤ c.loop-i.i) c.requires.net (omega (arith, c.degree-i-end.ensures.value, c.loop-i-test.false)) in
    all_through p c.args.x.now c.args.least c.args.root c.args.v c.loop-i.i c.loop-i.labels c.loop-i.waiting.items c.requires.valid c.requires.root loop.search loop.labelled
    complete loop.through all
