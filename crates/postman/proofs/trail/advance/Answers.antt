use Rattle.std.proofs.Common.{◌≡◌, ℕ, ◌-◌, ◌<◌, ◌≤◌, List, true, length, get_or, refl, ap, subst, arith}
use Rattle.std.specs.List.{Contains}
use Rattle.std.proofs.lemmas.Result.{IfOk-weaker}
use Rattle.carp_base.specs.Problem.{Problem, IsEdgeNumber, edge_at}
use Rattle.road_network.specs.Incidence.{has_end, incident}
use Rattle.edge_components.specs.Parts.{parts_of}
use Rattle.plan_model.specs.declared.step.Step.{Step}
use Rattle.plan_model.specs.Plans.{Leads}
use Rattle.postman.proofs.Walks.{leads_last}
use Rattle.postman.proofs.Worth.{ones, parts_read}
use Rattle.postman.proofs.Crossing.{crossed}
use Rattle.postman.proofs.Turning.{gone_back}
use Rattle.postman.proofs.trail.advance.Goals as goal

pub turn-requires-clause-number : goal.turn-requires-clause-number
turn-requires-clause-number c = λ xs s is.
    let p = c.args.inst.now in
    (leads_last p p.depot xs s c.args.v (subst (λ (steps : List Step). Leads p p.depot steps c.args.v) is c.requires.trail.leads)).number

pub turn-requires-clause-room : goal.turn-requires-clause-room
turn-requires-clause-room c =
    omega (arith, c.requires.trail.few, ones c.args.walk.now, c.requires.valid.few_edges, c.requires.valid.few_required)

pub returns-in_ok-to : goal.returns-in_ok-to
returns-in_ok-to c =
    let p = c.args.inst.now in
    let v = c.args.v in
    let i = c.first_open-i.result in
    let e = c.edge_at.result in
    let left = c.args.left.now in
    let number = subst (λ (q : Problem). IsEdgeNumber q e) c.requires.net c.edge_at.ensures.number in
    let there = subst (λ (q : Problem). has_end v (edge_at q e) ≡ true) c.requires.net c.edge_at.ensures.there in
    let before = subst (λ (q : Problem). (k : ℕ) → get_or c.args.next.now v 0 ≤ k → k < i → parts_of left (get_or (incident q v) k 0) ≡ 0) c.requires.net
    c.first_open-i.ensures.before in
    let some : 1 ≤ get_or left (e - 1) 0 =
    omega (arith, c.first_open-i.ensures.open (omega (arith, c.if-i-degree.true, c.degree.ensures.value)), ap (parts_of left) c.edge_at.ensures.value, parts_read left e number.from_one) in
    crossed p c.requires.valid left c.args.next.now c.args.stack.now.items c.args.walk.now v i e (get_or left (e - 1) 0) c.requires.trail number there refl some before
    c.cross.new.left c.cross.new.stack.items c.in_ok-to.to c.in_ok-to.ensures.left c.in_ok-to.ensures.stack c.in_ok-to.ensures.to

pub returns-else-i-degree : goal.returns-else-i-degree
returns-else-i-degree c =
    let p = c.args.inst.now in
    let v = c.args.v in
    let i = c.first_open-i.result in
    let left = c.args.left.now in
    let complete = subst (λ (q : Problem). (e : ℕ) → IsEdgeNumber q e → has_end v (edge_at q e) ≡ true → Contains (incident q v) e) c.requires.net c.degree.ensures.complete in
    let all : length (incident p v) ≤ i = subst (λ (q : Problem). length (incident q v) ≤ i) c.requires.net (omega (arith, c.degree.ensures.value, c.if-i-degree.false)) in
    let before = subst (λ (q : Problem). (k : ℕ) → get_or c.args.next.now v 0 ≤ k → k < i → parts_of left (get_or (incident q v) k 0) ≡ 0) c.requires.net
    c.first_open-i.ensures.before in
    IfOk-weaker c.turn.result _ _
    (λ to turned. gone_back p c.requires.valid left c.args.next.now c.args.stack.now.items c.args.walk.now v i c.requires.trail complete all before
    c.turn.new.stack.items c.turn.new.walk to turned) c.turn.ensures
