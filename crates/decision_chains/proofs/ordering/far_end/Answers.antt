use Rattle.std.proofs.Common.{◌≡◌, ◌+◌, ◌-◌, ◌≤◌, length, length-append, sym, ap, subst, arith, [], ◌∷◌}
use Rattle.decision_chains.specs.Exclusions.{IsChainEnd, AreJoined}
use Rattle.decision_chains.specs.Neighbours.{times}
use Rattle.decision_chains.proofs.PlanTimes.{times-append, times-same}
use Rattle.decision_chains.proofs.Walking.{last_is}
use Rattle.decision_chains.proofs.ordering.far_end.Goals as goal

pub returns-clause-end : goal.returns-clause-end
returns-clause-end c =
    let is = c.in_ok-edges.ensures in
    let edges = c.in_ok-edges.edges in
    let place : c.len.result - 1 + 1 ≡ length edges.items = omega (arith, c.len.ensures, edges.ok.0, ap length is.last, length-append is.front (is.end ∷ [])) in
    let same = last_is c.args.chains.now c.args.edge _ edges.items c.walk.new.marks is (c.len.result - 1) c.index.result.now place c.index.ensures in
    subst (IsChainEnd c.args.chains.now.decisions.now) (sym same) is.ends

pub returns-clause-joined : goal.returns-clause-joined
returns-clause-joined c =
    let is = c.in_ok-edges.ensures in
    let edges = c.in_ok-edges.edges in
    let place : c.len.result - 1 + 1 ≡ length edges.items = omega (arith, c.len.ensures, edges.ok.0, ap length is.last, length-append is.front (is.end ∷ [])) in
    let same = last_is c.args.chains.now c.args.edge _ edges.items c.walk.new.marks is (c.len.result - 1) c.index.result.now place c.index.ensures in
    let some : 1 ≤ times is.end edges.items = omega (arith, ap (times is.end) is.last, times-append is.end is.front (is.end ∷ []), times-same is.end []) in
    subst (AreJoined c.args.chains.now.decisions.now c.args.edge) (sym same) (is.joined is.end some)
