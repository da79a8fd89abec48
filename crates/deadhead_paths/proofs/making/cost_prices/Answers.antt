use Rattle.std.proofs.Common.{◌≡◌, map, sym, ap, ◌∙◌, arith, subst}
use Rattle.std.proofs.lemmas.List.{take_all}
use Rattle.carp_base.specs.declared.edge.Edge.{Edge}
use Rattle.deadhead_paths.specs.Prices.{ArePrices, costs_of}
use Rattle.deadhead_paths.proofs.Joining.{costs_fit}
use Rattle.deadhead_paths.proofs.making.cost_prices.Goals as goal

pub returns-clause-fit : goal.returns-clause-fit
returns-clause-fit c =
    let p = c.args.inst.now in
    let edges = c.edges-edges.result.now in
    let all : c.loop-edge.prices.items ≡ costs_of p =
    c.loop-edge.invariant ∙ ap (map (λ (x : Edge). x.cost)) (take_all c.loop-edge.edge-index edges (omega arith) ∙ c.edges-edges.ensures.value) in
    subst (ArePrices p) (sym all) (costs_fit p c.edges-edges.ensures.valid)
