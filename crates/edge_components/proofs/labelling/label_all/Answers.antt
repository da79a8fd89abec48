use Rattle.std.proofs.Common.{◌≡◌, ℕ, ◌+◌, [], arith, subst}
use Rattle.edge_components.specs.Search.{IsSearch}
use Rattle.edge_components.proofs.Searching.{all_labelled}
use Rattle.edge_components.proofs.labelling.label_all.Goals as goal

pub returns : goal.returns
returns c =
    let p = c.args.inst.now in
    let last : c.loop-root.root ≡ p.vertices + 1 = omega arith in
    all_labelled p c.args.x.now c.args.least c.loop-root.labels
    (subst (λ (root : ℕ). IsSearch p c.args.x.now c.args.least root c.loop-root.labels [] 0) last c.loop-root.invariant.search)
