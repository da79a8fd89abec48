use Rattle.std.proofs.Common.{◌≡◌, ◌+◌, ◌<◌, ◌++◌, ◌∷◌, List, length, take, drop, set, subst, sym}
use Rattle.grown_trees.specs.declared.growing.GrowingNode.{GrowingNode}
use Rattle.grown_trees.proofs.Leasts.{replaced}
use Rattle.grown_trees.proofs.block.Block.replace.Goals as goal

pub returns : goal.returns
returns c =
    let xs = c.self.inside.nodes.items in
    subst (λ (es : List GrowingNode). set xs c.args.place c.args.leaf ≡ take c.args.place es ++ (c.args.leaf ∷ drop (c.args.place + 1) es)) c.self.view_is
    (replaced xs c.args.place c.args.leaf (subst (λ (es : List GrowingNode). c.args.place < length es) (sym c.self.view_is) c.requires))
