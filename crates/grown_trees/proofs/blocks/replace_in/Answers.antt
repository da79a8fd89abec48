use Rattle.std.proofs.Common.{◌∙◌, List, [], ◌∷◌, set, ap, arith, subst}
use Rattle.grown_trees.specs.Blocks.{IsSpot, joined, lacking}
use Rattle.grown_trees.specs.declared.growing.GrowingNode.{GrowingNode}
use Rattle.grown_trees.proofs.Filling.{filled_put}
use Rattle.grown_trees.proofs.Joining.{block_is, put_is}
use Rattle.grown_trees.proofs.blocks.replace_in.Goals as goal

pub returns-clause-nodes : goal.returns-clause-nodes
returns-clause-nodes c =
    let blocks = c.args.blocks.now.items in
    let spot = c.find-spot.result in
    let s : IsSpot blocks c.args.place spot = subst (λ (bs : List (List GrowingNode)). IsSpot bs c.args.place spot) c.deref.ensures.value c.find-spot.ensures in
    ap (λ (y : List GrowingNode). joined (set blocks spot.block y)) c.replace.ensures
    ∙ put_is blocks c.args.place spot s c.index_mut.result.now (c.args.leaf ∷ []) (c.index_mut.ensures.value ∙ block_is blocks c.args.place spot s c.index_mut.result.now)

pub returns-clause-filled : goal.returns-clause-filled
returns-clause-filled c =
    let blocks = c.args.blocks.now.items in
    let spot = c.find-spot.result in
    let s : IsSpot blocks c.args.place spot = subst (λ (bs : List (List GrowingNode)). IsSpot bs c.args.place spot) c.deref.ensures.value c.find-spot.ensures in
    omega (
      arith,
      ap (λ (y : List GrowingNode). lacking (set blocks spot.block y)) c.replace.ensures,
      filled_put blocks c.args.place spot s c.index_mut.result.now (c.args.leaf ∷ []) (c.index_mut.ensures.value ∙ block_is blocks c.args.place spot s c.index_mut.result.now) (omega arith),
    )
