use Rattle.std.proofs.Common.{◌+◌, ◌∙◌, List, [], ◌∷◌, ◌++◌, take, drop, set, ap, arith}
use Rattle.grown_trees.specs.Blocks.{joined, lacking}
use Rattle.grown_trees.specs.declared.growing.GrowingNode.{GrowingNode}
use Rattle.grown_trees.proofs.Filling.{filled_put}
use Rattle.grown_trees.proofs.Joining.{block_is, put_is}
use Rattle.grown_trees.proofs.blocks.split_in.Goals as goal

pub returns-clause-nodes : goal.returns-clause-nodes
returns-clause-nodes c =
    let blocks = c.roomy_spot-spot.new.blocks.items in
    let spot = c.roomy_spot-spot.result in
    let s = c.roomy_spot-spot.ensures.spot.spot_is in
    let news = c.args.inner ∷ c.args.first ∷ c.args.second ∷ [] in
    ap (λ (y : List GrowingNode). joined (set blocks spot.block y)) c.split.ensures
    ∙ put_is blocks c.args.place spot s c.index_mut.result.now news (c.index_mut.ensures.value ∙ block_is blocks c.args.place spot s c.index_mut.result.now)
    ∙ ap (λ (es : List GrowingNode). take c.args.place es ++ (news ++ drop (c.args.place + 1) es)) c.roomy_spot-spot.ensures.same

pub returns-clause-filled : goal.returns-clause-filled
returns-clause-filled c =
    let blocks = c.roomy_spot-spot.new.blocks.items in
    let spot = c.roomy_spot-spot.result in
    let s = c.roomy_spot-spot.ensures.spot.spot_is in
    let news = c.args.inner ∷ c.args.first ∷ c.args.second ∷ [] in
    omega (
      arith,
      ap (λ (y : List GrowingNode). lacking (set blocks spot.block y)) c.split.ensures,
      filled_put blocks c.args.place spot s c.index_mut.result.now news (c.index_mut.ensures.value ∙ block_is blocks c.args.place spot s c.index_mut.result.now) (omega arith),
      c.roomy_spot-spot.ensures.filled,
    )
