use Rattle.std.proofs.Common.{◌≡◌, ◌∙◌, List, get_or, set, ap, arith}
use Rattle.std.proofs.lemmas.List.{set-get_or}
use Rattle.grown_trees.specs.Growth.{turns_in}
use Rattle.grown_trees.specs.declared.growing.GrowingNode.{GrowingNode}
use Rattle.grown_trees.proofs.Joining.{turns_few, turns_more}
use Rattle.grown_trees.proofs.blocks.turns_of.Goals as goal

pub overflow_add-turns : goal.overflow_add-turns
overflow_add-turns c =
    let y = c.index_mut.result.now in
    let here : y ≡ get_or c.args.blocks.now.items c.loop-i.i y = c.index_mut.ensures.value ∙ ap (λ (bs : List (List GrowingNode)). get_or bs c.loop-i.i y) c.loop-i.invariant.0 in
    omega (
      arith,
      c.loop-i.invariant.1,
      c.turns-turns.ensures.turns,
      ap (turns_in c.args.cost) here,
      turns_few c.args.blocks.now.items c.loop-i.i y (omega (arith, c.loop-i-test.true, c.len-i-end.ensures)) c.args.cost,
      c.requires,
    )

pub loop-i-preserved : goal.loop-i-preserved
loop-i-preserved c =
    let y = c.index_mut.result.now in
    let here : y ≡ get_or c.args.blocks.now.items c.loop-i.i y = c.index_mut.ensures.value ∙ ap (λ (bs : List (List GrowingNode)). get_or bs c.loop-i.i y) c.loop-i.invariant.0 in (
      ap (λ (z : List GrowingNode). set c.loop-i.blocks.items c.loop-i.i z) (c.turns-turns.ensures.same ∙ c.index_mut.ensures.value) ∙ set-get_or c.loop-i.blocks.items c.loop-i.i y
          ∙ c.loop-i.invariant.0,
      omega (
        arith,
        c.loop-i.invariant.1,
        c.turns-turns.ensures.turns,
        ap (turns_in c.args.cost) here,
        turns_more c.args.blocks.now.items c.loop-i.i y (omega (arith, c.loop-i-test.true, c.len-i-end.ensures)) c.args.cost,
      ),
    )
