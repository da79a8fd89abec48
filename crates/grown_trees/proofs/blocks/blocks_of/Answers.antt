use Rattle.std.proofs.Common.{◌≡◌, ◌∙◌, ◌++◌, ◌-◌, List, length, ap, sym, arith, append_assoc}
use Rattle.grown_trees.specs.Blocks.{joined, lacking}
use Rattle.grown_trees.specs.declared.growing.GrowingNode.{GrowingNode}
use Rattle.grown_trees.proofs.Filling.{lacking_push}
use Rattle.grown_trees.proofs.Joining.{joined_push}
use Rattle.grown_trees.proofs.blocks.blocks_of.Goals as goal

pub loop-rest-preserved : goal.loop-rest-preserved
loop-rest-preserved c =
    let before = c.loop-rest.blocks.items in
    let x = c.refill.new.self in
    let behind = c.split_at.result.1.now in
    let none : lacking before ≡ 0 = c.loop-rest.invariant.1.1.0 (omega (arith, c.loop-rest-test.true)) in
    let all : lacking c.push.new.self.items ≡ 511 - length x = omega (arith, none, ap lacking c.in_ok-push.ensures.items, lacking_push before x) in (
      ap (λ (bs : List (List GrowingNode)). joined bs ++ behind) c.in_ok-push.ensures.items
          ∙ ap (λ (es : List GrowingNode). es ++ behind) (joined_push before x)
          ∙ append_assoc (joined before) x behind
          ∙ ap (λ (es : List GrowingNode). joined before ++ es) (ap (λ (es : List GrowingNode). es ++ behind) c.refill.ensures ∙ sym c.split_at.ensures.by_index.0)
          ∙ c.loop-rest.invariant.0,
      (
        omega (arith, all),
        (
          (λ more. omega (arith, all, more, c.min.ensures, ap length c.refill.ensures, c.split_at.ensures.front_len, c.split_at.ensures.back_len)),
          omega (arith, c.loop-rest.invariant.1.1.1, c.push.ensures.capacity),
        ),
      ),
    )
