use Rattle.std.proofs.Common.{◌≡◌, ℕ, ◌+◌, ◌-◌, ◌<◌, ◌∙◌, List, length, map, drop, ap, arith, sym}
use Rattle.std.proofs.lemmas.List.{length-map}
use Rattle.grown_trees.specs.Backward.{Found, found_by, read_from}
use Rattle.grown_trees.specs.Blocks.{joined}
use Rattle.grown_trees.specs.declared.growing.GrowingNode.{GrowingNode}
use Rattle.grown_trees.proofs.Joining.{node_of, read_more, rest_few}
use Rattle.grown_trees.proofs.Reading.{read_few}
use Rattle.grown_trees.proofs.way.Way.read_blocks.Goals as goal

pub read_block-requires : goal.read_block-requires
read_block-requires c =
    let blocks = c.args.blocks.now in
    let k = c.loop-i.i - 1 in
    let less : k < length blocks = omega (arith, c.loop-i-test.true, c.loop-i.auto.i) in
    let next : c.loop-i.i ≡ k + 1 = omega (arith, c.loop-i-test.true) in
    let rest = joined (drop c.loop-i.i blocks) in
    omega (
      arith,
      ap (λ (f : Found). f.whole) c.loop-i.invariant,
      read_few (found_by c.args.self.now) (map node_of rest),
      length-map rest node_of,
      ap (λ (n : ℕ). length (joined (drop n blocks))) next,
      rest_few blocks k c.index-blocks-i.result less,
      ap length c.index-blocks-i.is,
      c.requires,
    )

pub loop-i-preserved : goal.loop-i-preserved
loop-i-preserved c =
    let blocks = c.args.blocks.now in
    let k = c.loop-i.i - 1 in
    let less : k < length blocks = omega (arith, c.loop-i-test.true, c.loop-i.auto.i) in
    let next : c.loop-i.i ≡ k + 1 = omega (arith, c.loop-i-test.true) in
    let first = found_by c.args.self.now in
    let x = c.index-blocks-i.result in
    c.in_ok-read_block.ensures
    ∙ ap (λ (f : Found). read_from f (map node_of x)) (c.loop-i.invariant ∙ ap (λ (n : ℕ). read_from first (map node_of (joined (drop n blocks)))) next)
    ∙ ap (λ (es : List GrowingNode). read_from (read_from first (map node_of (joined (drop (k + 1) blocks)))) (map node_of es)) c.index-blocks-i.is
    ∙ sym (read_more blocks k x less first)
