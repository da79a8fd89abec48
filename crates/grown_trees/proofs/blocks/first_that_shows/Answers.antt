use Rattle.std.proofs.Common.{◌≡◌, ◌+◌, ◌∙◌, ℕ, length, position, Some, ap, arith, sym}
use Rattle.std.proofs.lemmas.List.Quantifiers.{position-Some}
use Rattle.grown_trees.specs.Growth.{shows_just}
use Rattle.grown_trees.proofs.Joining.{more_long, part_few}
use Rattle.grown_trees.proofs.Leasts.{none, position_joined, position_more}
use Rattle.grown_trees.proofs.blocks.first_that_shows.Goals as goal

pub overflow_add-result : goal.overflow_add-result
overflow_add-result c =
    let x = c.block-item.result in
    let found : position (shows_just c.args.shows) x ≡ Some c.in-Some.place = sym c.first_in.ensures ∙ c.in-Some.is in
    omega (
      arith,
      (position-Some (shows_just c.args.shows) x c.in-Some.place none found).0,
      part_few c.args.blocks.now c.loop-block.block-index x c.loop-block-test.true,
      ap length c.block-item.is,
      c.loop-block.invariant.0,
      c.requires,
    )

pub returns-in-Some : goal.returns-in-Some
returns-in-Some c =
    ap (λ (n : ℕ). Some (n + c.in-Some.place)) c.loop-block.invariant.0
    ∙ sym (position_joined (shows_just c.args.shows) c.args.blocks.now c.loop-block.block-index c.block-item.result c.in-Some.place c.loop-block-test.true c.block-item.is
    c.loop-block.invariant.1 (sym c.first_in.ensures ∙ c.in-Some.is))

pub overflow_add-before : goal.overflow_add-before
overflow_add-before c =
    omega (
      arith,
      part_few c.args.blocks.now c.loop-block.block-index c.block-item.result c.loop-block-test.true,
      ap length c.block-item.is,
      c.len-before.ensures,
      c.loop-block.invariant.0,
      c.requires,
    )

pub loop-block-preserved : goal.loop-block-preserved
loop-block-preserved c = (
  omega (
    arith,
    more_long c.args.blocks.now c.loop-block.block-index c.block-item.result c.loop-block-test.true,
    ap length c.block-item.is,
    c.len-before.ensures,
    c.loop-block.invariant.0,
  ),
  position_more (shows_just c.args.shows) c.args.blocks.now c.loop-block.block-index c.block-item.result c.loop-block-test.true c.block-item.is c.loop-block.invariant.1
      (sym c.first_in.ensures ∙ c.in_default.is),
)
