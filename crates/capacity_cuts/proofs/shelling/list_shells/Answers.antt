use Rattle.std.proofs.Common.{List, [], subst, arith}
use Rattle.std.proofs.lemmas.List.{append-nil}
use Rattle.cut_pool.specs.declared.shore.Weighted.{Weighted}
use Rattle.capacity_cuts.specs.Levels.{AreShellsFrom}
use Rattle.capacity_cuts.proofs.Layering.{next_gap, none_left, end_small}
use Rattle.capacity_cuts.proofs.shelling.list_shells.Goals as goal

pub add_shell-requires-clause-small : goal.add_shell-requires-clause-small
add_shell-requires-clause-small c =
    end_small c.args.inst.now c.args.lengths.now c.args.ends.now c.loop-end.end-index c.requires.lengths c.requires.ends (omega (arith, c.loop-end-test.true))

pub add_shell-requires-clause-gap : goal.add_shell-requires-clause-gap
add_shell-requires-clause-gap c = λ less.
    next_gap c.args.inst.now c.args.lengths.now c.args.ends.now c.loop-end.level c.loop-end.end-index c.requires.lengths c.requires.ends (omega (arith, c.loop-end-test.true))
    c.loop-end.invariant.below less

pub returns : goal.returns
returns c =
    let p = c.args.inst.now in
    subst (λ (l : List Weighted). AreShellsFrom p 0 l) (append-nil c.loop-end.shells.items)
    (c.loop-end.invariant.carries []
    (none_left p c.args.lengths.now c.args.ends.now c.loop-end.level c.requires.lengths c.requires.ends (λ k below. c.loop-end.invariant.below k (omega (arith, below, c.loop-end-test.false)))))
