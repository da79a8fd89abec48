use Rattle.packing_trees.proofs.Passing.{fails_on, here_right, none_wait, right_on}
use Rattle.packing_trees.proofs.walking.nodes_reason.Goals as goal

pub returns-then-not-branch : goal.returns-then-not-branch
returns-then-not-branch c =
    let p = c.args.inst.now in
    let nodes = c.args.nodes.now in
    let branch = c.loop-i.branch.items in
    let says = rw c.deref.ensures.value at c.in_ok-reason.ensures in
    let right = here_right p c.args.bound nodes c.loop-i.i branch _ c.loop-i-test.true c.in_ok-reason.reason c.if-is_some.ensures says in
    let goes = rw c.if-not-branch.true at c.in_ok-pass.ensures.waits in
    right_on p c.args.bound nodes c.loop-i.i branch _ c.loop-i-test.true right _ goes c.loop-i.invariant.right (none_wait p c.args.bound _)

pub loop-i-preserved : goal.loop-i-preserved
loop-i-preserved c =
    let p = c.args.inst.now in
    let nodes = c.args.nodes.now in
    let branch = c.loop-i.branch.items in
    let says = rw c.deref.ensures.value at c.in_ok-reason.ensures in
    let right = here_right p c.args.bound nodes c.loop-i.i branch _ c.loop-i-test.true c.in_ok-reason.reason c.if-is_some.ensures says in
    let goes = rw c.if-not-branch.false at c.in_ok-pass.ensures.waits in
    record {
      choices = c.in_ok-pass.ensures.choices p (c.requires.fit c.loop-i.i _ c.loop-i-test.true) c.loop-i.invariant.choices;
      fails = fails_on p c.args.bound nodes c.loop-i.i branch _ c.loop-i-test.true right _ goes c.loop-i.invariant.fails;
      right = right_on p c.args.bound nodes c.loop-i.i branch _ c.loop-i-test.true right _ goes c.loop-i.invariant.right;
    }
