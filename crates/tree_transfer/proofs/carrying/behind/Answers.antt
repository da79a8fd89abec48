use Rattle.std.proofs.Common.{ap, arith, drop, subst, sym, ◌∙◌, ◌<◌, ◌≡◌, length}
use Rattle.branch_rules.specs.declared.node.Node.{Node}
use Rattle.tree_transfer.specs.Carrying.{IsForest, Opens}
use Rattle.tree_transfer.proofs.Forests.{begun, closed, ended, forest_on, opens_few}
use Rattle.tree_transfer.proofs.carrying.behind.Goals as goal

pub loop-place-init : goal.loop-place-init
loop-place-init c = record { left = λ first rest is. begun (drop c.args.from c.args.tree.now.nodes) first rest is; few = omega arith }

pub loop-place-preserved : goal.loop-place-preserved
loop-place-preserved c =
    let all = c.args.tree.now.nodes in
    let before = c.loop-place.left in
    let less : c.loop-place.place < length all = omega (arith, c.loop-place-test.true, c.len-place-end.ensures) in
    let opens = subst (λ (n : Node). Opens before n c.open_after-left.result) c.node.ensures c.open_after-left.ensures in
    record {
      left = λ first rest is. forest_on all c.loop-place.place before c.open_after-left.result rest less (omega (arith, c.if-left-eq0.false)) opens (c.loop-place.invariant.left first rest is);
      few = omega (arith, opens_few before _ c.open_after-left.result opens, c.loop-place.invariant.few);
    }

pub returns-then-left-eq0-clause-behind : goal.returns-then-left-eq0-clause-behind
returns-then-left-eq0-clause-behind c = λ first rest is.
    closed _ rest (subst (λ n. IsForest n (drop c.loop-place.place c.args.tree.now.nodes) rest) c.if-left-eq0.true (c.loop-place.invariant.left first rest is))

pub returns-clause-behind : goal.returns-clause-behind
returns-clause-behind c = λ first rest is.
    let all = c.args.tree.now.nodes in
    let end : c.loop-place.place ≡ length all = omega (arith, c.loop-place-test.false, c.len-place-end.ensures, c.loop-place.auto.place-end (omega (arith, c.requires.within, c.len-place-end.ensures))) in
    ap (λ n. drop n all) (c.len.ensures ∙ sym end) ∙ ended all c.loop-place.place c.loop-place.left rest end (c.loop-place.invariant.left first rest is)
